-- The orbit of a capture: how many bytes one turn of the disk took, told by how well the capture repeats itself at that distance.
use Rattle.std.specs.Prelude.{ℕ, zero, suc, ◌+◌, ◌-◌, ◌*◌, ◌%◌, Bool, List, [], ◌∷◌, eqb, ltb, length, get_or, take}
use Rattle.base.specs.Choice.{pick}
use Rattle.nib_orbit.specs.declared.Estimate.{Estimate}

-- the shortest and the longest span of a zone, and the one in the middle; zones are counted modulo 4
unfoldable pub lowest : ℕ → ℕ
lowest zone = get_or (6183 ∷ 6598 ∷ 7073 ∷ 7616 ∷ []) (zone % 4) 0

unfoldable pub highest : ℕ → ℕ
highest zone = get_or (6311 ∷ 6726 ∷ 7201 ∷ 7824 ∷ []) (zone % 4) 0

unfoldable pub middle : ℕ → ℕ
middle zone = get_or (6247 ∷ 6662 ∷ 7137 ∷ 7720 ∷ []) (zone % 4) 0

-- how many pairs of bytes of a window lie a span apart
abbrev pub observations : List ℕ → ℕ → ℕ
observations window span = length window - span

-- how many of them are pairs of equal bytes: of the first n, and of all
unfoldable pub agreeing : List ℕ → ℕ → ℕ → ℕ
agreeing window span zero = 0
agreeing window span (suc n) = agreeing window span n + pick (eqb (get_or window n 0) (get_or window (n + span) 0)) 1 0

unfoldable pub agreements : List ℕ → ℕ → ℕ
agreements window span = agreeing window span (observations window span)

-- what a window says of a span
abbrev pub estimate : List ℕ → ℕ → Estimate
estimate window span =
    record { span = span; agreements = agreements window span; observations = observations window span }

-- how far two numbers are apart
abbrev pub apart : ℕ → ℕ → ℕ
apart a b = (a - b) + (b - a)

-- a span is nearer the middle than another, or it is as near and smaller
abbrev pub nearer : ℕ → ℕ → ℕ → Bool
nearer mid s t = pick (eqb (apart s mid) (apart t mid)) (ltb s t) (ltb (apart s mid) (apart t mid))

-- of two estimates: the first one's agreements times the other one's observations; the larger cross product has the larger fraction of
-- observations that agree
abbrev pub cross_product : Estimate → Estimate → ℕ
cross_product a b = a.agreements * b.observations

-- an estimate is better than another: by the larger fraction, and at equal fractions by the span nearer the middle
unfoldable pub better : ℕ → Estimate → Estimate → Bool
better mid a b =
    pick (eqb (cross_product a b) (cross_product b a)) (nearer mid a.span b.span) (ltb (cross_product b a) (cross_product a b))

-- the better of two, and the best of the n + 1 spans from low on
abbrev pub winner : ℕ → Estimate → Estimate → Estimate
winner mid a b = pick (better mid a b) a b

unfoldable pub best_of : List ℕ → ℕ → ℕ → ℕ → Estimate
best_of window mid low zero = estimate window low
best_of window mid low (suc n) = winner mid (estimate window (low + suc n)) (best_of window mid low n)

-- the best of the spans of a zone
unfoldable pub best : List ℕ → ℕ → Estimate
best window zone = best_of window (middle zone) (lowest zone) (highest zone - lowest zone)

-- the estimate that is taken: the best, or that of the middle where fewer than a quarter of the best one's observations agree
unfoldable pub chosen_estimate : List ℕ → ℕ → Estimate
chosen_estimate window zone =
    pick (ltb ((best window zone).agreements * 4) (best window zone).observations) (estimate window (middle zone)) (best window zone)

-- its span
abbrev pub chosen : List ℕ → ℕ → ℕ
chosen window zone = (chosen_estimate window zone).span

-- the ring that a window shows: its first bytes, as many as the chosen span; a window of another length than 8,192 shows none
unfoldable pub recovered : List ℕ → ℕ → List ℕ
recovered window zone = pick (eqb (length window) 8192) (take (chosen window zone) window) []
