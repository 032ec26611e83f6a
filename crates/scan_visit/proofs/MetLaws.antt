-- A visit as the code answers it.
--     data_found, data_none    the data search, by the sync end that it finds
--     data_near                where that lies
--     bad-met, true_met        both verdicts, by the header's
use mathlib.Core.Path.{◌≡◌, refl, sym, ap, ap₂, ◌∙◌}
use mathlib.Core.Bool.{Bool, true, false}
use Prim.Native.Nat.{ℕ, ◌+◌, ◌<◌}
use native.Mathlib.Omega.{arith}
use Rattle.gcr.specs.Places.{decode_at}
use Rattle.std.specs.Prelude.{Option, Some, None}
use Rattle.scan_sync.specs.Sync.{sync_end}
use Rattle.scan_sync.proofs.SyncLaws.{sync_sound}
use Rattle.scan_visit.specs.declared.HeaderAt.{HeaderAt}
use Rattle.scan_visit.specs.declared.HeaderAt.TheVariants.{Illegal, No, FalseSum, Sector}
use Rattle.scan_visit.specs.declared.DataAt.TheVariants.{Nowhere}
use Rattle.scan_visit.specs.Visit.{HeaderFound, BadHeader, TrueHeader, IllegalHeader, NoHeader, FalseHeader}
use Rattle.scan_visit.specs.Visit.{data_at, by_sync, data_for, by_header, visit}
use Rattle.scan_visit.specs.Answers.{header_answer, DataBlock, data_answer, met, visit_answer}
use Rattle.scan_visit.specs.Inside.{without_payload}
use Rattle.scan_visit.proofs.VisitLaws.{header→}

module _ (x : ℕ → ℕ) (h : ℕ) where
  pub data_found : (d : ℕ) → sync_end x (h + 80) 768 ≡ Some d → data_answer (data_at x d) ≡ data_answer (data_for x h)
  data_found d e = sym (ap (λ (o : Option ℕ). data_answer (by_sync x o)) e)

  pub data_none : sync_end x (h + 80) 768 ≡ None → without_payload Nowhere ≡ data_answer (data_for x h)
  data_none e = sym (ap (λ (o : Option ℕ). data_answer (by_sync x o)) e)

  pub data_near : (d : ℕ) → sync_end x (h + 80) 768 ≡ Some d → d < h + 848
  data_near d e = omega (arith, (sync_sound x (h + 80) 0 768 (h + 80) d (omega arith) (λ i i1 i2. absurd (omega arith)) e).2)

-- is it a true header
abbrev pub is_sector : HeaderAt → Bool
is_sector (Illegal k) = false
is_sector No = false
is_sector (FalseSum s) = false
is_sector (Sector s i j) = true

pub no_sector : (a : HeaderAt) → ((s i j : ℕ) → a ≡ Sector s i j → ⊥) → is_sector a ≡ false
no_sector (Illegal k) none = refl
no_sector No none = refl
no_sector (FalseSum s) none = refl
no_sector (Sector s i j) none = absurd (none s i j refl)

pub bad-met : (a : HeaderAt) (f : HeaderFound) → a ≡ header_answer f → is_sector a ≡ false → met a (without_payload Nowhere) ≡ visit_answer f
bad-met a (BadHeader fault) e n = ap (λ (y : HeaderAt). met y (without_payload Nowhere)) e
bad-met a (TrueHeader s i j f) e n =
    absurd (let q : true ≡ false = sym (ap is_sector e) ∙ n in let z : ◌≡◌ {A = ℕ} 0 1 = cc in omega arith)

pub true_met : (x : ℕ → ℕ) (track h : ℕ) (a : HeaderAt) → a ≡ header_answer (visit x track h).found → is_sector a ≡ true
    → (block : DataBlock) → block ≡ data_answer (data_for x h) → met a block ≡ visit_answer (visit x track h).found
unfolding visit
true_met x track h a e n block b = by (by_header track (data_for x h) (decode_at x h 8)) refl e
  where
    by : (f : HeaderFound) → by_header track (data_for x h) (decode_at x h 8) ≡ f → a ≡ header_answer f → met a block ≡ visit_answer f
    by (BadHeader (IllegalHeader k)) w e =
        absurd (let q : false ≡ true = sym (ap is_sector e) ∙ n in let z : ◌≡◌ {A = ℕ} 0 1 = cc in omega arith)
    by (BadHeader NoHeader) w e =
        absurd (let q : false ≡ true = sym (ap is_sector e) ∙ n in let z : ◌≡◌ {A = ℕ} 0 1 = cc in omega arith)
    by (BadHeader (FalseHeader s)) w e =
        absurd (let q : false ≡ true = sym (ap is_sector e) ∙ n in let z : ◌≡◌ {A = ℕ} 0 1 = cc in omega arith)
    by (TrueHeader s i j f) w e =
        ap₂ met e (b ∙ ap data_answer (sym (header→ x track h s i j f (data_for x h) w).2))
