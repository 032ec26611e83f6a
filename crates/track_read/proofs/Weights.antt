-- Statuses, and lists of them as bytes.
--     outweighs, stays        the weightier of two is what the rule makes of both
--     given-is .. differs-not tests for a sector that is given
--     blank-statuses          the statuses before the first visit
--     put_more                one more stored
--     hears_other .. hears_new    the ways out of `hear`
use mathlib.Core.Path.{◌≡◌, refl, sym, ap, ap₂, ◌∙◌, subst}
use mathlib.Core.Bool.{Bool, true, false, not}
use mathlib.Core.List.{List, [], ◌∷◌, map}
use Prim.Native.Nat.{ℕ, zero, suc, ◌+◌, ◌-◌, ◌*◌, ◌≤◌, ◌<◌}
use native.Mathlib.Nat.{sub-zero, zero-add}
use native.Mathlib.Omega.{arith}
use denote.Enum.Bare.{sameb}
use lib.Dec.{ltb}
use lib.ListN.{length, get_or, set, take, replicate, length-map, length-take}
use lib.Seq.{sets}
use Rattle.std.proofs.lemmas.List.{map-set, map_more, get_or-map, take-replicate}
use Rattle.base.specs.Choice.{pick}
use Rattle.base.proofs.Tests.{ltb_yes, ltb_no}
use Rattle.base.proofs.InRow.{sets_more}
use Rattle.track_read.specs.declared.Status.{Status}
use Rattle.track_read.specs.declared.Status.TheVariants.{HandedOut, NoHeader, NoData, FalseData, FalseHeader}
use Rattle.track_read.specs.contracts.Status.{the_type}
use Rattle.track_read.specs.declared.Saying.{Saying}
use Rattle.track_read.specs.Inside.{byte_of, weight_of, number_said, weigh, Heard}
use Rattle.track_read.proofs.HearLaws.{heard_other, heard_again, heard_new}

abbrev weightier : Status → Status → Status
weightier old new = pick (ltb (weight_of old) (weight_of new)) new old

abbrev Agree : Status → Status → Type 0
Agree old new = byte_of (weightier old new) ≡ weigh (byte_of old) (byte_of new)

agree : (old new : Status) → Agree old new
unfolding weigh
agree old new =
    elim old as (λ o. Agree o new) [
      | HandedOut ↦ elim new as (Agree HandedOut) [
        | HandedOut ↦ refl
        | NoHeader ↦ refl
        | NoData ↦ refl
        | FalseData ↦ refl
        | FalseHeader ↦ refl
      ]
      | NoHeader ↦ elim new as (Agree NoHeader) [
        | HandedOut ↦ refl
        | NoHeader ↦ refl
        | NoData ↦ refl
        | FalseData ↦ refl
        | FalseHeader ↦ refl
      ]
      | NoData ↦ elim new as (Agree NoData) [
        | HandedOut ↦ refl
        | NoHeader ↦ refl
        | NoData ↦ refl
        | FalseData ↦ refl
        | FalseHeader ↦ refl
      ]
      | FalseData ↦ elim new as (Agree FalseData) [
        | HandedOut ↦ refl
        | NoHeader ↦ refl
        | NoData ↦ refl
        | FalseData ↦ refl
        | FalseHeader ↦ refl
      ]
      | FalseHeader ↦ elim new as (Agree FalseHeader) [
        | HandedOut ↦ refl
        | NoHeader ↦ refl
        | NoData ↦ refl
        | FalseData ↦ refl
        | FalseHeader ↦ refl
      ]
    ]

pub outweighs : (old new : Status) → weight_of old < weight_of new → byte_of new ≡ weigh (byte_of old) (byte_of new)
outweighs old new l = rw (ltb_yes (weight_of old) (weight_of new) l) at (agree old new)

pub stays : (old new : Status) → weight_of new ≤ weight_of old → byte_of old ≡ weigh (byte_of old) (byte_of new)
stays old new l = rw (ltb_no (weight_of old) (weight_of new) l) at (agree old new)

-- ---- tests for a sector that is given
abbrev is_handed : Status → Bool
is_handed s = sameb the_type s HandedOut

pub given-is : (s : Status) → is_handed s ≡ true → byte_of s ≡ 1
given-is HandedOut e = refl
given-is NoHeader e = cc
given-is NoData e = cc
given-is FalseData e = cc
given-is FalseHeader e = cc

pub given-not : (s : Status) → is_handed s ≡ false → byte_of s ≡ 1 → ⊥
given-not HandedOut e = absurd cc
given-not NoHeader e = λ q. omega arith
given-not NoData e = λ q. omega arith
given-not FalseData e = λ q. omega arith
given-not FalseHeader e = λ q. omega arith

pub differs : (s : Status) → not (is_handed s) ≡ true → byte_of s ≡ 1 → ⊥
differs s e = given-not s (by (is_handed s) e)
  where
    by : (b : Bool) → not b ≡ true → b ≡ false
    by true q = sym q
    by false q = refl

pub differs-not : (s : Status) → not (is_handed s) ≡ false → byte_of s ≡ 1
differs-not s e = given-is s (by (is_handed s) e)
  where
    by : (b : Bool) → not b ≡ false → b ≡ true
    by true q = refl
    by false q = sym q

-- ---- a status list as bytes: before the first visit; one byte more; and what is heard of a sector
map_filled : (n : ℕ) → map byte_of (replicate n NoHeader) ≡ replicate n 2
map_filled zero = refl
map_filled (suc n) = ap (λ (l : List ℕ). 2 ∷ l) (map_filled n)

pub blank-statuses : (n k : ℕ) → n ≡ k → k ≤ 21 → map byte_of (take (n - 0) (replicate 21 NoHeader)) ≡ replicate k 2
blank-statuses n k e l = rw (sub-zero, e, take-replicate k 21 NoHeader l) (map_filled k)

pub put_more : (lent list : List ℕ) (statuses : List Status) (i b : ℕ) (d : Status) → i < length statuses
    → list ≡ sets lent 0 (map byte_of (take i statuses)) → b ≡ byte_of (get_or statuses i d)
    → set list i b ≡ sets lent 0 (map byte_of (take (i + 1) statuses))
put_more lent list statuses i b d l e q =
    let front = map byte_of (take i statuses) in
    let long : length front ≡ i = omega (arith, length-map (take i statuses) byte_of, length-take i statuses) in
    ap₂ (λ (y : List ℕ) (x : ℕ). set y i x) e q
    ∙ ap (λ (k : ℕ). set (sets lent 0 front) k (byte_of (get_or statuses i d))) (sym (zero-add i))
    ∙ sets_more front (byte_of (get_or statuses i d) ∷ []) lent 0 i long
    ∙ ap (sets lent 0) (sym (map_more byte_of statuses i d l))

module _ (said : Saying) (payload payloads : List ℕ) (statuses : List Status) (l : said.sector < length statuses) (now d : Status)
    (w : byte_of now ≡ weigh (byte_of (get_or statuses said.sector d)) (byte_of said.status)) where
  abbrev bytes : List ℕ
  bytes = map byte_of statuses

  old-is : get_or bytes said.sector 0 ≡ byte_of (get_or statuses said.sector d)
  old-is = get_or-map byte_of statuses said.sector d 0 l

  weighed : byte_of now ≡ weigh (get_or bytes said.sector 0) (number_said said)
  weighed = w ∙ ap (λ (k : ℕ). weigh k (number_said said)) (sym old-is)

  abbrev Hears : List ℕ → Bool → Type 0
  Hears after r = Heard (length statuses) said payload payloads bytes after (map byte_of (set statuses said.sector now)) r

  told : (after : List ℕ) (r : Bool)
      → Heard (length statuses) said payload payloads bytes after (set bytes said.sector (byte_of now)) r → Hears after r
  told after r h =
      subst (λ (y : List ℕ). Heard (length statuses) said payload payloads bytes after y r) (sym (map-set byte_of statuses said.sector now)) h

  pub hears_other : (number_said said ≡ 1 → ⊥) → Hears payloads false
  hears_other n = told payloads false (heard_other (length statuses) said payload payloads bytes l (byte_of now) weighed n)

  pub hears_again : number_said said ≡ 1 → byte_of (get_or statuses said.sector d) ≡ 1 → Hears payloads false
  hears_again n o =
      told payloads false (heard_again (length statuses) said payload payloads bytes l (byte_of now) weighed n (old-is ∙ o))

  pub hears_new : number_said said ≡ 1 → (byte_of (get_or statuses said.sector d) ≡ 1 → ⊥) → (after : List ℕ)
      → after ≡ sets payloads (256 * said.sector) payload → Hears after true
  hears_new n o after e =
      told after true (heard_new (length statuses) said payload payloads bytes l (byte_of now) weighed n (λ z. o (sym old-is ∙ z)) after e)
