-- A saying heard: the ways out of `hear`, and what a visit says as the code answers it.
use mathlib.Core.Path.{◌≡◌, refl, sym, ap, ◌∙◌, subst}
use mathlib.Core.Logic.{◌≢◌}
use mathlib.Core.Bool.{Bool, true, false, ◌&&◌, not}
use mathlib.Core.List.{List}
use Prim.Native.Nat.{ℕ, ◌*◌, ◌≤◌, ◌<◌}
use lib.Dec.{eqb, ltb}
use Rattle.std.specs.Prelude.{Option, Some, None}
use lib.ListN.{get_or, set}
use lib.Seq.{sets}
use Rattle.base.specs.Choice.{pick}
use Rattle.base.proofs.Tests.{eqb_yes, eqb_no, ltb_yes, ltb_no}
use Rattle.scan_visit.specs.Visit.{BadData, AnotherHeader, GoodData, NoSync, IllegalData, OtherMarker, FalseData}
use Rattle.scan_visit.specs.Visit.{HeaderFound, BadHeader, TrueHeader, IllegalHeader, NoHeader, FalseHeader}
use Rattle.scan_visit.specs.Answers.{Met, visit_answer}
use Rattle.track_read.specs.declared.Saying.{Saying}
use Rattle.track_read.specs.Statuses.{said_by}
use Rattle.track_read.specs.declared.Status.TheVariants.{NoHeader as Unmet}
use Rattle.track_read.specs.Inside.{number_said, saying, said_met, is_new, Heard, weigh}

-- ---- what a visit says of sector j
-- where it says nothing, it may as well say that it met no header of sector 0
abbrev pub or_nothing : Option Saying → Saying
or_nothing None = saying 0 Unmet
or_nothing (Some said) = said

abbrev pub saying_of : Met → Saying
saying_of m = or_nothing (said_met m.header m.block.verdict)

nothing : (b : Bool) → ◌≡◌ {A = ℕ} (pick b 2 2) 2
nothing true = refl
nothing false = refl

pub said-met : (j : ℕ) (f : HeaderFound)
    → said_by j f ≡ pick (eqb (saying_of (visit_answer f)).sector j) (number_said (saying_of (visit_answer f))) 2
said-met j (BadHeader (IllegalHeader k)) = sym (nothing (eqb 0 j))
said-met j (BadHeader NoHeader) = sym (nothing (eqb 0 j))
said-met j (BadHeader (FalseHeader s)) = refl
said-met j (TrueHeader s i k (BadData NoSync)) = refl
said-met j (TrueHeader s i k (BadData (IllegalData d m))) = refl
said-met j (TrueHeader s i k (BadData (OtherMarker d))) = refl
said-met j (TrueHeader s i k (BadData (FalseData d))) = refl
said-met j (TrueHeader s i k (AnotherHeader d)) = refl
said-met j (TrueHeader s i k (GoodData d p)) = refl

-- ---- the ways out of `hear`
module _ (count : ℕ) (said : Saying) (payload payloads statuses : List ℕ) where
  abbrev old : ℕ
  old = get_or statuses said.sector 0

  new_is : {a b c : Bool} → ltb said.sector count ≡ a → eqb (number_said said) 1 ≡ b → eqb old 1 ≡ c
      → is_new count said statuses ≡ a && (b && not c)
  new_is p q r = λ i. p i && (q i && not (r i))

  abbrev by : Bool → Bool → List ℕ → List ℕ → Bool → Type 0
  by new there after told r =
      (is_new count said statuses ≡ new) × (ltb said.sector count ≡ there) × (r ≡ new)
      × (after ≡ pick new (sets payloads (256 * said.sector) payload) payloads)
      × (told ≡ pick there (set statuses said.sector (weigh old (number_said said))) statuses)

  heard : (new there : Bool) (after told : List ℕ) (r : Bool) → by new there after told r
      → Heard count said payload payloads statuses after told r
  heard new there after told r (n, t, c, l, s) =
      record {
        given_now = c ∙ sym n;
        laid = l ∙ sym (ap (λ (b : Bool). pick b (sets payloads (256 * said.sector) payload) payloads) n);
        told = s ∙ sym (ap (λ (b : Bool). pick b (set statuses said.sector (weigh old (number_said said))) statuses) t);
      }

  pub heard_out : count ≤ said.sector → Heard count said payload payloads statuses payloads statuses false
  heard_out h =
      let t = ltb_no said.sector count h in
      heard false false payloads statuses false (new_is t refl refl, t, refl, refl, refl)

  module _ (h : said.sector < count) (now : ℕ) (w : now ≡ weigh old (number_said said)) where
    there : ltb said.sector count ≡ true
    there = ltb_yes said.sector count h

    put : set statuses said.sector now ≡ set statuses said.sector (weigh old (number_said said))
    put = ap (set statuses said.sector) w

    pub heard_other : number_said said ≢ 1 → Heard count said payload payloads statuses payloads (set statuses said.sector now) false
    heard_other n = heard false true payloads _ false (new_is there (eqb_no (number_said said) 1 n) refl, there, refl, refl, put)

    module _ (n : number_said said ≡ 1) where
      pub heard_again : old ≡ 1 → Heard count said payload payloads statuses payloads (set statuses said.sector now) false
      heard_again o =
          heard false true payloads _ false (new_is there (eqb_yes (number_said said) 1 n) (eqb_yes old 1 o), there, refl, refl, put)

      pub heard_new : old ≢ 1 → (after : List ℕ) → after ≡ sets payloads (256 * said.sector) payload
          → Heard count said payload payloads statuses after (set statuses said.sector now) true
      heard_new o after e =
          heard true true after _ true (new_is there (eqb_yes (number_said said) 1 n) (eqb_no old 1 o), there, refl, e, put)

-- the same of equal counts and sayings
pub as_heard : {c c' : ℕ} {a a' : Saying} {payload payloads statuses ps ss : List ℕ} {k : Bool}
    → Heard c a payload payloads statuses ps ss k → c ≡ c' → a ≡ a' → Heard c' a' payload payloads statuses ps ss k
as_heard {c} {c'} {a} {a'} {payload} {payloads} {statuses} {ps} {ss} {k} h e q =
    subst (λ (n : ℕ). Heard n a' payload payloads statuses ps ss k) e
    (subst (λ (y : Saying). Heard c y payload payloads statuses ps ss k) q h)
