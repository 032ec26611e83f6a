-- An envelope, test by test; by which number an input is refused, and what it is where it is not.
use mathlib.Core.Path.{◌≡◌, refl, sym, ◌∙◌}
use mathlib.Core.Logic.{◌≢◌}
use mathlib.Core.Bool.{Bool, true, false, not, ◌&&◌}
use mathlib.Core.List.{List, [], ◌∷◌}
use Prim.Native.Nat.{ℕ, ◌-◌, ◌≤◌, ◌<◌}
use native.Mathlib.Omega.{arith}
use lib.Dec.{eqb, leb, ltb, leb→le}
use lib.ListN.{length, take, length-drop}
use Rattle.base.specs.Bytes.{same_bytes, two_bytes}
use Rattle.base.specs.Refusals.{ring_empty, ring_too_long, wrong_image, ◌when◌, refusal}
use Rattle.base.specs.Words.{ascii}
use Rattle.base.proofs.Picks.{never}
use Rattle.std.specs.Prelude.{Err, Option, None}
use Rattle.base.specs.Answers.{answer}
use Rattle.base.specs.declared.Refusal.{Refusal}
use Rattle.base.proofs.Answering.{unless-err}
use Rattle.base.proofs.Tests.{eqb_yes, eqb_no, ltb_yes, ltb_no, leb_yes, leb_no, from_true, le_of}
use Rattle.scan_symbols.specs.First.{first_bad_of}
use Rattle.lister.specs.Envelope.{is_envelope, ring_in, track_in, start_in, longest_listed, input_refusal, symbol_in}

module _ (input : List ℕ) where
  pub short_input : length input < 10 → false ≡ is_envelope input
  unfolding is_envelope
  short_input h = rw (leb_no 10 (length input) h)

  module _ (h : 10 ≤ length input) (same : Bool) (e : same ≡ same_bytes (take 3 input) (ascii "TRK")) where
    pub other_letters : same ≡ false → false ≡ is_envelope input
    unfolding is_envelope
    other_letters t = rw (leb_yes 10 (length input) h, ← e, t)

    pub by_version : same ≡ true → (version : ℕ) → version ≡ two_bytes input 3 → eqb version 1 ≡ is_envelope input
    unfolding is_envelope
    by_version t version v = rw (leb_yes 10 (length input) h, ← e, t, v)

-- an envelope has ten bytes in front of its ring
pub header-there : (input : List ℕ) (envelope : Bool) → envelope ≡ is_envelope input → envelope ≡ true → 10 ≤ length input
unfolding is_envelope
header-there input envelope e t = go (leb 10 (length input)) _ refl (sym e ∙ t)
  where
    go : (b rest : Bool) → leb 10 (length input) ≡ b → b && rest ≡ true → 10 ≤ length input
    go true rest q u = leb→le 10 (length input) (from_true (leb 10 (length input)) q)
    go false rest q u = absurd (let z : ◌≡◌ {A = ℕ} 0 1 = cc in omega arith)

-- ---- its number, by the tests of the input
module _ (input : List ℕ) (envelope : Bool) (e : envelope ≡ is_envelope input) where
  pub wrong_input : envelope ≡ false → wrong_image ≡ input_refusal input
  wrong_input t = rw (← e, t)

  module _ (t : envelope ≡ true) where
    pub empty_input : length input - 10 ≡ 0 → ring_empty ≡ input_refusal input
    empty_input z = rw (← e, t, length-drop 10 input, eqb_yes (length input - 10) 0 z)

    module _ (some : length input - 10 ≢ 0) where
      pub long_input : longest_listed < length input - 10 → ring_too_long ≡ input_refusal input
      long_input l =
          rw (← e, t, length-drop 10 input, eqb_no (length input - 10) 0 some, ltb_yes longest_listed (length input - 10) l)

      pub good_input : length input - 10 ≤ longest_listed → 0 ≡ input_refusal input
      good_input l =
          rw (← e, t, length-drop 10 input, eqb_no (length input - 10) 0 some, ltb_no longest_listed (length input - 10) l)

-- ---- an input that is not refused
pub record Good (input : List ℕ) : Type 0 where
  pub header : 10 ≤ length input
  pub some : 0 < length (ring_in input)
  pub short : length (ring_in input) ≤ longest_listed

pub is_good : (input : List ℕ) → input_refusal input ≡ 0 → Good input
is_good input e = by (is_envelope input) refl (eqb (length (ring_in input)) 0) refl (ltb longest_listed (length (ring_in input))) refl e
  where
    by : (a : Bool) → is_envelope input ≡ a → (b : Bool) → eqb (length (ring_in input)) 0 ≡ b → (c : Bool)
        → ltb longest_listed (length (ring_in input)) ≡ c
        → refusal (wrong_image when not a ∷ ring_empty when b ∷ ring_too_long when c ∷ []) ≡ 0 → Good input
    by false p b q c r z = absurd (omega arith)
    by true p true q c r z = absurd (omega arith)
    by true p false q true r z = absurd (omega arith)
    by true p false q false r z =
        let n : length (ring_in input) ≢ 0 = λ z. never ⊥ (eqb (length (ring_in input)) 0) (eqb_yes (length (ring_in input)) 0 z) q in
        record {
          header = header-there input true (sym p) refl;
          some = omega arith;
          short = le_of longest_listed (length (ring_in input)) r;
        }

-- ---- the first bad symbol of its ring
module _ (input : List ℕ) where
  pub no_symbol : (why : Refusal) → answer (input_refusal input) (tt {0}) ≡ Err why → None ≡ symbol_in input
  unfolding symbol_in
  no_symbol why e = sym (unless-err (input_refusal input) (tt {0}) why None _ e)

  pub its_symbol : input_refusal input ≡ 0 → (ring : List ℕ) (start : ℕ) → ring ≡ ring_in input → start ≡ start_in input
      → first_bad_of ring (track_in input) start ≡ symbol_in input
  unfolding symbol_in
  its_symbol e ring start r s = rw (e, r, s)
