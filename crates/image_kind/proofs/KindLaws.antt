-- The kind of an image by its tests, and what goes by the kind.
use mathlib.Core.Path.{◌≡◌, refl, ap, sym, ◌∙◌}
use mathlib.Core.Bool.{Bool, true, false}
use mathlib.Core.List.{List}
use Prim.Native.Nat.{ℕ, ◌≤◌}
use native.Mathlib.Omega.{arith}
use lib.ListN.{length}
use Rattle.base.specs.Choice.{pick}
use Rattle.std.specs.Prelude.{Option, Some, None, Result, Ok, Err, MatchResult, is_ok}
use Rattle.base.specs.Answers.{number_of, refusal_number, answer}
use Rattle.base.specs.declared.Refusal.{Refusal}
use Rattle.base.specs.declared.Refusal.TheVariants.{RingEmpty, RingTooLong, WrongImage, WrongEntries, NoDirectory, WrongLink}
use Rattle.base.specs.declared.Refusal.TheVariants.{NoRoom, NoRing, WrongSum, NoRecord, Ambiguous, IllegalSymbol}
use Rattle.geometry.proofs.D64Laws.{d64_facts}
use Rattle.geometry.specs.D64.{tracks_of}
use Rattle.nib_catalogue.specs.Catalogue.{is_nib}
use Rattle.image_g64.specs.G64.{is_g64}
use Rattle.image_kind.specs.declared.Kind.{Kind}
use Rattle.image_kind.specs.declared.Kind.TheVariants.{D64, G64, Nib}
use Rattle.image_kind.specs.Kinds.{by_size, kind_of, fault_by, fault_of}

module _ (image : List ℕ) where
  pub kind_g64 : is_g64 image ≡ true → G64 ≡ kind_of image
  unfolding kind_of
  kind_g64 g = rw g

  module _ (g : is_g64 image ≡ false) where
    pub kind_nib : is_nib image ≡ true → Nib ≡ kind_of image
    unfolding kind_of
    kind_nib n = rw (g, n)

    pub kind-size : is_nib image ≡ false → (k : Option ℕ) → tracks_of (length image) ≡ k → by_size k ≡ kind_of image
    unfolding kind_of
    kind-size n k e = rw (g, n, e)

  -- the answer by the kind; r is what the table or the catalogue is
  module _ (k : Kind) (e : kind_of image ≡ k) where
    pub fault_is : fault_by image k ≡ fault_of image
    unfolding fault_of
    fault_is = ap (fault_by image) (sym e)

-- a refusal is told by its number
told : (why : Refusal) → ◌≡◌ {A = Result (Unit {0}) Refusal} (Err why) (answer (number_of why) tt)
told RingEmpty = refl
told RingTooLong = refl
told WrongImage = refl
told WrongEntries = refl
told NoDirectory = refl
told WrongLink = refl
told NoRoom = refl
told NoRing = refl
told WrongSum = refl
told NoRecord = refl
told Ambiguous = refl
told IllegalSymbol = refl

-- what is answered without its value
pub no_value : {A : Type 0} (r : Result A Refusal) (m : Result (Unit {0}) Refusal) (Q : A → Type 0) → is_ok m ≡ is_ok r
    → MatchResult r Q (λ why. m ≡ Err why) → m ≡ answer (refusal_number r) tt
no_value (Ok value) (Ok u) Q v h = refl
no_value (Ok value) (Err why) Q v h = absurd cc
no_value (Err why) m Q v h = h ∙ told why

-- a D64 has at most 42 tracks
size-highest : (size n : ℕ) (k : Option ℕ) → tracks_of size ≡ k → by_size k ≡ D64 n → n ≤ 42
size-highest size n (Some m) e q = let f = d64_facts size m e in let z : m ≡ n = cc in omega arith
size-highest size n None e q = let z : ◌≡◌ {A = ℕ} 0 1 = cc in let w : ⊥ = omega arith in absurd w

kind-highest : (image : List ℕ) (n : ℕ) (a b : Bool) → pick a G64 (pick b Nib (by_size (tracks_of (length image)))) ≡ D64 n → n ≤ 42
kind-highest image n true b q = let z : ◌≡◌ {A = ℕ} 0 1 = cc in let w : ⊥ = omega arith in absurd w
kind-highest image n false true q = let z : ◌≡◌ {A = ℕ} 0 1 = cc in let w : ⊥ = omega arith in absurd w
kind-highest image n false false q = size-highest (length image) n (tracks_of (length image)) refl q

pub d64_highest : (image : List ℕ) (n : ℕ) → kind_of image ≡ D64 n → n ≤ 42
unfolding kind_of
d64_highest image n q = kind-highest image n (is_g64 image) (is_nib image) q
