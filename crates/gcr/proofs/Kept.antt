-- What group decoding accepts is what it accepted before it told the index of a bad symbol.
use mathlib.Core.Path.{◌≡◌, refl, subst}
use mathlib.Core.Bool.{Bool, true, false}
use mathlib.Core.List.{List, map}
use Prim.Native.Nat.{ℕ, ◌<◌}
use lib.Dec.{ltb}
use lib.ListN.{length}
use Rattle.std.specs.Prelude.{Err}
use Rattle.base.specs.Choice.{pick}
use Rattle.base.proofs.Tests.{lt_of}
use Rattle.gcr.specs.Symbols.{nibble_of, bytes_of, Decoded, Bytes, IllegalAt, first_illegal, from_symbols}
use Rattle.gcr.specs.Answers.{answer4}
use Rattle.gcr.specs.declared.Illegal.{Illegal}
use Rattle.gcr.specs.Before.{plain_answer, without_index, AsBefore}

same_answer : (d : Decoded) → without_index (answer4 d) ≡ plain_answer d
unfolding answer4
same_answer (Bytes xs) = refl
same_answer (IllegalAt k) = refl

index-inside : (ss : List ℕ) (illegal : Illegal) → answer4 (from_symbols ss) ≡ Err illegal → illegal.index < length ss
unfolding answer4 from_symbols
index-inside ss illegal e = go (ltb (first_illegal ss) (length ss)) refl e
  where
    by : Bool → Decoded
    by b = pick b (IllegalAt (first_illegal ss)) (Bytes (bytes_of (map nibble_of ss)))

    go : (b : Bool) → ltb (first_illegal ss) (length ss) ≡ b → answer4 (by b) ≡ Err illegal → illegal.index < length ss
    go true f e =
        let k : first_illegal ss ≡ illegal.index = cc in
        subst (λ (k : ℕ). k < length ss) k (lt_of (first_illegal ss) (length ss) f)
    go false f e = cc

pub as_before : AsBefore
as_before = record { same = same_answer; inside = index-inside }
