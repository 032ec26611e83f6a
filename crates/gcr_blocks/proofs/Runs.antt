-- Runs of groups: the code of one group more, and a turn of the loop that stores it.
use mathlib.Core.Path.{◌≡◌, sym, ap, ap₂, ◌∙◌}
use mathlib.Core.List.{List, [], ◌∷◌, ◌++◌, append-nil, append_assoc}
use Prim.Native.Nat.{ℕ, zero, suc, ◌+◌, ◌*◌, ◌-◌}
use native.Mathlib.Numerals.{add-one}
use native.Mathlib.Nat.{zero-add}
use native.Mathlib.Omega.{arith}
use lib.ListN.{length, take, drop, length-drop}
use lib.Seq.{sets, take_all, drop-drop, take-append-le, drop-append-le}
use Rattle.base.proofs.InRow.{sets_more}
use Rattle.gcr.specs.Groups.{encode_group, encode}
use Rattle.gcr.proofs.EncodeLaws.{length-encode}

pub encode_more : (n : ℕ) (xs : List ℕ) → encode (suc n) xs ≡ encode n xs ++ encode_group (take 4 (drop (4 * n) xs))
unfolding encode
encode_more zero xs = append-nil (encode_group (take 4 xs))
encode_more (suc n) xs =
    let e : 4 * suc n ≡ 4 + 4 * n = omega arith in
    ap (λ (r : List ℕ). encode_group (take 4 xs) ++ r) (encode_more n (drop 4 xs))
    ∙ rw (e, drop-drop (4 * n) 4 xs, append_assoc)

-- two runs, one after the other
pub encode-append : (m n : ℕ) (xs ys : List ℕ) → length xs ≡ 4 * m → encode (m + n) (xs ++ ys) ≡ encode m xs ++ encode n ys
unfolding encode
encode-append zero n [] ys e = ap (λ (k : ℕ). encode k ys) (zero-add n)
encode-append zero n (x ∷ xs) ys e = absurd (omega arith)
encode-append (suc m) n xs ys e =
    let k : suc m + n ≡ suc (m + n) = omega arith in
    rw k (ap₂ (λ (u v : List ℕ). encode_group u ++ v) (take-append-le 4 xs ys (omega arith))
    (ap (encode (m + n)) (drop-append-le 4 xs ys (omega arith)) ∙ encode-append m n (drop 4 xs) ys (omega (arith, length-drop 4 xs)))
    ∙ sym (append_assoc (encode_group (take 4 xs)) (encode m (drop 4 xs)) (encode n ys)))

-- one turn of the loop that encodes: the group is the front of what is left
pub turn : (out₀ out xs group : List ℕ) (at i : ℕ) → group ≡ take 4 (take (length xs - 4 * i) (drop (4 * i) xs))
    → out ≡ sets out₀ at (encode i xs) → sets out (at + 5 * i) (encode_group group) ≡ sets out₀ at (encode (i + 1) xs)
turn out₀ out xs group at i g e =
    let all : take (length xs - 4 * i) (drop (4 * i) xs) ≡ drop (4 * i) xs
    = take_all (length xs - 4 * i) (drop (4 * i) xs) (omega (arith, length-drop (4 * i) xs)) in
    rw (
      e,
      g,
      all,
      sets_more (encode i xs) (encode_group (take 4 (drop (4 * i) xs))) out₀ at (5 * i) (length-encode i xs),
      ← encode_more i xs,
      add-one,
    )
