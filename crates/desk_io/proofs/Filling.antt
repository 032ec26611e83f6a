-- Reads into lent bytes: what was read stands where it was read to, and the filled front grows by it.
use Rattle.std.proofs.Common.{◌≡◌, ℕ, ◌+◌, List, ◌++◌, Option, None, Some, Result, Ok, Err, IfOk, sym, ap, subst, ◌∙◌}
use Rattle.std.proofs.Common.{length, take, drop, append_assoc, drop_at}
use lib.Seq.{take-append-le, take-add}
use Rattle.std.specs.Io.{ReadsAtMost}
use Rattle.std.specs.Io.KnownBytes.{Consumes}

Consumes-trans : (a b c : Option (List ℕ)) (bs cs : List ℕ) → Consumes a b bs → Consumes b c cs → Consumes a c (bs ++ cs)
Consumes-trans None b c bs cs p q = tt
Consumes-trans (Some x) None c bs cs p q = absurd p
Consumes-trans (Some x) (Some y) None bs cs p q = absurd q
Consumes-trans (Some x) (Some y) (Some z) bs cs p q = p ∙ ap (λ l. bs ++ l) q ∙ sym (append_assoc bs cs z)

-- what was read into the part stands behind the front
pub Consumes-in_place : {E : Type 0} (a b : Option (List ℕ)) (r : Result ℕ E) (front part rest : List ℕ) (at : ℕ) → length front ≡ at → ReadsAtMost r part
    → IfOk r (λ n. Consumes a b (take n part)) → IfOk r (λ n. Consumes a b (take n (drop at (front ++ (part ++ rest)))))
Consumes-in_place a b (Ok n) front part rest at long fits read =
    subst (Consumes a b) (sym (ap (take n) (drop_at front (part ++ rest) at long) ∙ take-append-le n part rest fits.0)) read
Consumes-in_place a b (Err e) front part rest at long fits read = tt

-- the front of f bytes stayed, and n more were read behind it
pub Consumes-more : (a b c : Option (List ℕ)) (old new : List ℕ) (f n : ℕ) → take f new ≡ take f old
    → Consumes a b (take f old) → Consumes b c (take n (drop f new)) → Consumes a c (take (f + n) new)
Consumes-more a b c old new f n front before read =
    let joined : take (f + n) new ≡ take f old ++ take n (drop f new) = take-add f n new ∙ ap (λ l. l ++ take n (drop f new)) front in
    subst (Consumes a c) (sym joined) (Consumes-trans a b c _ _ before read)
