-- Bytes written in turn: what was written so far are the first of them, and they grow by what a write took.
use Rattle.std.proofs.Common.{◌≡◌, ℕ, ◌+◌, ◌-◌, List, ◌++◌, Option, None, Some, sym, ap, subst, ◌∙◌}
use Rattle.std.proofs.Common.{length, take, drop, append_assoc, take_all, length-drop, take-add, arith}
use Rattle.std.specs.Io.KnownBytes.{Appends}

Appends-trans : (a b c : Option (List ℕ)) (bs cs : List ℕ) → Appends a b bs → Appends b c cs → Appends a c (bs ++ cs)
Appends-trans None b c bs cs p q = tt
Appends-trans (Some x) None c bs cs p q = absurd p
Appends-trans (Some x) (Some y) None bs cs p q = absurd q
Appends-trans (Some x) (Some y) (Some z) bs cs p q = q ∙ ap (λ l. l ++ cs) p ∙ append_assoc x bs cs

-- the first f bytes were written, and n more of the rest
pub Appends-more : (a b c : Option (List ℕ)) (bytes : List ℕ) (f n : ℕ) → Appends a b (take f bytes)
    → Appends b c (take n (take (length bytes - f) (drop f bytes))) → Appends a c (take (f + n) bytes)
Appends-more a b c bytes f n before more =
    let rest : take (length bytes - f) (drop f bytes) ≡ drop f bytes = take_all _ _ (omega (arith, length-drop f bytes)) in
    subst (Appends a c) (sym (take-add f n bytes)) (Appends-trans a b c _ _ before (subst (λ l. Appends b c (take n l)) rest more))
