-- The search for a sync end.
--     SyncAt           a zero after ten places that are not zero
--     sync_sound       what is found is one, with its ten ones among the places searched
--     sync_complete    one among the places searched is found, or one before it
--     passed           ones are passed, and counted
--     further          a search that goes further finds the same
use mathlib.Core.Path.{◌≡◌, sym, ap, ap₂, ◌∙◌, subst}
use mathlib.Core.Logic.{◌≢◌}
use mathlib.Core.Bool.{Bool, true, false, ◌&&◌}
use Prim.Native.Nat.{ℕ, zero, suc, ◌+◌, ◌-◌, ◌≤◌, ◌<◌}
use native.Mathlib.Omega.{arith}
use native.Mathlib.Decide.{dec_le, ℕ_discrete}
use lib.Dec.{eqb, leb}
use Rattle.base.specs.Choice.{pick}
use Rattle.base.proofs.Tests.{eqb_yes, eqb_no, leb_yes, leb_no}
use Rattle.std.specs.Prelude.{Some, None}
use Rattle.scan_sync.specs.Sync.{run, sync_from}

-- h is a sync end: a zero after ten places that are not zero
pub record SyncAt (x : ℕ → ℕ) (h : ℕ) : Type 0 where
  pub zer : x h ≡ 0
  pub ten : (i : ℕ) → i < h → h ≤ i + 10 → x i ≢ 0

-- the clauses of the search, by facts on numbers
pub at-hit : (x : ℕ → ℕ) (c k p : ℕ) → x p ≡ 0 → 10 ≤ c → sync_from x (suc k) p c ≡ Some p
unfolding sync_from
at-hit x c k p e l =
    ap₂ (λ (a b : Bool). pick (a && b) (Some p) (sync_from x k (p + 1) (run (x p) c))) (eqb_yes (x p) 0 e) (leb_yes 10 c l)

pub at_reset : (x : ℕ → ℕ) (c k p : ℕ) → x p ≡ 0 → c < 10 → sync_from x (suc k) p c ≡ sync_from x k (p + 1) 0
unfolding sync_from
at_reset x c k p e l =
    ap₂ (λ (a b : Bool). pick (a && b) (Some p) (sync_from x k (p + 1) (pick a 0 (c + 1)))) (eqb_yes (x p) 0 e) (leb_no 10 c l)

pub at_one : (x : ℕ → ℕ) (c k p : ℕ) → x p ≢ 0 → sync_from x (suc k) p c ≡ sync_from x k (p + 1) (c + 1)
unfolding sync_from
at_one x c k p ne =
    ap (λ (a : Bool). pick (a && leb 10 c) (Some p) (sync_from x k (p + 1) (pick a 0 (c + 1)))) (eqb_no (x p) 0 ne)

-- a search passes n ones, and counts them
pub passed : (x : ℕ → ℕ) (n m k p q c d : ℕ) → n + m ≡ k → p + n ≡ q → c + n ≡ d → ((i : ℕ) → i < n → x (p + i) ≢ 0)
    → sync_from x k p c ≡ sync_from x m q d
passed x zero m k p q c d e f g o =
    let e' : m ≡ k = omega arith in
    let f' : p ≡ q = omega arith in
    let g' : c ≡ d = omega arith in
    cc
passed x (suc n) m zero p q c d e f g o = absurd (omega arith)
passed x (suc n) m (suc k) p q c d e f g o =
    at_one x c k p (subst (λ (r : ℕ). x r ≢ 0) (omega arith) (o 0 (omega arith)))
    ∙ passed x n m k (p + 1) q (c + 1) d (omega arith) (omega arith) (omega arith)
    (λ i l. subst (λ (r : ℕ). x r ≢ 0) (omega arith) (o (suc i) (omega arith)))

-- what is found lies in the places searched, and has its ten ones there
abbrev pub SyncFound : (ℕ → ℕ) → ℕ → ℕ → ℕ → Type 0
SyncFound x b z h = SyncAt x h × (b + 10 ≤ h) × (h < z)

pub sync_sound : (x : ℕ → ℕ) (b c k p h : ℕ) → b + c ≤ p → ((i : ℕ) → i < p → p ≤ i + c → x i ≢ 0) → sync_from x k p c ≡ Some h → SyncFound
    x b (p + k) h
sync_sound x b c zero p h bc ones e = absurd (let z : ◌≡◌ {A = ℕ} 0 1 = unfold sync_from in cc in omega arith)
sync_sound x b c (suc k) p h bc ones e =
    go (ℕ_discrete (x p) 0) (dec_le 10 c) (λ c' bc' run' e'. subst (λ (z : ℕ). SyncFound x b z h) (omega arith)
    (sync_sound x b c' k (p + 1) h bc' run' e'))
  where
    go : Dec (x p ≡ 0) → Dec (10 ≤ c)
        → ((c' : ℕ) → b + c' ≤ p + 1 → ((i : ℕ) → i < p + 1 → p + 1 ≤ i + c' → x i ≢ 0) → sync_from x k (p + 1) c' ≡ Some h → SyncFound x b
        (p + suc k) h)
        → SyncFound x b (p + suc k) h
    go (yes z) (yes l) ih =
        let q : p ≡ h = (let m : Some p ≡ Some h = sym (at-hit x c k p z l) ∙ e in cc) in
        (record { zer = ap x (sym q) ∙ z; ten = λ i i1 i2. ones i (omega arith) (omega arith) }, omega arith, omega arith)
    go (yes z) (no l) ih = ih 0 (omega arith) (λ i i1 i2. absurd (omega arith)) (sym (at_reset x c k p z (omega arith)) ∙ e)
    go (no z) d ih = ih (c + 1) (omega arith) (λ i i1 i2. here i i1 i2 (ℕ_discrete i p)) (sym (at_one x c k p z) ∙ e)
      where
        here : (i : ℕ) → i < p + 1 → p + 1 ≤ i + (c + 1) → Dec (i ≡ p) → x i ≢ 0
        here i i1 i2 (yes f) = λ y. z (ap x (sym f) ∙ y)
        here i i1 i2 (no f) = ones i (omega arith) (omega arith)

-- a sync end in the places searched is found, or one before it
pub sync_complete : (x : ℕ → ℕ) (c k p q : ℕ) → SyncAt x q → p ≤ q → q < p + k → p + 10 ≤ q + c → (h : ℕ) × (sync_from x k p c ≡ Some h) ×
    (h ≤ q)
sync_complete x c zero p q sy l m w = absurd (omega arith)
sync_complete x c (suc k) p q sy l m w =
    go (ℕ_discrete (x p) 0) (dec_le 10 c) (λ c' l' w'. sync_complete x c' k (p + 1) q sy l' (omega arith) w')
  where
    Out : ℕ → ℕ → ℕ → Type 0
    Out c' k' p' = (h : ℕ) × (sync_from x k' p' c' ≡ Some h) × (h ≤ q)

    go : Dec (x p ≡ 0) → Dec (10 ≤ c) → ((c' : ℕ) → p + 1 ≤ q → p + 1 + 10 ≤ q + c' → Out c' k (p + 1)) → Out c (suc k) p
    go (yes z) (yes g) ih = (p, at-hit x c k p z g, l)
    go (yes z) (no g) ih =
        let r : Out 0 k (p + 1) = ih 0 (omega arith) (far (dec_le q (p + 10))) in
        (r.0, at_reset x c k p z (omega arith) ∙ r.1, r.2)
      where
        far : Dec (q ≤ p + 10) → p + 1 + 10 ≤ q + 0
        far (yes f) = absurd (sy.ten p (omega arith) f z)
        far (no f) = omega arith
    go (no z) d ih =
        let r : Out (c + 1) k (p + 1) = ih (c + 1) (next (ℕ_discrete p q)) (omega arith) in
        (r.0, at_one x c k p z ∙ r.1, r.2)
      where
        next : Dec (p ≡ q) → p + 1 ≤ q
        next (yes f) = absurd (z (ap x f ∙ sy.zer))
        next (no f) = omega arith

pub none-at : (h : ℕ) → None ≡ Some h → ⊥
none-at h e = let z : ◌≡◌ {A = ℕ} 0 1 = cc in omega arith

-- a search that goes further finds the same sync end
pub further : (x : ℕ → ℕ) (n m p c h : ℕ) → n ≤ m → sync_from x n p c ≡ Some h → sync_from x m p c ≡ Some h
unfolding sync_from
further x zero m p c h l e = absurd (none-at h e)
further x (suc n) zero p c h l e = absurd (omega arith)
further x (suc n) (suc m) p c h l e =
    go (eqb (x p) 0 && leb 10 c) e (λ q. further x n m (p + 1) (run (x p) c) h (omega arith) q)
  where
    go : (b : Bool) → pick b (Some p) (sync_from x n (p + 1) (run (x p) c)) ≡ Some h
        → (sync_from x n (p + 1) (run (x p) c) ≡ Some h → sync_from x m (p + 1) (run (x p) c) ≡ Some h)
        → pick b (Some p) (sync_from x m (p + 1) (run (x p) c)) ≡ Some h
    go true q ih = q
    go false q ih = ih q

-- no place is left
pub loop_out : (x : ℕ → ℕ) (c n s off : ℕ) → n ≤ off → sync_from x (n - off) (s + off) c ≡ None
unfolding sync_from
loop_out x c n s off h = ap (λ (k : ℕ). sync_from x k (s + off) c) e
  where
    e : n - off ≡ 0
    e = omega arith
