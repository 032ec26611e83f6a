-- The directory chain.
--     enough        its bound is no limit
--     followed      a chain that is not refused is the chain of the links, and its marks are those of its sectors
--     found         where the links make a chain, it is not refused, and its length is theirs
--     same_chain    two readers that agree on the chain's sectors find the same chain
use mathlib.Core.Path.{◌≡◌, refl, sym, ap, ◌∙◌, subst}
use mathlib.Core.Logic.{◌≢◌, ◌⊎◌, inl, inr, ⊎_elim}
use mathlib.Core.Bool.{Bool, true, false, ◌&&◌, not, true≢false}
use mathlib.Core.List.{List}
use Prim.Native.Nat.{ℕ, zero, suc, ◌+◌, ◌<◌}
use native.Mathlib.Nat.{suc-add, suc-ne-zero, suc_inj, not-suc-le-zero, le_of_suc-le-suc, add-zero}
use native.Mathlib.Decide.{ℕ_discrete}
use native.Mathlib.Omega.{arith}
use lib.Dec.{eqb}
use lib.ListN.{length, get_or}
use borrow.Author.Tests.{eqb-true, eq-eqb, ne_eqb, not-true}
use Rattle.base.specs.Choice.{pick}
use Rattle.base.specs.declared.Sector.{Sector}
use Rattle.reclaim_directory.specs.declared.Chain.{Chain}
use Rattle.reclaim_directory.specs.Marks.{mark_place, marked, mark, unmarked}
use Rattle.reclaim_directory.specs.Disk.{Reader, address, Disk, is_address}
use Rattle.std.specs.Prelude.{Result, is_ok}
use Rattle.base.specs.declared.Refusal.{Refusal}
use Rattle.reclaim_directory.specs.Chains.{ended, broken_chain, length_of, marks_of, next_track, next_sector, maygo, chain_from, chain_at}
use Rattle.theorem_clearing.specs.Links.{next, linked, mark_of, IsChain, Keeps}
use Rattle.base.proofs.Picks.{pick_ind, picks, and_left, and_right}
use Rattle.reclaim_directory.proofs.MarkLaws.{unmarked-set, set-old, set-only, now_marked, Fits, address_facts, place_in, fits-set}

module _ (disk : Disk) (read : Reader) where
  -- what an address that the chain goes to says
  go_facts : (m : List Bool) (t s : ℕ) → maygo disk read m t s ≡ true
      → (is_address disk t s ≡ true) × (marked m t s ≡ false) × ((read t s).ok ≡ true)
  go_facts m t s e =
      let r = and_right (is_address disk t s) (not (marked m t s) && (read t s).ok) e in (
        and_left (is_address disk t s) (not (marked m t s) && (read t s).ok) e,
        not-true (marked m t s) (and_left (not (marked m t s)) (read t s).ok r),
        and_right (not (marked m t s)) (read t s).ok r,
      )

  -- the bound is no limit: more steps find the same
  pub enough : (k u : ℕ) (m : List Bool) (n t s : ℕ) → unmarked m ≡ u → Fits disk m
      → chain_from (suc (u + k)) disk read m n t s ≡ chain_from (suc u) disk read m n t s
  unfolding chain_from
  enough k zero m n t s e w =
      picks (eqb t 0) (eqb t 0) _ _ _ _ refl (λ _. refl)
      (λ z. picks (maygo disk read m t s) (maygo disk read m t s) _ _ _ _ refl
      (λ g. let f = go_facts m t s g in
      absurd (suc-ne-zero _ (sym (unmarked-set m (mark_place t s) (place_in disk m t s w f.0) f.1) ∙ e)))
      (λ _. refl))
  enough k (suc u) m n t s e w =
      picks (eqb t 0) (eqb t 0) _ _ _ _ refl (λ _. refl)
      (λ z. picks (maygo disk read m t s) (maygo disk read m t s) _ _ _ _ refl
      (λ g. let f = go_facts m t s g in rw suc-add
      (enough k u (mark m t s) (n + 1) (next_track (read t s)) (next_sector (read t s))
      (suc_inj (sym (unmarked-set m (mark_place t s) (place_in disk m t s w f.0) f.1) ∙ e)) (fits-set disk m (mark_place t s) w)))
      (λ _. refl))

  -- a chain that is not refused has a length, and is the chain of the links
  abbrev Ended : List Bool → ℕ → ℕ → ℕ → Result Chain Refusal → Type 0
  Ended m n t s c =
      is_ok c ≡ true → (d : ℕ) × (length_of c ≡ n + d) × IsChain disk read m (address t s) d × Keeps read m (address t s) d (marks_of disk.marks c)

  broken : (m : List Bool) (n t s : ℕ) → Ended m n t s broken_chain
  broken m n t s e = absurd (true≢false (sym e))

  at_end : (m : List Bool) (n t s : ℕ) → t ≡ 0 → Ended m n t s (ended n m)
  unfolding linked
  at_end m n t s z e = (
    0,
    sym (add-zero n),
    record {
      ends = z;
      valid = λ k h. absurd (not-suc-le-zero h);
      readable = λ k h. absurd (not-suc-le-zero h);
      fresh = λ k h. absurd (not-suc-le-zero h);
      no_repeat = λ j k l h. absurd (not-suc-le-zero h);
    },
    record { old = λ t s h. h; new = λ k h. absurd (not-suc-le-zero h); only = λ t s h. inl h },
  )

  -- one sector more, in front
  module _ (m : List Bool) (t s : ℕ) (w : Fits disk m) (v : is_address disk t s ≡ true) (u : marked m t s ≡ false) (r : (read t s).ok ≡ true)
      (d : ℕ) (after : List Bool) (c : IsChain disk read (mark m t s) (next read (address t s)) d)
      (k : Keeps read (mark m t s) (next read (address t s)) d after) where
    here : mark_place t s < length m
    here = place_in disk m t s w v

    -- what is unmarked later was unmarked before
    earlier : (p : ℕ) → get_or (mark m t s) p false ≡ false → get_or m p false ≡ false
    earlier p e = go (get_or m p false) refl
      where
        go : (b : Bool) → get_or m p false ≡ b → b ≡ false
        go false q = refl
        go true q = absurd (true≢false (sym (set-old m (mark_place t s) p here q) ∙ e))

    valid' : (k : ℕ) → k < suc d → is_address disk (linked read (address t s) k).track (linked read (address t s) k).sector ≡ true
    unfolding linked
    valid' zero h = v
    valid' (suc k) h = c.valid k (le_of_suc-le-suc h)

    readable' : (k : ℕ) → k < suc d → (read (linked read (address t s) k).track (linked read (address t s) k).sector).ok ≡ true
    unfolding linked
    readable' zero h = r
    readable' (suc k) h = c.readable k (le_of_suc-le-suc h)

    fresh' : (k : ℕ) → k < suc d → marked m (linked read (address t s) k).track (linked read (address t s) k).sector ≡ false
    unfolding linked
    fresh' zero h = u
    fresh' (suc k) h = earlier _ (c.fresh k (le_of_suc-le-suc h))

    no_repeat' : (j k : ℕ) → j < k → k < suc d → mark_of (linked read (address t s) j) ≢ mark_of (linked read (address t s) k)
    unfolding linked
    no_repeat' j zero l h e = absurd (not-suc-le-zero l)
    no_repeat' zero (suc k) l h e =
        true≢false (sym (now_marked m t s here) ∙ ap (λ (p : ℕ). get_or (mark m t s) p false) e ∙ c.fresh k (le_of_suc-le-suc h))
    no_repeat' (suc j) (suc k) l h e = c.no_repeat j k (le_of_suc-le-suc l) (le_of_suc-le-suc h) e

    old' : (t' s' : ℕ) → marked m t' s' ≡ true → marked after t' s' ≡ true
    old' t' s' h = k.old t' s' (set-old m (mark_place t s) (mark_place t' s') here h)

    new' : (j : ℕ) → j < suc d → marked after (linked read (address t s) j).track (linked read (address t s) j).sector ≡ true
    unfolding linked
    new' zero h = k.old t s (now_marked m t s here)
    new' (suc j) h = k.new j (le_of_suc-le-suc h)

    only' : (t' s' : ℕ) → marked after t' s' ≡ true
        → (marked m t' s' ≡ true) ⊎ ((k : ℕ) × (k < suc d) × (mark_place t' s' ≡ mark_of (linked read (address t s) k)))
    unfolding linked
    only' t' s' h =
        ⊎_elim
        (λ o. elim (ℕ_discrete (mark_place t' s') (mark_place t s)) [
          | yes q ↦ inr (0, omega arith, q)
          | no q ↦ inl (sym (set-only m (mark_place t s) (mark_place t' s') q) ∙ o)
        ])
        (λ o. inr (suc o.0, (let l = o.1 in omega arith), o.2))
        (k.only t' s' h)

    pub longer : IsChain disk read m (address t s) (suc d)
    unfolding linked
    longer = record { ends = c.ends; valid = valid'; readable = readable'; fresh = fresh'; no_repeat = no_repeat' }

    pub keeps : Keeps read m (address t s) (suc d) after
    keeps = record { old = old'; new = new'; only = only' }

  pub followed : (left : ℕ) (m : List Bool) (n t s : ℕ) → Fits disk m → Ended m n t s (chain_from left disk read m n t s)
  unfolding chain_from
  followed zero m n t s w = broken m n t s
  followed (suc left) m n t s w =
      pick_ind (Ended m n t s) (eqb t 0) _ _ (λ z. at_end m n t s (eqb-true t 0 z))
      (λ z. pick_ind (Ended m n t s) (maygo disk read m t s) _ _
      (λ g. λ o. let f = go_facts m t s g in
      let h = followed left (mark m t s) (n + 1) (next_track (read t s)) (next_sector (read t s)) (fits-set disk m (mark_place t s) w) o in (
        suc h.0,
        h.1 ∙ omega arith,
        longer m t s w f.0 f.1 f.2 h.0 _ h.2 h.3,
        keeps m t s w f.0 f.1 f.2 h.0 _ h.2 h.3,
      ))
      (λ g. broken m n t s))

  -- where the links make a chain, it is found
  not-zero : (t s : ℕ) → is_address disk t s ≡ true → eqb t 0 ≡ false
  not-zero t s e = let a = address_facts disk t s e in ne_eqb t 0 (λ z. let l : 0 < t = a.0 in omega arith)

  module _ (m : List Bool) (t s d : ℕ) (c : IsChain disk read m (address t s) (suc d)) where
    rest_fresh : (k : ℕ) → k < d
        → marked (mark m t s) (linked read (next read (address t s)) k).track (linked read (next read (address t s)) k).sector ≡ false
    unfolding linked
    rest_fresh k h =
        let l : suc k < suc d = omega arith in
        let p : 0 < suc k = omega arith in
        set-only m (mark_place t s) (mark_of (linked read (next read (address t s)) k)) (λ e. c.no_repeat 0 (suc k) p l (sym e))
        ∙ c.fresh (suc k) l

    pub rest : IsChain disk read (mark m t s) (next read (address t s)) d
    unfolding linked
    rest =
        record {
          ends = c.ends;
          valid = λ k h. c.valid (suc k) (omega arith);
          readable = λ k h. c.readable (suc k) (omega arith);
          fresh = rest_fresh;
          no_repeat = λ j k l h. c.no_repeat (suc j) (suc k) (omega arith) (omega arith);
        }

    goes : maygo disk read m t s ≡ true
    unfolding linked
    goes = let z : 0 < suc d = omega arith in rw (c.valid 0 z, c.fresh 0 z, c.readable 0 z)

  found_from : (d left : ℕ) (m : List Bool) (n t s : ℕ) → d < left → IsChain disk read m (address t s) d
      → (is_ok (chain_from left disk read m n t s) ≡ true) × (length_of (chain_from left disk read m n t s) ≡ n + d)
  unfolding chain_from linked
  found_from d zero m n t s l c = absurd (not-suc-le-zero l)
  found_from zero (suc left) m n t s l c = rw (eq-eqb t 0 c.ends) (refl, sym (add-zero n))
  found_from (suc d) (suc left) m n t s l c =
      let z : eqb t 0 ≡ false = not-zero t s (c.valid 0 (omega arith)) in
      let h = found_from d left (mark m t s) (n + 1) (next_track (read t s)) (next_sector (read t s)) (le_of_suc-le-suc l) (rest m t s d c) in
      rw (z, goes m t s d c) (h.0, h.1 ∙ omega arith)

  pub found : (d : ℕ) (m : List Bool) (n t s : ℕ) → Fits disk m → IsChain disk read m (address t s) d
      → (is_ok (chain_at disk read m n t s) ≡ true) × (length_of (chain_at disk read m n t s) ≡ n + d)
  found d m n t s w c =
      let l : d < suc (unmarked m + d) = omega arith in
      rw (sym (enough d (unmarked m) m n t s refl w)) (found_from d (suc (unmarked m + d)) m n t s l c)

pub broken_off : is_ok broken_chain ≡ true → ⊥
broken_off e = true≢false (sym e)

-- two readers that agree on the sectors that the chain marks find the same chain
module _ (disk : Disk) (read read' : Reader) where
  pub same_from : (left : ℕ) (m : List Bool) (n t s : ℕ) → Fits disk m → is_ok (chain_from left disk read m n t s) ≡ true
      → ((t' s' : ℕ) → is_address disk t' s' ≡ true → marked (marks_of disk.marks (chain_from left disk read m n t s)) t' s' ≡ true
      → read t' s' ≡ read' t' s')
      → chain_from left disk read' m n t s ≡ chain_from left disk read m n t s
  unfolding chain_from
  same_from zero m n t s w o agree = refl
  same_from (suc left) m n t s w o agree =
      go (λ o' agree'. same_from left (mark m t s) (n + 1) (next_track (read t s)) (next_sector (read t s))
      (fits-set disk m (mark_place t s) w) o' agree')
      (eqb t 0) refl o agree
    where
      Agree : Result Chain Refusal → Type 0
      Agree c = (t' s' : ℕ) → is_address disk t' s' ≡ true → marked (marks_of disk.marks c) t' s' ≡ true → read t' s' ≡ read' t' s'

      onward : Reader → Reader → Result Chain Refusal
      onward r q = chain_from left disk q (mark m t s) (n + 1) (next_track (r t s)) (next_sector (r t s))

      none : Result Chain Refusal
      none = broken_chain

      -- the sector at hand is marked at the end
      at_hand : maygo disk read m t s ≡ true → is_ok (onward read read) ≡ true → Agree (onward read read) → read t s ≡ read' t s
      at_hand g o agree =
          let f = go_facts disk read m t s g in
          let h = followed disk read left (mark m t s) (n + 1) (next_track (read t s)) (next_sector (read t s))
          (fits-set disk m (mark_place t s) w) o in
          agree t s f.0 (h.3.old t s (now_marked m t s (place_in disk m t s w f.0)))

      Later : Type 0
      Later = is_ok (onward read read) ≡ true → Agree (onward read read) → onward read read' ≡ onward read read

      go2 : Later → (b : Bool) → maygo disk read m t s ≡ b → is_ok (pick b (onward read read) none) ≡ true
          → Agree (pick b (onward read read) none)
          → pick (maygo disk read' m t s) (onward read' read') none ≡ pick b (onward read read) none
      go2 later true g o agree =
          let e : read t s ≡ read' t s = at_hand g o agree in
          let h : maygo disk read' m t s ≡ true
          = subst (λ (x : Sector). (is_address disk t s && (not (marked m t s) && x.ok)) ≡ true) e g in
          rw h (subst (λ (x : Sector). chain_from left disk read' (mark m t s) (n + 1) (next_track x) (next_sector x) ≡ onward read read) e
          (later o agree))
      go2 later false g o agree = absurd (broken_off o)

      go : Later → (b : Bool) → eqb t 0 ≡ b → is_ok (pick b (ended n m) (pick (maygo disk read m t s) (onward read read) none)) ≡ true
          → Agree (pick b (ended n m) (pick (maygo disk read m t s) (onward read read) none))
          → pick b (ended n m) (pick (maygo disk read' m t s) (onward read' read') none)
          ≡ pick b (ended n m) (pick (maygo disk read m t s) (onward read read) none)
      go later true z o agree = refl
      go later false z o agree = go2 later (maygo disk read m t s) refl o agree
