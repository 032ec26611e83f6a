-- Lemma b: what stands at a sync end that the damage moved forward is no header and no data block.
use mathlib.Core.Path.{◌≡◌, refl, ap, ◌∙◌, subst}
use mathlib.Core.Logic.{◌⊎◌, inl, inr}
use Prim.Native.Nat.{ℕ, ◌+◌, ◌*◌, ◌/◌, ◌≤◌, ◌<◌}
use native.Mathlib.Omega.{arith}
use native.Mathlib.Decide.{dec_lt, ℕ_discrete}
use Rattle.gcr.specs.Symbols.{nibble_of}
use Rattle.gcr.specs.Places.{symbol_at}
use Rattle.gcr.proofs.SymbolFacts.{Bits, zero_sym, sym_of_7, sym_of_8, sym_of_0, sym_lt, top3, nib_18, nib_21}
use Rattle.theorem_dropout.proofs.Cut.{Cut}

-- the nibbles that a marker's second symbol may have
abbrev pub Second : ℕ → Type 0
Second n = (n ≡ 7) ⊎ (n ≡ 8) ⊎ (n ≡ 0)

-- h is a zero of D after a one; B has ones from h up to q, and a block with a first nibble 0 at q
module _ (B D : ℕ → ℕ) (bb : Bits B) (bd : Bits D) (u w lo hi h q : ℕ) (cut : Cut B D u w lo hi) (uh : h ≡ u + 1) (wide : q + 20 ≤ w)
    (one : D u ≡ 1) (zer : D h ≡ 0) (run : (i : ℕ) → h ≤ i → i < q → B i ≡ 1) (hq : h < q)
    (b0 : nibble_of (symbol_at B q) ≡ 0) (b1 : Second (nibble_of (symbol_at B (q + 5)))) (d0 : nibble_of (symbol_at D h) ≡ 0) where
  -- the damage covers h, and h alone
  covered : (lo ≤ h) × (h < hi)
  covered = (go1 (dec_lt h lo), go2 (dec_lt h hi))
    where
      go1 : Dec (h < lo) → lo ≤ h
      go1 (yes l) = absurd (omega (arith, cut.before h (omega arith) l (omega arith), run h (omega arith) hq))
      go1 (no l) = omega arith

      go2 : Dec (h < hi) → h < hi
      go2 (yes l) = l
      go2 (no l) = absurd (omega (arith, cut.after h (omega arith) (omega arith) (omega arith), run h (omega arith) hq))

  no_more : hi ≤ h + 1
  no_more = go (dec_lt (h + 1) hi)
    where
      go : Dec (h + 1 < hi) → hi ≤ h + 1
      go (yes l) = absurd (omega (
        arith,
        cut.inside (h + 1) (omega arith)
            (omega (arith, covered.0)) l (omega arith),
        (zero_sym D h bd d0).1,
      ))
      go (no l) = omega arith

  same : (i : ℕ) → h < i → i < w → D i ≡ B i
  same i l m = cut.after i (omega arith) (omega (arith, no_more)) m

  q_is : q ≡ h + 2
  q_is = go (dec_lt (h + 2) q) (ℕ_discrete q (h + 1))
    where
      go : Dec (h + 2 < q) → Dec (q ≡ h + 1) → q ≡ h + 2
      go (yes l) d = absurd (omega (arith, same (h + 2) (omega arith) (omega arith), run (h + 2) (omega arith) l, (zero_sym D h bd d0).2))
      go (no l) (yes e) =
          let z : B (h + 1) ≡ 0 = subst (λ (y : ℕ). B y ≡ 0) e (zero_sym B q bb b0).0 in
          absurd (omega (arith, same (h + 1) (omega arith) (omega arith), (zero_sym D h bd d0).1))
      go (no l) (no e) = omega arith

  same_at : (i j : ℕ) → i ≡ j → h < i → i < w → D i ≡ B j
  same_at i j e l m = same i l m ∙ ap B e

  -- the second symbol: 10, and the first three bits of the block's second
  second : (s v : ℕ) → symbol_at B (q + 5) ≡ s → v ≡ 16 + s / 4 → symbol_at D (h + 5) ≡ v
  second s v e f =
      let z : B (q + 3) ≡ 1 = (zero_sym B q bb b0).3 in
      let y : B (q + 4) ≡ 0 = (zero_sym B q bb b0).4 in
      let t : B (q + 5) * 4 + B (q + 5 + 1) * 2 + B (q + 5 + 2) ≡ s / 4 = top3 B (q + 5) s bb e in
      let qi : q ≡ h + 2 = q_is in
      let e0 : D (h + 5) ≡ B (q + 3) = same_at (h + 5) (q + 3) (omega arith) (omega arith) (omega arith) in
      let e1 : D (h + 5 + 1) ≡ B (q + 4) = same_at (h + 5 + 1) (q + 4) (omega arith) (omega arith) (omega arith) in
      let e2 : D (h + 5 + 2) ≡ B (q + 5) = same_at (h + 5 + 2) (q + 5) (omega arith) (omega arith) (omega arith) in
      let e3 : D (h + 5 + 3) ≡ B (q + 5 + 1) = same_at (h + 5 + 3) (q + 5 + 1) (omega arith) (omega arith) (omega arith) in
      let e4 : D (h + 5 + 4) ≡ B (q + 5 + 2) = same_at (h + 5 + 4) (q + 5 + 2) (omega arith) (omega arith) (omega arith) in
      omega arith

  -- LEMMA B: the second nibble is 2 or 15
  pub early : (nibble_of (symbol_at D (h + 5)) ≡ 2) ⊎ (nibble_of (symbol_at D (h + 5)) ≡ 15)
  early = go b1
    where
      go : Second (nibble_of (symbol_at B (q + 5))) → (nibble_of (symbol_at D (h + 5)) ≡ 2) ⊎ (nibble_of (symbol_at D (h + 5)) ≡ 15)
      go (inl e) = inr (ap nibble_of (second 23 21 (sym_of_7 (symbol_at B (q + 5)) (sym_lt B (q + 5) bb) e) refl) ∙ nib_21)
      go (inr (inl e)) = inl (ap nibble_of (second 9 18 (sym_of_8 (symbol_at B (q + 5)) (sym_lt B (q + 5) bb) e) refl) ∙ nib_18)
      go (inr (inr e)) = inl (ap nibble_of (second 10 18 (sym_of_0 (symbol_at B (q + 5)) (sym_lt B (q + 5) bb) e) refl) ∙ nib_18)
