-- A part filled by the generator: before the first turn, a turn, and at the end.
use mathlib.Core.Path.{◌≡◌, refl, ap, ◌∙◌}
use mathlib.Core.List.{List, ◌++◌}
use Prim.Native.Nat.{ℕ, suc, ◌+◌, ◌<◌}
use native.Mathlib.Numerals.{add-one}
use lib.ListN.{length, drop, set}
use Rattle.base.proofs.Lists.{tab-none, tab_more, tab_all}
use Rattle.replay_shared.specs.Draw.{stepped, state_after, drawn_byte, drawn}

pub draw_none : (part : List ℕ) (seed : ℕ) → part ≡ drawn seed 0 ++ drop 0 part
unfolding drawn
draw_none part seed = tab-none (λ k. drawn_byte (state_after seed (suc k))) part

pub state_none : (seed : ℕ) → seed ≡ state_after seed 0
unfolding state_after
state_none seed = refl

pub state_more : (seed i state next : ℕ) → state ≡ state_after seed i → next ≡ stepped state → next ≡ state_after seed (i + 1)
unfolding state_after
state_more seed i state next e n = n ∙ rw (e, add-one)

pub draw_more : (before part : List ℕ) (seed i next v : ℕ) → i < length before → part ≡ drawn seed i ++ drop i before
    → next ≡ state_after seed (i + 1) → v ≡ drawn_byte next → set part i v ≡ drawn seed (i + 1) ++ drop (i + 1) before
unfolding drawn
draw_more before part seed i next v h e n w =
    let f : v ≡ drawn_byte (state_after seed (suc i)) = w ∙ ap drawn_byte (n ∙ rw add-one) in
    rw (e, f) (tab_more i (λ k. drawn_byte (state_after seed (suc k))) before h)

pub draw_all : (before part : List ℕ) (seed i : ℕ) → i ≡ length before → part ≡ drawn seed i ++ drop i before
    → part ≡ drawn seed (length before)
unfolding drawn
draw_all before part seed i h e = e ∙ tab_all (λ k. drawn_byte (state_after seed (suc k))) before i h
