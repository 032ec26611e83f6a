-- A master is a G64 image, and its table has a ring for each track.
--     kind_is, table_is
--     place_is      the ring of a track, as the table tells it
use mathlib.Core.Path.{◌≡◌, refl, sym, ap, ◌∙◌}
use mathlib.Core.Bool.{true, false}
use mathlib.Core.List.{List, map}
use Prim.Native.Nat.{ℕ, zero, suc, ◌+◌, ◌-◌, ◌*◌, ◌/◌, ◌%◌, ◌≤◌, ◌<◌}
use native.Mathlib.Omega.{arith}
use lib.ListN.{length, get_or}
use Rattle.std.specs.Prelude.{Option, Some, Result, Ok}
use Rattle.std.specs.List.{range_with_len}
use Rattle.std.proofs.lemmas.List.FromFn.{fill_by_all, get_or-map-range_with_len, length-map-range_with_len}
use Rattle.base.specs.declared.Refusal.{Refusal}
use Rattle.base.proofs.Tests.{ltb_yes, leb_yes, eqb_no}
use Rattle.geometry.specs.Zones.{capacity_of}
use Rattle.image_rings.specs.declared.Span.{Span}
use Rattle.image_rings.specs.Rings.{span, no_span, span_of, ring_of, is_wrong, any_wrong, table_of, ring_place}
use Rattle.image_g64.specs.G64.{is_g64, counts_right, g64_entry, g64_table}
use Rattle.image_g64.specs.Inside.{rings_or}
use Rattle.image_g64.proofs.G64Laws.{table-rings}
use Rattle.image_kind.specs.declared.Kind.TheVariants.{G64}
use Rattle.image_kind.specs.Kinds.{kind_of}
use Rattle.image_kind.proofs.KindLaws.{kind_g64}
use Rattle.g64_write.specs.Master.{master_of, entry_start, head_size}
use Rattle.theorem_masters.specs.Masters.{ring_in}
use Rattle.theorem_masters.proofs.Parts.{master_long, signed, count_is, largest_is}
use Rattle.theorem_masters.proofs.Entries.{capacity_some, entry_is}

-- ---- a table is told by its 84 entries
none_of : (entry : ℕ → Result (Option Span) Refusal) (k : ℕ) → ((h : ℕ) → h < k → is_wrong (entry h) ≡ false) → any_wrong entry k ≡ false
unfolding any_wrong
none_of entry zero f = refl
none_of entry (suc k) f = rw (none_of entry k (λ h l. f h (omega arith))) (f k (omega arith))

table_same : (f g : ℕ → Option Span) → ((h : ℕ) → h < 84 → f h ≡ g h) → table_of f ≡ table_of g
unfolding table_of
table_same f g same =
    ap (λ (s : List Span). record { spans = s })
    (fill_by_all (λ h. span_of (g h)) (map (λ h. span_of (f h)) (range_with_len 0 84)) 84 no_span
    (length-map-range_with_len (λ h. span_of (f h)) 0 84)
    (λ h l. get_or-map-range_with_len (λ k. span_of (f k)) 0 84 h h no_span l (omega arith) ∙ ap span_of (same h l)))

module _ (d64 : List ℕ) (n : ℕ) (few : n ≤ 42) where
  abbrev image : List ℕ
  image = master_of d64 n

  -- ---- what it is
  is_g64_lem : is_g64 image ≡ true
  unfolding is_g64
  is_g64_lem = rw (leb_yes 12 (length image) (omega (arith, master_long d64 n))) (signed d64 n)

  pub kind_is : kind_of image ≡ G64
  kind_is = sym (kind_g64 image is_g64_lem)

  counts : counts_right image ≡ true
  unfolding counts_right
  counts = rw (count_is d64 n, largest_is d64 n, leb_yes head_size (length image) (omega (arith, master_long d64 n)))

  -- ---- its table
  or_table : rings_or (g64_entry image) ≡ Ok (table_of (λ h. ring_of (g64_entry image h)))
  unfolding rings_or
  or_table = rw (none_of (g64_entry image) 84 (λ h l. ap is_wrong (entry_is d64 n few h l)))

  pub table_is : g64_table image ≡ Ok (table_of (ring_in n))
  table_is =
      sym (table-rings image is_g64_lem counts) ∙ or_table
      ∙ ap Ok (table_same (λ h. ring_of (g64_entry image h)) (ring_in n) (λ h l. ap ring_of (entry_is d64 n few h l)))

-- ---- the ring of a track
module _ (n t : ℕ) (few : n ≤ 42) (some : 0 < t) (most : t ≤ n) where
  half_is : ring_in n (2 * (t - 1)) ≡ Some (span (entry_start t + 2) (capacity_of t))
  half_is =
      let even : 2 * (t - 1) % 2 ≡ 0 = omega arith in
      let place : 2 * (t - 1) / 2 ≡ t - 1 = omega arith in
      let next : t - 1 + 1 ≡ t = omega arith in
      rw (even, place, next, ltb_yes (t - 1) n (omega arith))

  span_is : get_or (table_of (ring_in n)).spans (2 * (t - 1)) no_span ≡ span (entry_start t + 2) (capacity_of t)
  unfolding table_of
  span_is =
      get_or-map-range_with_len (λ h. span_of (ring_in n h)) 0 84 (2 * (t - 1)) (2 * (t - 1)) no_span (omega arith) (omega arith)
      ∙ ap span_of half_is

  pub place_is : ring_place (table_of (ring_in n)) t ≡ Some (span (entry_start t + 2) (capacity_of t))
  unfolding ring_place
  place_is = rw (span_is, eqb_no (capacity_of t) 0 (λ z. omega (arith, capacity_some t)))
