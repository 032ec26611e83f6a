-- The NIB table: each way out of the functions that read it.
use mathlib.Core.Path.{◌≡◌, refl, subst}
use mathlib.Core.List.{List}
use Prim.Native.Nat.{ℕ, ◌+◌, ◌*◌, ◌≤◌}
use native.Mathlib.Omega.{arith}
use lib.ListN.{length}
use Rattle.std.specs.Prelude.{Option, Some, None, Result, Ok, Err}
use Rattle.base.specs.declared.Refusal.{Refusal}
use Rattle.nib_catalogue.specs.Catalogue.{catalogue_of, entry_with}
use Rattle.nib_slots.specs.Slots.{entry_of}
use Rattle.nib_slots.proofs.Slotting.{entry_is, held}
use Rattle.image_rings.specs.declared.Rings.{Rings}
use Rattle.image_rings.specs.Rings.{span, table_of}
use Rattle.image_rings.proofs.TableLaws.{Inside, AllInside, table-inside}
use Rattle.image_nib.specs.Nib.{window_place, nib_entry, nib_by, nib_table}

-- ---- the window of a slot, by the pair that was found
module _ (image : List ℕ) (slot n : ℕ) (q : catalogue_of image ≡ Ok n) (h : slot ≤ 83) where
  pub window_is : (k : ℕ) → entry_with image (slot + 2) n ≡ Some k → Some (span (256 + 8192 * k) 8192) ≡ nib_entry image slot
  unfolding nib_entry
  window_is k e = rw (← entry_is image slot n q h, e)

  pub window_absent : entry_with image (slot + 2) n ≡ None → None ≡ nib_entry image slot
  unfolding nib_entry
  window_absent e = rw (← entry_is image slot n q h, e)

-- ---- the table
module _ (image : List ℕ) where
  pub nib_refused : (why : Refusal) → catalogue_of image ≡ Err why → Err why ≡ nib_table image
  unfolding nib_table
  nib_refused why e = rw e

  pub nib_counted : (n : ℕ) → catalogue_of image ≡ Ok n → Ok (table_of (nib_entry image)) ≡ nib_table image
  unfolding nib_table
  nib_counted n e = rw e

-- ---- every window that the table names lies in the file
window_inside : (image : List ℕ) (slot : ℕ) (e : Result (Option ℕ) Refusal) → entry_of image slot ≡ e
    → Inside (length image) (window_place e)
window_inside image slot (Ok None) e = omega arith
window_inside image slot (Err why) e = omega arith
window_inside image slot (Ok (Some k)) e = let h = held image slot k e in omega arith

slot-inside : (image : List ℕ) (slot : ℕ) → Inside (length image) (nib_entry image slot)
unfolding nib_entry
slot-inside image slot = window_inside image slot (entry_of image slot) refl

by_inside : (image : List ℕ) (p : Result ℕ Refusal) (rings : Rings) → nib_by image p ≡ Ok rings → AllInside (length image) rings
by_inside image (Ok n) rings e =
    let same : table_of (nib_entry image) ≡ rings = cc in
    subst (AllInside (length image)) same (table-inside (length image) (nib_entry image) (slot-inside image))
by_inside image (Err why) rings e = absurd cc

pub nib_inside : (image : List ℕ) (rings : Rings) → nib_table image ≡ Ok rings → AllInside (length image) rings
unfolding nib_table
nib_inside image rings e = by_inside image (catalogue_of image) rings e
