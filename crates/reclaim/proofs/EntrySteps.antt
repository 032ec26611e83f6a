-- What the entry points find out before they clear: a law for each way out.
use Rattle.std.specs.Prelude.{Some, None}
use mathlib.Core.Path.{◌≡◌, refl, sym, subst}
use mathlib.Core.List.{List}
use Prim.Native.Nat.{ℕ, zero, suc, ◌≤◌}
use native.Mathlib.Omega.{arith}
use lib.ListN.{length, get_or, replicate}
use Rattle.base.specs.Refusals.{wrong_image}
use Rattle.geometry.specs.D64.{tracks_of}
use Rattle.geometry.proofs.D64Laws.{d64_facts, sum_mono}
use Rattle.scan.specs.declared.SectorRecord.{SectorRecord}
use Rattle.base.specs.declared.Sector.{Sector}
use Rattle.std.specs.Prelude.{Ok, Err}
use Rattle.base.specs.declared.Refusal.{Refusal}
use Rattle.image_rings.specs.declared.Rings.{Rings}
use Rattle.image_rings.specs.Rings.{no_span, no_rings}
use Rattle.image_rings.proofs.TableLaws.{AllInside, none_inside}
use Rattle.image_kind.specs.declared.Kind.{Kind}
use Rattle.image_kind.specs.declared.Kind.TheVariants.{D64}
use Rattle.reclaim_directory.specs.Disk.{disk1541, links_up_to}
use Rattle.reclaim.specs.Clearing.{answer, refuse, clearing}
use Rattle.reclaim.specs.Inside.{on_rings}
use Rattle.image_sector.specs.Media.{d64_medium, rings_medium}
use Rattle.reclaim.specs.Images.{by_tracks, cleared_d64, by_table}
use Rattle.image_sector.specs.Callers.{Complete}

-- a D64 image by its size
module _ (l : List ℕ) where
  pub no_d64 : tracks_of (length l) ≡ None → refuse l wrong_image ≡ cleared_d64 l
  unfolding cleared_d64 by_tracks
  no_d64 e = rw e

  module _ (n : ℕ) (e : tracks_of (length l) ≡ Some n) where
    pub as_d64 : clearing d64_medium (links_up_to n disk1541) l ≡ cleared_d64 l
    unfolding cleared_d64 by_tracks
    as_d64 = rw e

    pub d64_highest : n ≤ 42
    d64_highest = (d64_facts (length l) n e).1

    pub d64_complete : Complete (record { kind = D64 n; rings = no_rings; highest = n }) (length l)
    d64_complete =
        let f = d64_facts (length l) n e in
        record {
          sectors = λ _ _. omega (arith, sum_mono 35 n f.0, f.2);
          rings = (none_inside (length l)).each;
        }

-- an image of rings by its table
module _ (rule : List SectorRecord → Sector) (l : List ℕ) where
  pub as_refused : (why : Refusal) → answer l (Err why) ≡ by_table rule l (Err why)
  unfolding by_table
  as_refused why = refl

  pub as_rings : (rings : Rings) → clearing (rings_medium rule rings) disk1541 l ≡ by_table rule l (Ok rings)
  unfolding by_table
  as_rings rings = refl

pub rings_complete : (kind : Kind) → ((n : ℕ) → kind ≡ D64 n → ⊥) → (size : ℕ) (rings : Rings) → AllInside size rings
    → Complete (on_rings kind rings) size
rings_complete kind other size rings all =
    record { sectors = λ n e. absurd (other n e); rings = all.each }
