-- Clearing a D64 image, by its size: what stands in D64Clearing, of the 1541 disk that it holds.
--     d64_only-free   each free sector is zeros afterwards, and everything else is as it was
--     d64_counted     both counts, exactly: the free sectors, and those of them that had data in the image as it came
--     twice           clearing once more changes nothing, and answers the same free count
use Rattle.std.specs.Prelude.{Option, Some, None}
use mathlib.Core.Path.{◌≡◌, refl, sym, ap, ◌∙◌, subst}
use mathlib.Core.Bool.{true}
use mathlib.Core.List.{List}
use Prim.Native.Nat.{ℕ, ◌≤◌}
use native.Mathlib.Omega.{arith}
use lib.ListN.{length, length-set}
use borrow.Author.Tests.{le-leb, lt-ltb}
use Rattle.base.specs.Refusals.{wrong_image}
use Rattle.base.specs.declared.Sector.{Sector}
use Rattle.geometry.specs.D64.{tracks_of}
use Rattle.geometry.proofs.ZoneLaws.{sectors_of_lem}
use Rattle.geometry.proofs.D64Laws.{d64_facts}
use Rattle.image_d64.specs.D64.{d64_sector}
use Rattle.image_sector.specs.Media.{d64_medium}
use Rattle.reclaim_directory.specs.Marks.{mark_place, marked}
use Rattle.reclaim_directory.specs.Disk.{Disk, disk1541, links_up_to, is_address, marks_at_first, entry_free}
use Rattle.reclaim_directory.specs.Chains.{chain_of}
use Rattle.reclaim_directory.proofs.MarkLaws.{Fits}
use Rattle.std.specs.Prelude.{is_ok}
use Rattle.reclaim.specs.Clearing.{Answer, refuse, cleared, free_on, clearing}
use Rattle.reclaim.specs.Images.{by_tracks, cleared_d64}
use Rattle.theorem_clearing.specs.Meaning.{SectorsCleared, free_count, data_count}
use Rattle.theorem_clearing.proofs.D64Clearing.{Large, InD64, only-free, counted, clearing-length, OnceMore, clearing_twice}

bam_marked : marked (marks_at_first disk1541) 18 0 ≡ true
unfolding mark_place
bam_marked = refl

-- a 1541 disk lies in a D64 image of 35 to 42 tracks
module _ (n : ℕ) (few : 35 ≤ n) (most : n ≤ 42) where
  abbrev disk : Disk
  disk = links_up_to n disk1541

  fits : Fits disk (marks_at_first disk)
  fits =
      let l : length (marks_at_first disk) ≡ disk.marks = simp length-set in
      record { sectors = λ t. (sectors_of_lem t).1; tracks = omega arith }

  first_there : is_address disk 18 0 ≡ true
  unfolding is_address
  first_there = rw (le-leb 18 n (omega arith), lt-ltb 0 (disk.sectors 18) (omega (arith, (sectors_of_lem 18).0)))

  pub in_d64 : InD64 disk
  in_d64 =
      record {
        sectors = λ t. refl;
        last-there = few;
        fits = fits;
        first_there = first_there;
        first_kept = bam_marked;
        bam_kept = λ read read' agree. ap (λ (x : Sector). entry_free x.bytes 4 1) (agree 18 0 first_there bam_marked);
      }

-- an image whose size is a D64's
module _ (image : List ℕ) (n : ℕ) (size : tracks_of (length image) ≡ Some n) where
  abbrev disk_of : Disk
  disk_of = links_up_to n disk1541

  laws : InD64 disk_of
  laws = let f = d64_facts (length image) n size in in_d64 n f.0 f.1

  large : Large n image
  large = (d64_facts (length image) n size).2

  by_size : cleared_d64 image ≡ clearing d64_medium disk_of image
  unfolding cleared_d64 by_tracks
  by_size = rw size

  module _ (o : is_ok (chain_of disk_of (d64_sector image)) ≡ true) where
    pub d64_only-free : SectorsCleared disk_of (free_on disk_of (d64_sector image)) image (cleared_d64 image).image
    d64_only-free =
        subst (λ (a : Answer). SectorsCleared disk_of (free_on disk_of (d64_sector image)) image a.image) (sym by_size)
        (only-free disk_of laws image large o)

    pub d64_counted : (cleared_d64 image).outcome ≡ cleared (free_count disk_of (d64_sector image)) (data_count disk_of (d64_sector image))
    d64_counted = ap (λ (a : Answer). a.outcome) by_size ∙ counted disk_of laws image large o

by_count : (image : List ℕ) (c : Option ℕ) → tracks_of (length image) ≡ c → OnceMore cleared_d64 (cleared_d64 image)
unfolding cleared_d64 by_tracks
by_count image None e = subst (OnceMore cleared_d64) (sym known) known
  where
    known : cleared_d64 image ≡ refuse image wrong_image
    known = rw e
by_count image (Some n) e =
    let w = laws image n e in
    let g = large image n e in
    let after = (clearing d64_medium (links_up_to n disk1541) image).image in
    let size : tracks_of (length after) ≡ Some n = ap tracks_of (clearing-length (links_up_to n disk1541) w image g) ∙ e in
    subst (OnceMore cleared_d64) (sym (by_size image n e)) (by_size after n size ∙ clearing_twice (links_up_to n disk1541) w image g)

pub twice : (image : List ℕ) → OnceMore cleared_d64 (cleared_d64 image)
twice image = by_count image (tracks_of (length image)) refl
