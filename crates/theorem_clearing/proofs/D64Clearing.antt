-- Clearing a D64 image, for every disk whose sectors lie in the image as a 1541's do.
--     sectors_cleared   each free sector is zeros afterwards, and everything else is as it was
--     counted           both counts, exactly
--     again             clearing once more changes nothing, and answers the same free count
use mathlib.Core.Path.{◌≡◌, refl, sym, ap, ap₂, ◌∙◌, subst}
use mathlib.Core.Bool.{Bool, true, false, ◌&&◌, not, and-false}
use mathlib.Core.List.{List}
use Prim.Native.Nat.{ℕ, suc, ◌*◌, ◌≤◌, ◌<◌}
use native.Mathlib.Omega.{arith}
use lib.ListN.{length, drop, replicate}
use Rattle.base.specs.Choice.{pick}
use Rattle.base.specs.Refusals.{wrong_link}
use Rattle.geometry.specs.Zones.{sectors_of}
use Rattle.geometry.specs.D64.{sectors_to}
use Rattle.base.specs.declared.Sector.{Sector}
use Rattle.base.specs.Bytes.{any_nonzero}
use Rattle.base.specs.Sectors.{good}
use Rattle.image_d64.specs.D64.{d64_sector, d64_zeroed, OnTracks}
use Rattle.image_d64.proofs.D64Sectors.{sector_reads, block-length, zeroed-length, zeroed-behind, zeroed_reads, other_reads}
use Rattle.image_sector.specs.Media.{d64_medium}
use Rattle.reclaim_directory.specs.declared.Chain.{Chain}
use Rattle.reclaim_directory.specs.Marks.{marked, unmarked}
use Rattle.reclaim_directory.specs.Disk.{Reader, Disk, bam_sector, is_address, marks_at_first}
use Rattle.reclaim_directory.specs.Chains.{broken_chain, marks_of, next_track, next_sector, chain_at, chain_of}
use Rattle.std.specs.Prelude.{Result, is_ok}
use Rattle.base.specs.declared.Refusal.{Refusal}
use Rattle.reclaim.specs.Clearing.{Work, has_data, tracks_done, untouched, Answer, refuse, cleared, finish, free_on, clearing}
use Rattle.reclaim.specs.Counting.{count_to}
use Rattle.theorem_clearing.specs.Meaning.{SectorsCleared, free_count, data_count, once_more}
use Rattle.base.proofs.Picks.{by_test}
use Rattle.reclaim_directory.proofs.MarkLaws.{Fits, address_facts}
use Rattle.reclaim.proofs.Counted.{tracks_counted, tracks_hold, tracks_quiet}
use Rattle.theorem_clearing.proofs.ChainLaws.{followed, same_from, broken_off}
use Rattle.theorem_clearing.proofs.Apart.{LieApart, tracks_kept, tracks_blank, tracks_data}

-- an image that has the sectors of n tracks
abbrev pub Large : ℕ → List ℕ → Type 0
Large n image = sectors_to n * 256 ≤ length image

-- its sectors lie apart
d64_apart : (n : ℕ) → LieApart d64_medium (Large n) (OnTracks n)
d64_apart n =
    record {
      stays = λ t s image i g. (let l = zeroed-length n image g t s i in omega arith);
      reads = λ t s image i g. (let e = sector_reads n image g t s i in e ∙ ap good (sym (ap (λ (x : Sector). x.bytes) e)));
      long = λ t s image i g. ap (λ (x : Sector). length x.bytes) (sector_reads n image g t s i) ∙ block-length n image g t s i;
      blank = λ t s image i g. zeroed_reads n image g t s i;
      other = λ t s t' s' image i i' ne g. other_reads n image g t s i t' s' i' ne;
    }

-- a disk in a D64 image: tracks of as many sectors as a 1541's; 18/0, and whatever else the BAM is read from, is kept
pub record InD64 (disk : Disk) : Type 0 where
  pub sectors : (t : ℕ) → disk.sectors t ≡ sectors_of t
  pub last-there : disk.last ≤ disk.highest
  pub fits : Fits disk (marks_at_first disk)
  pub first_there : is_address disk 18 0 ≡ true
  pub first_kept : marked (marks_at_first disk) 18 0 ≡ true
  pub bam_kept : (read read' : Reader)
      → ((t s : ℕ) → is_address disk t s ≡ true → marked (marks_at_first disk) t s ≡ true → read t s ≡ read' t s)
      → disk.free read ≡ disk.free read'

-- what clearing the tracks does, with any test
module _ (disk : Disk) (laws : InD64 disk) (free : ℕ → ℕ → Bool) (image : List ℕ) (large : Large disk.highest image) where
  abbrev after : Work
  after = tracks_done d64_medium disk.sectors free disk.last (untouched image)

  all : (t s : ℕ) → 0 < t → t ≤ disk.last → s < disk.sectors t → OnTracks disk.highest t s
  all t s p h b = record { some = p; highest = omega (arith, laws.last-there, h); below = omega (arith, b, laws.sectors t) }

  Tail : List ℕ → Type 0
  Tail l =
      Large disk.highest l × (length l ≡ length image)
      × (drop (sectors_to disk.last * 256) l ≡ drop (sectors_to disk.last * 256) image)

  tail_stays : (t s : ℕ) → 0 < t → t ≤ disk.last → s < disk.sectors t → (l : List ℕ) → Tail l → Tail (d64_zeroed t s l)
  unfolding Tail
  tail_stays t s p h b l g =
      let i = all t s p h b in
      let e = zeroed-length disk.highest l g.0 t s i in (
        subst (λ (m : ℕ). sectors_to disk.highest * 256 ≤ m) (sym e) g.0,
        e ∙ g.1,
        zeroed-behind disk.highest l g.0 disk.last t s i h ∙ g.2,
      )

  tail_kept : Tail after.image
  unfolding Tail
  tail_kept = tracks_hold d64_medium disk.sectors free Tail disk.last (untouched image) tail_stays (large, refl, refl)

  kept : (t s : ℕ) → OnTracks disk.highest t s → (t ≤ disk.last → free t s ≡ false)
      → d64_sector after.image t s ≡ d64_sector image t s
  kept t s i busy =
      tracks_kept d64_medium (Large disk.highest) (OnTracks disk.highest) (d64_apart disk.highest) disk.sectors disk.last free
      all disk.last t s (untouched image) (omega arith) i large busy

  zeros : (t s : ℕ) → OnTracks disk.last t s → free t s ≡ true → d64_sector after.image t s ≡ good (replicate 256 0)
  zeros t s i f =
      tracks_blank d64_medium (Large disk.highest) (OnTracks disk.highest) (d64_apart disk.highest) disk.sectors disk.last free
      all disk.last t s (untouched image) (omega arith) i.some i.highest (omega (arith, i.below, laws.sectors t)) large f

  pub sectors_cleared : SectorsCleared disk free image after.image
  unfolding Tail
  sectors_cleared = record { same_length = tail_kept.1; zeros = zeros; kept = kept; behind = tail_kept.2 }

  pub free-counted : after.free ≡ count_to disk.sectors free disk.last
  free-counted = tracks_counted d64_medium disk.sectors free disk.last (untouched image) ∙ omega arith

  pub data_counted : after.changed ≡ count_to disk.sectors (λ t s. free t s && has_data (d64_sector image t s)) disk.last
  data_counted =
      tracks_data d64_medium (Large disk.highest) (OnTracks disk.highest) (d64_apart disk.highest) disk.sectors disk.last free
      all disk.last (untouched image) (omega arith) large
      ∙ omega arith

-- ---- the chain
module _ (disk : Disk) (read : Reader) (o : is_ok (chain_of disk read) ≡ true) where
  abbrev first : Sector
  first = bam_sector read

  -- a chain that is found was found from a valid address
  at_first : is_address disk (next_track first) (next_sector first) ≡ true
  unfolding chain_of
  at_first = go (is_address disk (next_track first) (next_sector first)) o
    where
      go : (b : Bool)
          → is_ok (pick b (chain_at disk read (marks_at_first disk) 0 (next_track first) (next_sector first)) broken_chain) ≡ true
          → b ≡ true
      go true e = refl
      go false e = absurd (broken_off e)

  as_links : chain_of disk read ≡ chain_at disk read (marks_at_first disk) 0 (next_track first) (next_sector first)
  unfolding chain_of
  as_links = rw at_first

  -- what was marked at first stays marked
  pub old-marks : Fits disk (marks_at_first disk) → (t s : ℕ) → marked (marks_at_first disk) t s ≡ true
      → marked (marks_of disk.marks (chain_of disk read)) t s ≡ true
  old-marks w t s h =
      let k = followed disk read (suc (unmarked (marks_at_first disk))) (marks_at_first disk) 0 (next_track first) (next_sector first) w
      (rw as_links at o) in
      rw as_links (k.3.old t s h)

  -- a reader that agrees on what is marked finds the same
  pub same_chain : (read' : Reader) → Fits disk (marks_at_first disk) → read 18 0 ≡ read' 18 0
      → ((t s : ℕ) → is_address disk t s ≡ true → marked (marks_of disk.marks (chain_of disk read)) t s ≡ true → read t s ≡ read' t s)
      → chain_of disk read' ≡ chain_of disk read
  unfolding chain_of
  same_chain read' w b agree =
      rw (← b, at_first)
      (same_from disk read read' (suc (unmarked (marks_at_first disk))) (marks_at_first disk) 0 (next_track first) (next_sector first) w
      (rw at_first at o) (rw at_first at agree))

zeros_quiet : has_data (good (replicate 256 0)) ≡ false
unfolding any_nonzero
zeros_quiet = refl

-- ---- a D64 image
module _ (disk : Disk) (laws : InD64 disk) where
  on_tracks : (t s : ℕ) → is_address disk t s ≡ true → OnTracks disk.highest t s
  on_tracks t s a =
      let f = address_facts disk t s a in record { some = f.0; highest = f.1; below = omega (arith, f.2, laws.sectors t) }

  module _ (image : List ℕ) (large : Large disk.highest image) where
    bam_reads : (bam_sector (d64_sector image)).ok ≡ true
    bam_reads = ap (λ (x : Sector). x.ok) (sector_reads disk.highest image large 18 0 (on_tracks 18 0 laws.first_there))

    pub refused_chain : is_ok (chain_of disk (d64_sector image)) ≡ false → clearing d64_medium disk image ≡ refuse image wrong_link
    unfolding clearing
    refused_chain o = rw (bam_reads, o)

    pub cleared_once : is_ok (chain_of disk (d64_sector image)) ≡ true
        → clearing d64_medium disk image ≡ finish (after disk laws (free_on disk (d64_sector image)) image large)
    unfolding clearing
    cleared_once o = rw (bam_reads, o)

-- one that is not refused
module _ (disk : Disk) (laws : InD64 disk) (image : List ℕ) (large : Large disk.highest image)
    (o : is_ok (chain_of disk (d64_sector image)) ≡ true) where
  abbrev free : ℕ → ℕ → Bool
  free = free_on disk (d64_sector image)

  abbrev work : Work
  work = after disk laws free image large

  pub only-free : SectorsCleared disk free image (clearing d64_medium disk image).image
  only-free =
      subst (λ (a : Answer). SectorsCleared disk free image a.image) (sym (cleared_once disk laws image large o))
      (sectors_cleared disk laws free image large)

  pub counted : (clearing d64_medium disk image).outcome ≡ cleared (free_count disk (d64_sector image)) (data_count disk (d64_sector image))
  counted =
      ap (λ (a : Answer). a.outcome) (cleared_once disk laws image large o)
      ∙ ap₂ cleared (free-counted disk laws free image large) (data_counted disk laws free image large)

  -- ---- once more: what is kept reads as before, so the chain and the BAM are the same
  same_read : (t s : ℕ) → is_address disk t s ≡ true → marked (marks_of disk.marks (chain_of disk (d64_sector image))) t s ≡ true
      → d64_sector image t s ≡ d64_sector work.image t s
  same_read t s a m =
      sym (kept disk laws free image large t s (on_tracks disk laws t s a) (λ _. rw m (and-false (disk.free (d64_sector image) t s))))

  kept_read : (t s : ℕ) → is_address disk t s ≡ true → marked (marks_at_first disk) t s ≡ true
      → d64_sector image t s ≡ d64_sector work.image t s
  kept_read t s a m = same_read t s a (old-marks disk (d64_sector image) o laws.fits t s m)

  large_still : Large disk.highest work.image
  large_still = omega (arith, large, (sectors_cleared disk laws free image large).same_length)

  chain_still : chain_of disk (d64_sector work.image) ≡ chain_of disk (d64_sector image)
  chain_still =
      same_chain disk (d64_sector image) o (d64_sector work.image) laws.fits (kept_read 18 0 laws.first_there laws.first_kept)
      same_read

  free_still : free_on disk (d64_sector work.image) ≡ free
  free_still =
      ap₂ (λ (test : ℕ → ℕ → Bool) (c : Result Chain Refusal). λ (t s : ℕ). test t s && not (marked (marks_of disk.marks c) t s))
      (sym (laws.bam_kept (d64_sector image) (d64_sector work.image) kept_read)) chain_still

  quiet : (t s : ℕ) → 0 < t → t ≤ disk.last → s < disk.sectors t → free t s ≡ true → has_data (d64_sector work.image t s) ≡ false
  quiet t s p h b f =
      let i : OnTracks disk.last t s = record { some = p; highest = h; below = omega (arith, b, laws.sectors t) } in
      ap has_data (zeros disk laws free image large t s i f) ∙ zeros_quiet

  abbrev second : Work
  second = tracks_done d64_medium disk.sectors free disk.last (untouched work.image)

  cleared_again : clearing d64_medium disk work.image ≡ finish second
  cleared_again =
      cleared_once disk laws work.image large_still (ap (λ (c : Result Chain Refusal). is_ok c) chain_still ∙ o)
      ∙ ap (λ (test : ℕ → ℕ → Bool). finish (tracks_done d64_medium disk.sectors test disk.last (untouched work.image))) free_still

  again : clearing d64_medium disk work.image ≡ record { image = work.image; outcome = cleared work.free 0 }
  again =
      let q = tracks_quiet d64_medium disk.sectors free disk.last (untouched work.image) quiet in
      let c : second.free ≡ work.free
      = tracks_counted d64_medium disk.sectors free disk.last (untouched work.image)
      ∙ sym (tracks_counted d64_medium disk.sectors free disk.last (untouched image)) in
      cleared_again ∙ rw (q.0, q.1, c)

pub clearing-length : (disk : Disk) → InD64 disk → (image : List ℕ) → Large disk.highest image
    → length (clearing d64_medium disk image).image ≡ length image
clearing-length disk laws image large =
    by_test (length (clearing d64_medium disk image).image ≡ length image) (is_ok (chain_of disk (d64_sector image)))
    (λ o. (only-free disk laws image large o).same_length)
    (λ o. ap (λ (a : Answer). length a.image) (refused_chain disk laws image large o))

-- clearing once more leaves the image, and answers the same free count and no change
abbrev pub OnceMore : (List ℕ → Answer) → Answer → Type 0
OnceMore clears a = clears a.image ≡ record { image = a.image; outcome = once_more a.outcome }

pub clearing_twice : (disk : Disk) → InD64 disk → (image : List ℕ) → Large disk.highest image
    → OnceMore (clearing d64_medium disk) (clearing d64_medium disk image)
clearing_twice disk laws image large =
    by_test (OnceMore (clearing d64_medium disk) (clearing d64_medium disk image)) (is_ok (chain_of disk (d64_sector image)))
    (λ o. subst (OnceMore (clearing d64_medium disk)) (sym (cleared_once disk laws image large o)) (again disk laws image large o))
    (λ o. let e = refused_chain disk laws image large o in subst (OnceMore (clearing d64_medium disk)) (sym e) e)
