-- Slips that readers of these rings have made, each as a law of what is right.
use Rattle.std.specs.Prelude.{ℕ, ◌+◌, ◌≤◌, ◌<◌, ◌≡◌, ◌≢◌}
use Rattle.geometry.specs.Zones.{sectors_of}
use Rattle.gcr.specs.Symbols.{Bytes}
use Rattle.track_build.specs.Blocks.{header_with}
use Rattle.scan_sync.specs.Sync.{sync_end}
use Rattle.std.specs.Prelude.{Some, None}
use Rattle.scan.specs.Scan.{next_sync}
use Rattle.scan_visit.specs.Visit.{DataFound, TrueHeader, by_header}

-- n places from p on hold ones
abbrev pub Ones : (ℕ → ℕ) → ℕ → ℕ → Type 0
Ones x p n = (i : ℕ) → i < n → x (p + i) ≢ 0

pub record Slips : Type 0 where
  -- a scan that stands at its last bit, a zero, still finds the sync of 10 to 15 ones that the ring begins with, and
  -- visits what stands behind it again (that it is then recorded twice is run: replay)
  pub ten_to_fifteen_at_the_join : (x : ℕ → ℕ) (last n : ℕ) → x last ≡ 0 → Ones x (last + 1) n → x (last + 1 + n) ≡ 0
      → 10 ≤ n → n ≤ 15
      → next_sync x (last + 1) last ≡ Some (last + 1 + n)
  -- and a sync of 16 ones it does not find
  pub sixteen_at_the_join : (x : ℕ → ℕ) (last : ℕ) → x last ≡ 0 → Ones x (last + 1) 16
      → next_sync x (last + 1) last ≡ None
  -- ones before the place where a search starts do not count
  pub ones_count_from_the_start : (x y : ℕ → ℕ) (start limit : ℕ) → ((i : ℕ) → start ≤ i → x i ≡ y i)
      → sync_end x start limit ≡ sync_end y start limit
  -- a header is true whatever its ids are
  pub ids_are_not_compared : (track sector id1 id2 : ℕ) (found : DataFound) → sector < sectors_of track
      → by_header track found (Bytes (header_with 0 sector track id1 id2)) ≡ TrueHeader sector id1 id2 found
