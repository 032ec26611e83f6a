-- The laws that the slips break.
use Prim.Native.Nat.{ℕ, suc, ◌+◌, ◌-◌, ◌≤◌, ◌<◌}
use mathlib.Core.Path.{◌≡◌, refl, ap, ◌∙◌}
use mathlib.Core.Bool.{Bool}
use native.Mathlib.Omega.{arith}
use Rattle.base.specs.Choice.{pick}
use Rattle.base.proofs.Tests.{eqb_yes, ltb_yes}
use Rattle.geometry.specs.Zones.{sectors_of}
use Rattle.gcr.specs.Symbols.{Bytes}
use Rattle.geometry.specs.Blocks.{header_sum}
use Rattle.track_build.specs.Blocks.{header_with}
use Rattle.std.specs.Prelude.{Some, None}
use Rattle.scan_sync.specs.Sync.{sync_from, sync_end}
use Rattle.scan.specs.Scan.{next_sync}
use Rattle.scan_visit.specs.Visit.{DataFound, TrueHeader, by_header}
use Rattle.scan_sync.proofs.SyncLaws.{at-hit, at_reset, passed}
use Rattle.scan_visit.proofs.SameBits.{sync-same}
use Rattle.theorem_cases.specs.Slips.{Ones, Slips}

-- the search of a scan at its last bit: seventeen places, and the first of them is a zero
at_last : (x : ℕ → ℕ) (last : ℕ) → x last ≡ 0 → next_sync x (last + 1) last ≡ sync_from x 16 (last + 1) 0
at_last x last z =
    ap (λ (b : Bool). pick b (sync_end x last (last + 1 + 16 - last)) None) (ltb_yes last (last + 1) (omega arith))
    ∙ ap (λ (n : ℕ). sync_from x n last 0) (omega arith)
    ∙ at_reset x 0 16 last z (omega arith)

found_again : (x : ℕ → ℕ) (p n m : ℕ) → n + suc m ≡ 16 → Ones x p n → x (p + n) ≡ 0 → 10 ≤ n → sync_from x 16 p 0 ≡ Some (p + n)
found_again x p n m e o z l =
    passed x n (suc m) 16 p (p + n) 0 n e refl (omega arith) o ∙ at-hit x n m (p + n) z l

nothing : (x : ℕ → ℕ) (p c : ℕ) → sync_from x 0 p c ≡ None
unfolding sync_from
nothing x p c = refl

any_ids : (track sector id1 id2 : ℕ) (found : DataFound) → sector < sectors_of track
    → by_header track found (Bytes (header_with 0 sector track id1 id2)) ≡ TrueHeader sector id1 id2 found
any_ids track sector id1 id2 found l =
    rw (
      eqb_yes track track refl,
      eqb_yes (header_sum sector track id2 id1) (header_sum sector track id2 id1) refl,
      ltb_yes sector
          (sectors_of track) l,
    )

pub slips : Slips
slips = record {
  ten_to_fifteen_at_the_join = λ x last n z o e l u. at_last x last z ∙ found_again x (last + 1) n (15 - n) (omega arith) o e l;
  sixteen_at_the_join = λ x last z o. at_last x last z ∙ passed x 16 0 16 (last + 1) (last + 17) 0 16 refl (omega arith) refl o ∙ nothing
      x (last + 17) 16;
  ones_count_from_the_start = λ x y start limit a. sync-same x y limit start 0 (λ i l u. a i l);
  ids_are_not_compared = any_ids;
}
