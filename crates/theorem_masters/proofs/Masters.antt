-- `masters`: what our own G64 reader makes of the master of a D64.
--     read_is       a sector of it is read from the built track
--     masters       the statement
use mathlib.Core.Path.{◌≡◌, sym, ap, ◌∙◌}
use mathlib.Core.Bool.{true, false}
use mathlib.Core.List.{List}
use Prim.Native.Nat.{ℕ, ◌*◌, ◌≤◌, ◌<◌}
use native.Mathlib.Omega.{arith}
use lib.ListN.{length, get_or}
use Rattle.std.specs.Prelude.{Option, Result}
use Rattle.std.specs.Result.{result_unwrap_or}
use Rattle.base.specs.Refusals.{no_record}
use Rattle.base.specs.declared.Refusal.{Refusal}
use Rattle.base.specs.Sectors.{good, refused}
use Rattle.geometry.specs.D64.{sectors_to}
use Rattle.geometry.proofs.D64Laws.{d64_facts}
use Rattle.track_build.specs.Blocks.{spoils}
use Rattle.sector.specs.declared.Rule.TheVariants.{Unique}
use Rattle.sector.specs.Rules.{unique, read_by}
use Rattle.image_rings.specs.declared.Span.{Span}
use Rattle.image_rings.specs.declared.Rings.{Rings}
use Rattle.image_rings.specs.Rings.{no_rings, ring_place}
use Rattle.image_d64.specs.D64.{OnTracks, error_byte, d64_sector}
use Rattle.image_d64.proofs.D64Sectors.{sector_reads}
use Rattle.image_sector.specs.Media.{read_at}
use Rattle.g64_write.specs.Master.{disk_id1, disk_id2, payloads_on, codes_on, track_on, master_of}
use Rattle.theorem_unique.specs.BuiltUnique.{AsBuilt}
use Rattle.theorem_unique.proofs.BuiltUnique.{built-unique}
use Rattle.theorem_masters.specs.Masters.{from_master, Statement}
use Rattle.theorem_masters.proofs.Parts.{master_long}
use Rattle.theorem_masters.proofs.Entries.{ring_taken}
use Rattle.theorem_masters.proofs.Table.{kind_is, table_is, place_is}
use Rattle.theorem_masters.proofs.Sectors.{payloads_byte, payload_is, code_is}

module _ (d64 : List ℕ) (n : ℕ) (few : n ≤ 42) (large : sectors_to n * 256 ≤ length d64) (t s : ℕ) (on : OnTracks n t s) where
  -- a sector of the master, on the ring of its track
  read_is : from_master d64 n t s ≡ read_by unique (track_on d64 n t) t s
  read_is =
      ap (λ (p : Option Span). read_at unique p (master_of d64 n) t s)
      (ap (λ (a : Result Rings Refusal). ring_place (result_unwrap_or a no_rings) t) (table_is d64 n few)
      ∙ place_is n t few on.some on.highest)
      ∙ ap (λ (ring : List ℕ). read_by unique ring t s) (ring_taken d64 n t on.some on.highest)

  module _ (bytes : (i : ℕ) → get_or d64 i 0 < 256) where
    as_built : AsBuilt (payloads_on d64 t) (codes_on d64 n t) s (read_by unique (track_on d64 n t) t s)
    unfolding track_on
    as_built =
        built-unique Unique t (disk_id1 d64) (disk_id2 d64) (payloads_on d64 t) (codes_on d64 n t) (omega (arith, on.highest)) (bytes _)
        (bytes _) (payloads_byte d64 t bytes) s on.below

    reads : spoils (error_byte d64 n t s) ≡ false → from_master d64 n t s ≡ d64_sector d64 t s
    reads e =
        read_is ∙ as_built.whole (ap spoils (code_is d64 t n s on) ∙ e) ∙ ap good (payload_is d64 t n s on large)
        ∙ sym (sector_reads n d64 large t s on)

    has-none : spoils (error_byte d64 n t s) ≡ true → from_master d64 n t s ≡ refused no_record
    has-none e = read_is ∙ as_built.spoilt (ap spoils (code_is d64 t n s on) ∙ e)

pub masters : Statement
masters d64 n is =
    let facts = d64_facts (length d64) n is.size in
    record {
      long = master_long d64 n;
      kind = kind_is d64 n facts.1;
      table = table_is d64 n facts.1;
      ring = ring_taken d64 n;
      whole = λ t s on. reads d64 n facts.1 facts.2 t s on is.bytes;
      spoilt = λ t s on. has-none d64 n facts.1 facts.2 t s on is.bytes;
    }
