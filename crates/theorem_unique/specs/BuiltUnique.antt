-- A built track by the two rules: each sector that its code does not spoil is there once, and reads its payload; of a spoiled one there is
-- no record.
use Rattle.std.specs.Prelude.{ℕ, ◌<◌, ◌≡◌, true, false, List, get_or}
use Rattle.base.specs.Refusals.{no_record}
use Rattle.base.specs.Sectors.{good, refused}
use Rattle.base.specs.declared.Sector.{Sector}
use Rattle.geometry.specs.Zones.{sectors_of}
use Rattle.track_build.specs.Blocks.{spoils}
use Rattle.track_build.specs.Slots.{code_of, payload_of, built_track}
use Rattle.sector.specs.declared.Rule.{Rule}
use Rattle.sector.specs.Rules.{rule_of, read_by}

-- what reading sector j answers, where the track was built of these payloads and codes
pub record AsBuilt (payloads codes : List ℕ) (j : ℕ) (r : Sector) : Type 0 where
  pub whole : spoils (code_of codes j) ≡ false → r ≡ good (payload_of payloads j)
  pub spoilt : spoils (code_of codes j) ≡ true → r ≡ refused no_record

-- the statement: every sector of every built track, by either rule
abbrev pub Statement : Type 0
Statement =
    (rule : Rule) (track id1 id2 : ℕ) (payloads codes : List ℕ) → track < 256 → id1 < 256 → id2 < 256
    → ((i : ℕ) → get_or payloads i 0 < 256) → (j : ℕ) → j < sectors_of track
    → AsBuilt payloads codes j (read_by (rule_of rule) (built_track track payloads codes id1 id2) track j)
