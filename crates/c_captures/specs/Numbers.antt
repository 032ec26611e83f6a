-- What a number that was lent to the library's functions on captures then is: the answer's value, or as it came where refused.
use Rattle.std.specs.Prelude.{ℕ, Option, Some, None, Result, Ok, Err}
use Rattle.base.specs.declared.Refusal.{Refusal}
use Rattle.nib_slots.specs.declared.SlotRing.{SlotRing}

-- a slot of a NIB file: where its ring begins, the ring's length and its zone, all 0 where the slot is absent
abbrev pub at_after : ℕ → Result (Option SlotRing) Refusal → ℕ
at_after at (Ok (Some ring)) = ring.start
at_after at (Ok None) = 0
at_after at (Err why) = at

abbrev pub span_after : ℕ → Result (Option SlotRing) Refusal → ℕ
span_after span (Ok (Some ring)) = ring.length
span_after span (Ok None) = 0
span_after span (Err why) = span

abbrev pub zone_after : ℕ → Result (Option SlotRing) Refusal → ℕ
zone_after came (Ok (Some ring)) = ring.zone
zone_after came (Ok None) = 0
zone_after came (Err why) = came

-- a NIB file made: its size
abbrev pub written_after : ℕ → Result ℕ Refusal → ℕ
written_after written (Ok size) = size
written_after written (Err why) = written
