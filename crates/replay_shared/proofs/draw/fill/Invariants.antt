use Rattle.std.proofs.Common.{◌≡◌, ◌++◌, drop}
use Rattle.replay_shared.specs.Draw.{state_after, drawn}
use Rattle.replay_shared.proofs.draw.fill.Given as goal

abbrev pub invariant-loop-byte : goal.invariant-loop-byte
invariant-loop-byte l = record {
  bytes : l.part ≡ drawn l.seed l.byte-index ++ drop l.byte-index l.initial.part;
  last : l.state ≡ state_after l.seed l.byte-index;
}
