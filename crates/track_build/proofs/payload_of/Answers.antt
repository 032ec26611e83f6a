use native.Mathlib.Omega.{arith}
use lib.ListN.{replicate}
use Rattle.base.proofs.Lists.{tab-none}
use Rattle.track_build.proofs.Filled.{payload_more, payload_all}
use Rattle.track_build.proofs.payload_of.Goals as goal

pub loop-i-init : goal.loop-i-init
loop-i-init c = tab-none _ (replicate 256 0)

pub loop-i-preserved : goal.loop-i-preserved
loop-i-preserved c =
    let a = c.args in
    payload_more a.payloads.now a.sector c.loop-i.i c.byte_or.result c.loop-i.byte-items
    (omega arith) c.byte_or.ensures c.loop-i.invariant

pub returns : goal.returns
returns c =
    let a = c.args in
    payload_all a.payloads.now a.sector c.loop-i.i c.loop-i.byte-items (omega arith) c.loop-i.invariant
