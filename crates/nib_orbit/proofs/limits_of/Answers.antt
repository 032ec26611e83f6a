use Rattle.std.proofs.Common.{sym}
use native.Mathlib.Omega.{arith}
use Rattle.nib_orbit.proofs.Spans.{zone_is}
use Rattle.nib_orbit.proofs.limits_of.Goals as goal

pub returns-in-0 : goal.returns-in-0
returns-in-0 c =
    let told = zone_is c.args.zone 0 (sym c.in-0.is) in
    record { lowest = told.0; highest = told.1; middle = told.2 }

pub returns-in-1 : goal.returns-in-1
returns-in-1 c =
    let told = zone_is c.args.zone 1 (sym c.in-1.is) in
    record { lowest = told.0; highest = told.1; middle = told.2 }

pub returns-in-2 : goal.returns-in-2
returns-in-2 c =
    let told = zone_is c.args.zone 2 (sym c.in-2.is) in
    record { lowest = told.0; highest = told.1; middle = told.2 }

pub returns-in_default : goal.returns-in_default
returns-in_default c =
    let told = zone_is c.args.zone 3 (omega arith) in
    record { lowest = told.0; highest = told.1; middle = told.2 }
