use mathlib.Core.Path.{◌≡◌, ap, ◌∙◌}
use Prim.Native.Nat.{ℕ, ◌+◌, ◌*◌, ◌-◌}
use native.Mathlib.Omega.{arith}
use lib.ListN.{take, drop}
use Rattle.base.specs.Lists.{xor_of}
use Rattle.lister.proofs.Putting.{line_missing, line_found}
use Rattle.lister.proofs.put_sector.Goals as goal

pub returns-then-statuses-j-ne-HANDED_OUT : goal.returns-then-statuses-j-ne-HANDED_OUT
returns-then-statuses-j-ne-HANDED_OUT c =
    let a = c.args in
    line_missing a.statuses.now a.payloads.now a.sector a.out.now a.at (rw c.from-j.ensures at c.if-statuses-j-ne-HANDED_OUT.true)

pub returns : goal.returns
returns c =
    let p = c.put_line in
    let x = c.xor_of in
    let i = c.if-statuses-j-ne-HANDED_OUT in
    let a = c.args in
    let j = c.from-j.result in
    let n : 256 * j + 256 - 256 * j ≡ 256 = omega arith in
    line_found a.statuses.now a.payloads.now a.sector a.out.now p.new.out a.at x.result p.result (rw c.from-j.ensures at i.false)
    (x.ensures ∙ ap (λ (k : ℕ). xor_of (take k (drop (256 * j) a.payloads.now))) n
    ∙ ap (λ (k : ℕ). xor_of (take 256 (drop (256 * k) a.payloads.now))) c.from-j.ensures) p.ensures
