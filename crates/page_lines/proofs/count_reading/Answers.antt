use mathlib.Core.Path.{◌≡◌, ◌∙◌}
use Prim.Native.Nat.{ℕ}
use lib.Dec.{eqb}
use Rattle.std.proofs.Common.{rules}
use Rattle.std.specs.List.{count_by}
use Rattle.page_lines.proofs.TallyLaws.{count_by-eqb}
use Rattle.page_lines.proofs.count_reading.Goals as goal

pub returns : goal.returns
returns c =
    let s = c.args.statuses.now in
    let e : c.count.result ≡ count_by (λ (x : ℕ). eqb x 1) s = search rules in
    e ∙ count_by-eqb 1 s
