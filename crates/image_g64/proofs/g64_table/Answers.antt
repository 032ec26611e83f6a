use Rattle.image_g64.specs.G64.{half_tracks}
use Rattle.image_g64.proofs.G64Laws.{g64_long, counts_long, table_unsigned, table_counts, table-rings}
use Rattle.std.proofs.Common.{sym, ◌∙◌, ◌+◌, ◌*◌, ◌≤◌, length, arith}
use Rattle.image_g64.proofs.g64_table.Goals as goal

pub returns-then-not-is_g64 : goal.returns-then-not-is_g64
returns-then-not-is_g64 c = table_unsigned c.args.image.now (sym c.is_g64.ensures ∙ c.if-not-is_g64.true)

pub bounds-image-9 : goal.bounds-image-9
bounds-image-9 c =
    let long : 12 ≤ length c.args.image.now = g64_long c.args.image.now (sym c.is_g64.ensures ∙ c.if-not-is_g64.false) in
    omega arith

pub read_word-max-requires : goal.read_word-max-requires
read_word-max-requires c =
    let long : 12 ≤ length c.args.image.now = g64_long c.args.image.now (sym c.is_g64.ensures ∙ c.if-not-is_g64.false) in
    omega arith

pub returns-then-not-counts_right : goal.returns-then-not-counts_right
returns-then-not-counts_right c =
    table_counts c.args.image.now (sym c.is_g64.ensures ∙ c.if-not-is_g64.false) (sym c.counts_right.ensures ∙ c.if-not-counts_right.true)

pub g64_rings-requires : goal.g64_rings-requires
g64_rings-requires c =
    let counted : 12 + 8 * half_tracks c.args.image.now ≤ length c.args.image.now =
    counts_long _ (sym c.counts_right.ensures ∙ c.if-not-counts_right.false) in
    omega arith

pub returns : goal.returns
returns c =
    c.g64_rings.ensures
    ∙ table-rings c.args.image.now (sym c.is_g64.ensures ∙ c.if-not-is_g64.false) (sym c.counts_right.ensures ∙ c.if-not-counts_right.false)
