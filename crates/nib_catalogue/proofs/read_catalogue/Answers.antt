use Rattle.nib_catalogue.proofs.Cataloguing.{nib_long, file_other, file_empty, file_faulty, file_cut, file_good}
use Rattle.nib_catalogue.specs.Catalogue.{is_nib}
use Prim.Native.Nat.{◌≤◌}
use mathlib.Core.Path.{◌≡◌, sym, ◌∙◌}
use mathlib.Core.Bool.{true}
use lib.ListN.{length}
use Rattle.nib_catalogue.proofs.read_catalogue.Goals as goal

pub returns-then-not-is_nib : goal.returns-then-not-is_nib
returns-then-not-is_nib c =
    file_other c.args.image.now (sym c.is_nib.ensures ∙ c.if-not-is_nib.true)

pub count_pairs-n-requires : goal.count_pairs-n-requires
count_pairs-n-requires c =
    let signed : is_nib c.args.image.now ≡ true = sym c.is_nib.ensures ∙ c.if-not-is_nib.false in
    let long : 256 ≤ length c.args.image.now = nib_long c.args.image.now signed in
    long

pub returns-then-n-eq0 : goal.returns-then-n-eq0
returns-then-n-eq0 c =
    let signed : is_nib c.args.image.now ≡ true = sym c.is_nib.ensures ∙ c.if-not-is_nib.false in
    file_empty c.args.image.now signed c.count_pairs-n.result c.count_pairs-n.ensures.0
    c.if-n-eq0.true

pub any_faulty-requires : goal.any_faulty-requires
any_faulty-requires c =
    let signed : is_nib c.args.image.now ≡ true = sym c.is_nib.ensures ∙ c.if-not-is_nib.false in
    let long : 256 ≤ length c.args.image.now = nib_long c.args.image.now signed in
    (c.count_pairs-n.ensures.1, long)

pub returns-then-any_faulty : goal.returns-then-any_faulty
returns-then-any_faulty c =
    let signed : is_nib c.args.image.now ≡ true = sym c.is_nib.ensures ∙ c.if-not-is_nib.false in
    file_faulty c.args.image.now signed c.count_pairs-n.result c.count_pairs-n.ensures.0
    c.if-n-eq0.false
    (sym c.any_faulty.ensures ∙ c.if-any_faulty.true)

pub returns-then-image-n : goal.returns-then-image-n
returns-then-image-n c =
    let signed : is_nib c.args.image.now ≡ true = sym c.is_nib.ensures ∙ c.if-not-is_nib.false in
    file_cut c.args.image.now signed c.count_pairs-n.result c.count_pairs-n.ensures.0
    c.if-n-eq0.false
    (sym c.any_faulty.ensures ∙ c.if-any_faulty.false) c.if-image-n.true

pub returns : goal.returns
returns c =
    let signed : is_nib c.args.image.now ≡ true = sym c.is_nib.ensures ∙ c.if-not-is_nib.false in
    file_good c.args.image.now signed c.count_pairs-n.result c.count_pairs-n.ensures.0
    c.if-n-eq0.false
    (sym c.any_faulty.ensures ∙ c.if-any_faulty.false) c.if-image-n.false
