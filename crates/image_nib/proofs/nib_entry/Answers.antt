use Rattle.nib_catalogue.specs.Catalogue.{catalogue_of, entry_with}
use Rattle.nib_catalogue.proofs.Cataloguing.{counted, place_in}
use Rattle.image_nib.proofs.NibLaws.{window_is, window_absent}
use Rattle.std.proofs.Common.{◌≡◌, ◌+◌, ◌<◌, ℕ, List, Ok, Some, sym, ◌∙◌, arith}
use Rattle.image_nib.proofs.nib_entry.Goals as goal

pub find_code-requires : goal.find_code-requires
find_code-requires c =
    let d = counted c.args.image.now c.args.n c.requires.1 in
    (omega arith, omega arith)

pub returns-in_err-k : goal.returns-in_err-k
returns-in_err-k c =
    rw c.from_residual.ensures
    (window_absent c.args.image.now c.args.slot c.args.n c.requires.1 (omega arith) (sym c.find_code.ensures ∙ c.in_err-k.was))

few : (image : List ℕ) (slot n k : ℕ) → catalogue_of image ≡ Ok n → entry_with image (slot + 2) n ≡ Some k → k < 120
few image slot n k q e =
    let d = counted image n q in
    let i = place_in image (slot + 2) n k e in
    omega arith

pub overflow_mul-result : goal.overflow_mul-result
overflow_mul-result c =
    omega (arith, few c.args.image.now c.args.slot c.args.n c.in_ok-k.k c.requires.1 (sym c.find_code.ensures ∙ c.in_ok-k.was))

pub overflow_add-result : goal.overflow_add-result
overflow_add-result c =
    omega (arith, few c.args.image.now c.args.slot c.args.n c.in_ok-k.k c.requires.1 (sym c.find_code.ensures ∙ c.in_ok-k.was))

pub returns : goal.returns
returns c =
    window_is c.args.image.now c.args.slot c.args.n c.requires.1 (omega arith) c.in_ok-k.k (sym c.find_code.ensures ∙ c.in_ok-k.was)
