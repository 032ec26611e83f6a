use Rattle.std.proofs.Common.{◌≡◌, false}
use Rattle.image_g64.specs.G64.{g64_entry}
use Rattle.image_rings.specs.Rings.{ring_of, any_wrong}
use Rattle.image_rings.proofs.Filling.{Filled}
use Rattle.image_g64.proofs.g64_rings.Given as goal

abbrev pub invariant-loop-half : goal.invariant-loop-half
invariant-loop-half l =
    record {
      right : any_wrong (g64_entry l.image) l.half ≡ false;
      filled : Filled (λ half. ring_of (g64_entry l.image half)) l.half l.rings;
    }
