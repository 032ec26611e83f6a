-- Room for an image, a master or a disk's rings: zeros, as many as it says. A record, since a caller that lends the bytes needs their
-- number as a fact: counted out, a million of them are more than the prover has room for.
use Rattle.std.specs.Prelude.{ℕ, ◌≡◌, List, length, replicate}

pub record Room (n : ℕ) (bytes : List ℕ) : Type 0 where
  pub zeros : bytes ≡ replicate n 0
  pub long : n ≡ length bytes
