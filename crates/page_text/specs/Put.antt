-- Text put into a lent buffer.
use Rattle.std.specs.Prelude.{ℕ, ◌+◌, ◌≡◌, List, length}
use Rattle.std.proofs.lemmas.List.Edits.{sets}

-- the text stands in the buffer from `at` on and nothing else of it changed; the answer is the place behind the text
pub record Put (before : List ℕ) (at : ℕ) (text after : List ℕ) (behind : ℕ) : Type 0 where
  pub written : after ≡ sets before at text
  pub next : behind ≡ at + length text
