-- The whole master, and the answers.
use Rattle.std.specs.Prelude.{Option, Some, None, Result, Ok, Err}
use Prim.Native.Nat.{ℕ, ◌≤◌, ◌<◌}
use mathlib.Core.Path.{◌≡◌, refl, sym, ap, ◌∙◌}
use mathlib.Core.List.{List}
use native.Mathlib.Omega.{arith}
use lib.ListN.{length, length-append}
use lib.Seq.{sets}
use Rattle.base.specs.Lists.{joined}
use Rattle.base.proofs.Tests.{ltb_yes, ltb_no}
use Rattle.base.proofs.InRow.{sets_front}
use Rattle.base.proofs.Pieces.{put_turn}
use Rattle.geometry.specs.D64.{tracks_of}
use Rattle.base.specs.declared.Refusal.{Refusal}
use Rattle.base.specs.declared.Refusal.TheVariants.{WrongImage, NoRoom}
use Rattle.g64_write.specs.Master.{master_head, master_of, master_size}
use Rattle.g64_write.specs.Answers.{answer_by, mastered, out_by, out_after}
use Rattle.g64_write.proofs.Tables.{head_length}
use Rattle.g64_write.proofs.Tracks.{entry, entries_length}

module _ (d64 : List ℕ) (n : ℕ) where
  pub master_length : length (master_of d64 n) ≡ master_size n
  unfolding master_of
  master_length =
      length-append (master_head n) (joined n (entry d64 n)) ∙ omega (arith, head_length n, entries_length d64 n n)

  pub master_put : (l a b : List ℕ) → a ≡ sets l 0 (master_head n) → b ≡ sets a 684 (joined n (entry d64 n))
      → b ≡ sets l 0 (master_of d64 n)
  unfolding master_of
  master_put l a b p q = put_turn l a b (master_head n) (joined n (entry d64 n)) 0 684 684 p (head_length n) refl q

-- ---- the answers
module _ (d64 out : List ℕ) where
  abbrev Answers : Result ℕ Refusal → List ℕ → Type 0
  Answers told after = (told ≡ mastered d64 out) × (after ≡ out_after d64 out)

  by_size : (t : Option ℕ) → tracks_of (length d64) ≡ t → Answers (answer_by t (length out)) (out_by t d64 out)
  unfolding mastered out_after
  by_size t e = (
    sym (ap (λ (y : Option ℕ). answer_by y (length out)) e),
    sym (ap (λ (y : Option ℕ). out_by y d64 out) e),
  )

  pub no_d64 : tracks_of (length d64) ≡ None → Answers (Err WrongImage) out
  no_d64 e = by_size None e

  module _ (n : ℕ) (e : tracks_of (length d64) ≡ Some n) where
    pub no_room_lem : length out < master_size n → Answers (Err NoRoom) out
    no_room_lem h = rw (ltb_yes (length out) (master_size n) h) at (by_size (Some n) e)

    pub done : master_size n ≤ length out → (after : List ℕ) → after ≡ sets out 0 (master_of d64 n) → Answers (Ok (master_size n)) after
    done h after p =
        let g = rw (ltb_no (length out) (master_size n) h) at (by_size (Some n) e) in
        (g.0, p ∙ sets_front (master_of d64 n) out (master_size n) (master_length d64 n) h ∙ g.1)
