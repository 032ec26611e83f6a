-- `every_ring`: a bad symbol that is answered is there, and is the first that was met; and none is answered where there is none.
use mathlib.Core.Path.{subst}
use mathlib.Core.List.{List}
use Prim.Native.Nat.{ℕ, ◌+◌, ◌-◌, ◌%◌}
use Rattle.ring.specs.Bit.{bits, bit_at}
use Rattle.scan.specs.Scan.{visits_of}
use Rattle.scan.specs.BadSymbols.{bad_symbol}
use Rattle.scan.proofs.EachVisit.{visits_every}
use Rattle.theorem_symbols.specs.Looked.{blocks_looked, EveryRing}
use Rattle.theorem_symbols.proofs.Telling.{Told, Faithful, told-visits}
use Rattle.theorem_symbols.proofs.EachBlock.{faithful}

module _ (ring : List ℕ) (track start : ℕ) where
  abbrev from : ℕ
  from = start % bits ring

  told : Told ring (blocks_looked ring track start) (bad_symbol ring track start)
  told =
      told-visits ring (visits_of ring track start)
      (visits_every (Faithful ring) (bit_at ring) track (from + bits ring) (λ h l sy. faithful ring track h) (from + bits ring - from) from)

pub every_ring : EveryRing
every_ring ring track start ok = record {
  header = λ k bit e. subst (Told ring (blocks_looked ring track start)) e (told ring track start);
  block = λ k bit e. subst (Told ring (blocks_looked ring track start)) e (told ring track start);
  none = λ e. subst (Told ring (blocks_looked ring track start)) e (told ring track start);
}
