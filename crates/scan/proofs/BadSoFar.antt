-- A scan that a caller goes through, by visits or by records: the first bad symbol that was met so far, and those that are left.
use Prim.Native.Nat.{ℕ, ◌+◌, ◌*◌, ◌%◌}
use mathlib.Core.Path.{◌≡◌, refl, sym, ap, ◌∙◌}
use mathlib.Core.List.{List, []}
use native.Mathlib.Nat.{zero-mod, zero-add}
use lib.ListN.{length}
use Rattle.std.specs.Prelude.{Option, Some, None}
use Rattle.std.specs.Option.{option_or}
use Rattle.ring.specs.Bit.{bits, bit_at}
use Rattle.scan.specs.declared.BadSymbol.{BadSymbol}
use Rattle.scan.specs.declared.SectorRecord.{SectorRecord}
use Rattle.scan.specs.declared.Visit.{Visit}
use Rattle.scan.specs.Scan.{next_sync, visits, records_from}
use Rattle.scan.specs.BadSymbols.{first_bad, bad_on_way, bad_symbol}
use Rattle.scan.specs.Meeting.{visit_with, visit_at, bit_after, bad_met}
use Rattle.scan.proofs.NextLaws.{NextIs}
use Rattle.scan.proofs.Passing.{end_of}
use Rattle.scan.proofs.BadLaws.{or_none, or_assoc, turn_bad, turn_no_bad, bad_past, bad_last}

-- the scan stands at `bit`, and has met `bad`; at its end it will have met `whole`
pub record BadSoFar (ring : List ℕ) (track end : ℕ) (whole bad : Option BadSymbol) (bit : ℕ) : Type 0 where
  pub all : option_or bad (first_bad (bits ring) (visits (bit_at ring) track end bit)) ≡ whole

-- one revolution from a start bit, and from bit 0
pub none_so_far : (ring : List ℕ) (track start : ℕ)
    → BadSoFar ring track (end_of ring start) (bad_symbol ring track start) None (start % bits ring)
none_so_far ring track start = record { all = refl }

pub none_from_0 : (ring : List ℕ) (track : ℕ) → BadSoFar ring track (bits ring) (bad_symbol ring track 0) None 0
none_from_0 ring track = record { all = rw (zero-mod (8 * length ring), zero-add (8 * length ring)) }

module _ {ring : List ℕ} {track end bit : ℕ} {whole bad : Option BadSymbol} (i : BadSoFar ring track end whole bad bit) where
  abbrev after : ℕ → Option BadSymbol
  after b = first_bad (bits ring) (visits (bit_at ring) track end b)

  -- met with more, and then what is left
  more : (here : Option BadSymbol) (b : ℕ) → after bit ≡ option_or here (after b) → BadSoFar ring track end whole (option_or bad here) b
  more here b e = record { all = or_assoc bad here (after b) ∙ ap (option_or bad) (sym e) ∙ i.all }

  ends : (here : Option BadSymbol) → after bit ≡ here → option_or bad here ≡ whole
  ends here e = ap (option_or bad) (sym e) ∙ i.all

  -- by a visit more, or none
  pub bad_more : (v : Visit) (p : List ℕ) → visit_with (Some v) p ≡ visit_at (bit_at ring) track (next_sync (bit_at ring) end bit)
      → (here now : Option BadSymbol) (b : ℕ) → here ≡ bad_met (bits ring) v.place v.met.header v.met.data
      → now ≡ option_or bad here → b ≡ bit_after v.place v.met.data → BadSoFar ring track end whole now b
  bad_more v p e here now b h w q = rw (w, h, q) (more _ _ (turn_bad (bits ring) (bit_at ring) track end bit v p e))

  pub bad_over : None ≡ visit_at (bit_at ring) track (next_sync (bit_at ring) end bit) → bad ≡ whole
  bad_over e = sym (or_none bad) ∙ ends None (turn_no_bad (bits ring) (bit_at ring) track end bit e)

  -- by a record more, and what was met on the way to it
  module _ (way now : Option BadSymbol) (w : way ≡ bad_on_way (bits ring) (visits (bit_at ring) track end bit)) (n : now ≡ option_or bad way) where
    pub bad_passed : (r : SectorRecord) → NextIs (bit_at ring) track end bit r → BadSoFar ring track end whole now (r.place + 2600)
    bad_passed r is = rw (n, w) (more _ _ (bad_past (bits ring) (bit_at ring) track end bit r is))

    pub bad-ends : records_from (bit_at ring) track end bit ≡ [] → now ≡ whole
    bad-ends e = rw (n, w) (ends _ (bad_last (bits ring) (bit_at ring) track end bit e))
