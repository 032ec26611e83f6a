-- At each visit the bad symbol tells of the blocks that the visit looked at.
--     reduced     a symbol is the same at a place and at its ring bit
--     first_bad_lem   where decoding gives an index, the symbol there is the first bad one
--     all_legal   where decoding gives bytes, there is none
--     faithful    the header, and the data block where one was looked at
use mathlib.Core.Path.{◌≡◌, refl, sym, ap, ◌∙◌}
use mathlib.Core.Bool.{Bool, true, false, ◌&&◌}
use mathlib.Core.List.{List, [], ◌∷◌}
use Prim.Native.Nat.{ℕ, ◌+◌, ◌*◌, ◌%◌}
use native.Mathlib.Omega.{arith}
use native.Mathlib.Nat.{mod-add-mod}
use lib.Dec.{eqb, ltb}
use Rattle.base.specs.Bits.{bit_in}
use Rattle.base.specs.Choice.{pick}
use Rattle.base.specs.Lists.{xor_of}
use Rattle.base.proofs.Tests.{ltb_yes, ltb_no}
use Rattle.geometry.specs.Zones.{sectors_of}
use Rattle.gcr.specs.Symbols.{is_legal, Decoded, Bytes, IllegalAt}
use Rattle.gcr.specs.Places.{symbol_at, decode_at}
use Rattle.gcr.proofs.DecodeLaws.{nib_at, decode_bytes, decode_illegal}
use Rattle.ring.specs.Bit.{bits, bit_at}
use Rattle.std.specs.Prelude.{Option, Some, None}
use Rattle.scan_sync.specs.Sync.{sync_end}
use Rattle.scan_visit.specs.Visit.{DataFound, BadData, AnotherHeader, GoodData, OtherMarker, FalseData}
use Rattle.scan_visit.specs.Visit.{HeaderFound, BadHeader, TrueHeader, NoHeader, FalseHeader}
use Rattle.scan_visit.specs.Visit.{at, payload_in, by_data, header_mark, data_at, by_sync, data_for, true_sum, by_header, visit}
use Rattle.scan_visit.proofs.VisitLaws.{mark→}
use Rattle.scan.specs.BadSymbols.{symbol_bit, bad_in_data, bad_at}
use Rattle.theorem_symbols.specs.Looked.{Block, header_block, data_block, data_looked, searched, Legal, FirstBad, Pointed}
use Rattle.theorem_symbols.proofs.Telling.{Told, told_cons, Faithful}

-- ---- the answers by their tests
abbrev pub tested : List ℕ → ℕ → Bool → Bool → DataFound
tested b d m u = pick m (pick u (GoodData d (payload_in b)) (BadData (FalseData d))) (BadData (OtherMarker d))

abbrev pub marked : ℕ → Bool → Decoded → DataFound
marked d m o = pick m (AnotherHeader d) (by_data d o)

abbrev pub judged : List ℕ → DataFound → Bool → Bool → Bool → HeaderFound
judged b f m u l =
    pick m (pick u (pick l (TrueHeader (at b 2) (at b 5) (at b 4) f) (BadHeader NoHeader)) (BadHeader (FalseHeader (at b 2))))
    (BadHeader NoHeader)

module _ (ring : List ℕ) where
  abbrev x : ℕ → ℕ
  x = bit_at ring

  -- ---- a symbol where it stands
  bit_reduced : (p i : ℕ) → bit_at ring (p % bits ring + i) ≡ bit_at ring (p + i)
  unfolding bit_at
  bit_reduced p i = ap (bit_in ring) (mod-add-mod p (bits ring) i)

  reduced : (p : ℕ) → symbol_at (bit_at ring) (p % bits ring) ≡ symbol_at (bit_at ring) p
  reduced p = λ i. bit_reduced_0 i * 16 + bit_reduced p 1 i * 8 + bit_reduced p 2 i * 4 + bit_reduced p 3 i * 2 + bit_reduced p 4 i
    where
      bit_reduced_0 : bit_at ring (p % bits ring) ≡ bit_at ring p
      bit_reduced_0 = ap (bit_at ring) (sym (omega arith)) ∙ bit_reduced p 0 ∙ ap (bit_at ring) (omega arith)

  pub first_bad_lem : (b : Block) (n k : ℕ) → b.symbols ≡ 2 * n → decode_at x b.place n ≡ IllegalAt k
      → FirstBad ring b k (symbol_bit (bits ring) b.place k)
  first_bad_lem b n k e w =
      let f = decode_illegal x b.place n k w in
      record {
        inside = omega (arith, f.inside);
        there = refl;
        outside = ap is_legal (reduced (b.place + 5 * k)) ∙ ltb_no (nib_at x b.place k) 16 f.illegal;
        before = λ i l. ltb_yes (nib_at x b.place i) 16 (f.before i l);
      }

  pub all_legal : (b : Block) (n : ℕ) (ys : List ℕ) → b.symbols ≡ 2 * n → decode_at x b.place n ≡ Bytes ys → Legal ring b b.symbols
  all_legal b n ys e w i l = ltb_yes (nib_at x b.place i) 16 ((decode_bytes x b.place n ys w).0 i (omega arith))

  -- one block, and its first bad symbol
  alone : (b : Block) (k bit : ℕ) → FirstBad ring b k bit → Pointed ring (b ∷ []) b k bit
  alone b k bit f = record { sooner = []; later = []; among = refl; legal = tt; bad = f }

  -- ---- a data block, by what stands at its place
  told-block : (d : ℕ) (o : Decoded) → decode_at x d 260 ≡ o → Told ring (data_looked (by_data d o)) (bad_in_data (bits ring) (by_data d o))
  told-block d (IllegalAt k) w = (d, alone (data_block d) k (symbol_bit (bits ring) d k) (first_bad_lem (data_block d) 260 k refl w))
  told-block d (Bytes b) w = by (eqb (at b 0) 7) (eqb (xor_of (payload_in b)) (at b 257))
    where
      legal : Legal ring (data_block d) 520
      legal = all_legal (data_block d) 260 b refl w

      by : (m u : Bool) → Told ring (data_looked (tested b d m u)) (bad_in_data (bits ring) (tested b d m u))
      by true true = (legal, tt)
      by true false = (legal, tt)
      by false u = (legal, tt)

  told_data : (d : ℕ) → Told ring (data_looked (data_at x d)) (bad_in_data (bits ring) (data_at x d))
  unfolding data_at
  told_data d = by (header_mark (decode_at x d 4)) refl
    where
      by : (m : Bool) → header_mark (decode_at x d 4) ≡ m
          → Told ring (data_looked (marked d m (decode_at x d 260))) (bad_in_data (bits ring) (marked d m (decode_at x d 260)))
      by true e = (λ i l. ltb_yes (nib_at x d i) 16 ((mark→ x d e).legal i l), tt)
      by false e = told-block d (decode_at x d 260) refl

  told-search : (h : ℕ) → Told ring (data_looked (data_for x h)) (bad_in_data (bits ring) (data_for x h))
  told-search h = by (sync_end x (h + 80) 768)
    where
      by : (o : Option ℕ) → Told ring (data_looked (by_sync x o)) (bad_in_data (bits ring) (by_sync x o))
      by None = tt
      by (Some d) = told_data d

  -- ---- a header, and the data search behind it
  told-header : (track h : ℕ) (f : DataFound) (o : Decoded) → decode_at x h 8 ≡ o → Told ring (data_looked f) (bad_in_data (bits ring) f)
      → Told ring (header_block h ∷ searched (by_header track f o)) (bad_at (bits ring) h (by_header track f o))
  told-header track h f (IllegalAt k) w t =
      (h, alone (header_block h) k (symbol_bit (bits ring) h k) (first_bad_lem (header_block h) 8 k refl w))
  told-header track h f (Bytes b) w t = by (eqb (at b 0) 8 && eqb (at b 3) track) (true_sum b) (ltb (at b 2) (sectors_of track))
    where
      legal : Legal ring (header_block h) 16
      legal = all_legal (header_block h) 8 b refl w

      by : (m u l : Bool) → Told ring (header_block h ∷ searched (judged b f m u l)) (bad_at (bits ring) h (judged b f m u l))
      by true true true = told_cons ring (header_block h) (data_looked f) (bad_in_data (bits ring) f) legal t
      by true true false = (legal, tt)
      by true false l = (legal, tt)
      by false u l = (legal, tt)

  pub faithful : (track h : ℕ) → Faithful ring (visit x track h)
  unfolding visit
  faithful track h = told-header track h (data_for x h) (decode_at x h 8) refl (told-search h)
