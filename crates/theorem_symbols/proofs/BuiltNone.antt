-- `built-none`: no symbol that a scan of an undamaged built track looks at is outside the table.
--     at_place     a sync end of the track is the place of a header or of a data block
--     none-at      so no visit meets a bad symbol
use mathlib.Core.Path.{◌≡◌, refl, sym, ap, ◌∙◌, subst}
use mathlib.Core.Bool.{Bool, true, false, ◌&&◌}
use mathlib.Core.List.{List, [], ◌∷◌}
use Prim.Native.Nat.{ℕ, ◌+◌, ◌-◌, ◌%◌, ◌≤◌, ◌<◌}
use native.Mathlib.Omega.{arith}
use native.Mathlib.Decide.{ℕ_discrete}
use lib.Dec.{T, eqb, ltb}
use lib.ListN.{get_or}
use Rattle.base.specs.Lists.{tab, xor_of}
use Rattle.base.proofs.Tests.{eqb_yes}
use Rattle.base.proofs.Lists.{get_d_tab}
use Rattle.geometry.specs.Zones.{sectors_of}
use Rattle.gcr.specs.Symbols.{Decoded, Bytes}
use Rattle.gcr.specs.Places.{decode_at}
use Rattle.gcr.proofs.DecodeLaws.{nib_at, byte_at, decode_legal}
use Rattle.ring.specs.Bit.{bits, bit_at}
use Rattle.track_build.proofs.Unrolled.{Track, Place, at-header, at_block, Found, place-run, ten_ones}
use Rattle.track_build.proofs.Picture.{slots_joined, built_is, unrolled}
use Rattle.std.specs.Prelude.{Option, Some, None}
use Rattle.scan_sync.specs.Sync.{sync_end}
use Rattle.scan_sync.proofs.SyncLaws.{SyncAt, SyncFound}
use Rattle.scan_visit.specs.Visit.{Visit}
use Rattle.scan_visit.specs.Visit.{at, payload_in, by_data, header_mark, data_at, by_sync, data_for, true_sum, by_header, visit}
use Rattle.std.specs.Option.{option_or}
use Rattle.scan.specs.Scan.{visits_of}
use Rattle.scan.specs.declared.BadSymbol.{BadSymbol}
use Rattle.scan.specs.BadSymbols.{bad_in_data, bad_at, first_bad, bad_symbol}
use Rattle.scan.proofs.EachVisit.{EveryVisit, visits_every}
use Rattle.scan.proofs.ScanLaws.{found-sync}
use Rattle.theorem_symbols.specs.Looked.{BuiltNone}
use Rattle.theorem_symbols.proofs.EachBlock.{tested, marked, judged}

-- ---- visits that meet none
pub none_of : (n : ℕ) (vs : List Visit) → EveryVisit (λ v. bad_at n v.place v.found ≡ None) vs → first_bad n vs ≡ None
unfolding first_bad
none_of n [] t = refl
none_of n (v ∷ vs) t = ap (λ (s : Option BadSymbol). option_or s (first_bad n vs)) t.0 ∙ none_of n vs t.1

-- ---- blocks whose symbols are all legal
module _ (x : ℕ → ℕ) (n : ℕ) where
  -- a data block
  none-block : (d : ℕ) → ((k : ℕ) → k < 520 → nib_at x d k < 16) → bad_in_data n (data_at x d) ≡ None
  unfolding data_at
  none-block d legal = by (header_mark (decode_at x d 4)) (tab 260 (byte_at x d)) (decode_legal x d 260 legal)
    where
      tests : (b : List ℕ) (m u : Bool) → bad_in_data n (tested b d m u) ≡ None
      tests b true true = refl
      tests b true false = refl
      tests b false u = refl

      by : (m : Bool) (b : List ℕ) → decode_at x d 260 ≡ Bytes b → bad_in_data n (marked d m (decode_at x d 260)) ≡ None
      by true b w = refl
      by false b w =
          ap (λ (o : Decoded). bad_in_data n (by_data d o)) w ∙ tests b (eqb (at b 0) 7) (eqb (xor_of (payload_in b)) (at b 257))

  -- a header where data is looked for
  none-marked : (d : ℕ) → ((k : ℕ) → k < 8 → nib_at x d k < 16) → byte_at x d 0 ≡ 8 → bad_in_data n (data_at x d) ≡ None
  unfolding data_at
  none-marked d legal e =
      ap (λ (m : Bool). bad_in_data n (marked d m (decode_at x d 260)))
      (ap header_mark (decode_legal x d 4 legal) ∙ eqb_yes (at (tab 4 (byte_at x d)) 0) 8 (get_d_tab 4 (byte_at x d) 0 (omega arith) ∙ e))

  -- a header or a data block at a sync end
  none-visit : (track h : ℕ) → ((k : ℕ) → k < 16 → nib_at x h k < 16) → bad_in_data n (data_for x h) ≡ None
      → bad_at n (visit x track h).place (visit x track h).found ≡ None
  unfolding visit
  none-visit track h legal e = by (tab 8 (byte_at x h)) (decode_legal x h 8 legal)
    where
      tests : (b : List ℕ) (m u l : Bool) → bad_at n h (judged b (data_for x h) m u l) ≡ None
      tests b true true true = e
      tests b true true false = refl
      tests b true false l = refl
      tests b false u l = refl

      by : (b : List ℕ) → decode_at x h 8 ≡ Bytes b → bad_at n h (by_header track (data_for x h) (decode_at x h 8)) ≡ None
      by b w =
          ap (λ (o : Decoded). bad_at n h (by_header track (data_for x h) o)) w
          ∙ tests b (eqb (at b 0) 8 && eqb (at b 3) track) (true_sum b) (ltb (at b 2) (sectors_of track))

-- ---- the places of a track
module _ (B : ℕ → ℕ) (st ln : ℕ → ℕ) (hh hd : ℕ → Bool) (hn dn : ℕ → ℕ → ℕ) (tr : Track B st ln hh hd hn dn) where
  -- ten ones stand only before a place, and the zero after them is its first bit
  pub at_place : (h : ℕ) → 10 ≤ h → SyncAt B h → (k : ℕ) × Place h (st k) (hh k) (hd k)
  at_place h l sy = go (ten_ones B st ln hh hd hn dn tr (h - 10) (λ i i1 i2. one i (sy.ten i (omega arith) (omega arith))))
    where
      one : (i : ℕ) → (B i ≡ 0 → ⊥) → B i ≡ 1
      one i ne = omega (arith, tr.bits i, ne)

      go : Found B st ln hh hd hn dn tr (h - 10) → (k : ℕ) × Place h (st k) (hh k) (hd k)
      go (k, q, pl, l1, l2) = here (ℕ_discrete h q)
        where
          here : Dec (h ≡ q) → (k : ℕ) × Place h (st k) (hh k) (hd k)
          here (yes e) = (k, subst (λ (y : ℕ). Place y (st k) (hh k) (hd k)) (sym e) pl)
          here (no ne) =
              absurd (omega (arith, sy.zer, place-run B st ln hh hd hn dn tr q k pl h (omega arith) (omega arith)))

  legal-h : (h k : ℕ) → T (hh k) → h ≡ st k + 40 → (j : ℕ) → j < 16 → nib_at B h j < 16
  legal-h h k t e j l =
      subst (λ (y : ℕ). y < 16) (sym (ap (λ (y : ℕ). nib_at B y j) e ∙ (tr.slot k).header t j l)) ((tr.slot k).hn_lt j l)

  legal-d : (h k : ℕ) → T (hd k) → h ≡ st k + 232 → (j : ℕ) → j < 520 → nib_at B h j < 16
  legal-d h k t e j l =
      subst (λ (y : ℕ). y < 16) (sym (ap (λ (y : ℕ). nib_at B y j) e ∙ (tr.slot k).block t j l)) ((tr.slot k).dn_lt j l)

  module _ (n track : ℕ) where
    -- where data is looked for
    none_data : (d : ℕ) → 10 ≤ d → SyncAt B d → bad_in_data n (data_at B d) ≡ None
    none_data d l sy = go (at_place d l sy)
      where
        go : (k : ℕ) × Place d (st k) (hh k) (hd k) → bad_in_data n (data_at B d) ≡ None
        go (k, at_block t e) = none-block B n d (legal-d d k t e)
        go (k, at-header t e) =
            none-marked B n d (λ j m. legal-h d k t e j (omega arith))
            (ap (λ (y : ℕ). byte_at B y 0) e
            ∙ omega (
              arith,
              (tr.slot k).header t 0 (omega arith),
              (tr.slot k).hn_0,
              (tr.slot k).header t 1 (omega arith),
              (tr.slot k).hn_1,
            ))

    none-search : (h : ℕ) → bad_in_data n (data_for B h) ≡ None
    none-search h = go (sync_end B (h + 80) 768) refl
      where
        go : (o : Option ℕ) → sync_end B (h + 80) 768 ≡ o → bad_in_data n (by_sync B o) ≡ None
        go None w = refl
        go (Some d) w =
            let fd : SyncFound B (h + 80) (h + 80 + 768) d = found-sync B (h + 80) 768 d w in
            none_data d (omega (arith, fd.1)) fd.0

    pub none-at : (h : ℕ) → 10 ≤ h → SyncAt B h → bad_at n (visit B track h).place (visit B track h).found ≡ None
    none-at h l sy = none-visit B n track h (legal (at_place h l sy)) (none-search h)
      where
        legal : (k : ℕ) × Place h (st k) (hh k) (hd k) → (j : ℕ) → j < 16 → nib_at B h j < 16
        legal (k, at-header t e) j m = legal-h h k t e j m
        legal (k, at_block t e) j m = legal-d h k t e j (omega arith)

-- ---- a built track
module _ (track id1 id2 start : ℕ) (payloads codes : List ℕ) (ht : track < 256) (h1 : id1 < 256) (h2 : id2 < 256)
    (bytes : (i : ℕ) → get_or payloads i 0 < 256) where
  abbrev ring : List ℕ
  ring = slots_joined track payloads codes id1 id2

  abbrev from : ℕ
  from = start % bits ring

  none-met : bad_symbol ring track start ≡ None
  none-met =
      none_of (bits ring) (visits_of ring track start)
      (visits_every (λ v. bad_at (bits ring) v.place v.found ≡ None) (bit_at ring) track (from + bits ring)
      (none-at _ _ _ _ _ _ _ (unrolled track payloads codes id1 id2 ht h1 h2 bytes) (bits ring) track) (from + bits ring - from) from)

pub built-none : BuiltNone
built-none track id1 id2 start payloads codes ht h1 h2 bytes =
    ap (λ (r : List ℕ). bad_symbol r track start) (built_is track payloads codes id1 id2)
    ∙ none-met track id1 id2 start payloads codes ht h1 h2 bytes
