-- A sector with code 2 or 3 on an undamaged track: nothing is said of it; and where there are visits at all.
--     only_two     every visit says 2 of it
--     no_sync_lem      a track of gaps alone has no sync end
--     some-sync    a slot with a data block has one
use mathlib.Core.Path.{◌≡◌, sym, ap, ◌∙◌}
use mathlib.Core.Logic.{◌≢◌, ◌⊎◌, inl, inr}
use mathlib.Core.Bool.{Bool}
use Prim.Native.Nat.{ℕ, ◌+◌, ◌-◌, ◌≤◌}
use native.Mathlib.Omega.{arith}
use lib.Dec.{T}
use Rattle.geometry.specs.Zones.{sectors_of}
use Rattle.gcr.proofs.DecodeLaws.{byte_at}
use Rattle.track_build.proofs.Unrolled.{Track, Place, at-header, at_block, Found, ten_ones}
use Rattle.track_build.proofs.Meaning.{Meaning}
use Rattle.scan_sync.proofs.SyncLaws.{SyncAt}
use Rattle.scan_visit.specs.Visit.{visit}
use Rattle.track_read.specs.Statuses.{said_of}
use Rattle.theorem_dropout.proofs.Cut.{dropped}
use Rattle.theorem_dropout.proofs.Sound.{not-zero, mark_8, header-own}
use Rattle.theorem_dropout.proofs.Complete.{sync-d, byte_h}
use Rattle.theorem_statuses.proofs.Sayings.{Says, nothing, of_false, of_true, says}

module _ (B : ℕ → ℕ) (st ln : ℕ → ℕ) (hh hd : ℕ → Bool) (hn dn : ℕ → ℕ → ℕ) (tr : Track B st ln hh hd hn dn) (N a n : ℕ) (wide : 9000 ≤ N)
    (track : ℕ) (code sec : ℕ → ℕ) (pay : ℕ → ℕ → ℕ) (mean : Meaning (sectors_of track) track code sec pay hh hd hn dn) where
  abbrev D : ℕ → ℕ
  D = dropped N a n B

  -- ten ones in a row end in a sync run, and there is none
  pub no_sync_lem : ((k : ℕ) → T (hh k) → ⊥) → ((k : ℕ) → T (hd k) → ⊥) → (h : ℕ) → 10 ≤ h → SyncAt D h → ⊥
  no_sync_lem no_Header no_block h l sy =
      go (ten_ones B st ln hh hd hn dn tr (h - 10)
      (λ i i1 i2. (not-zero B st ln hh hd hn dn tr N a n wide i (sy.ten i (omega arith) (omega arith))).1))
    where
      at_place : (q k : ℕ) → Place q (st k) (hh k) (hd k) → ⊥
      at_place q k (at-header t e) = no_Header k t
      at_place q k (at_block t e) = no_block k t

      go : Found B st ln hh hd hn dn tr (h - 10) → ⊥
      go (k, q, pl, l1, l2) = at_place q k pl

  module _ (clean : (i : ℕ) → D i ≡ B i) where
    pub some-sync : (k : ℕ) → code k ≢ 3 → SyncAt D (st k + 232)
    some-sync k n3 =
        sync-d B st ln hh hd hn dn tr N a n wide track code sec pay mean k (λ i l m. clean i) (mean.data_there k n3)

    -- no slot of sector j has a header
    pub only_two : (j : ℕ) → ((k : ℕ) → sec k ≡ j → (code k ≡ 2) ⊎ (code k ≡ 3)) → (h : ℕ) → 10 ≤ h → SyncAt D h
        → said_of j (visit D track h) ≡ 2
    only_two j gone h l sy = by (says D track h j)
      where
        headless : (k : ℕ) → T (hh k) → sec k ≡ j → ⊥
        headless k t e = which (gone k e)
          where
            which : (code k ≡ 2) ⊎ (code k ≡ 3) → ⊥
            which (inl c) = (mean.has-header k t).0 c
            which (inr c) = (mean.has-header k t).1 c

        own_false : (k : ℕ) × (h ≡ st k + 40) × T (hh k) → byte_at D h 2 ≡ j → ⊥
        own_false (k, e, t) s =
            headless k t
            (sym (ap (λ (y : ℕ). byte_at D y 2) e
            ∙ byte_h B st ln hh hd hn dn tr N a n wide track code sec pay mean k (λ i l m. clean i) t 2 (omega arith)
            ∙ mean.h-sector k) ∙ s)

        own_true : (k : ℕ) × (h ≡ st k + 40) × T (hh k) × (code k ≢ 9) × (byte_at D h 2 ≡ sec k) → byte_at D h 2 ≡ j → ⊥
        own_true (k, e, t, c, q) s = headless k t (sym q ∙ s)

        by : Says D track h j (said_of j (visit D track h)) → said_of j (visit D track h) ≡ 2
        by (nothing e) = e
        by (of_false e m s) =
            absurd (own_false (mark_8 B st ln hh hd hn dn tr N a n wide track code sec pay mean h l sy (m.legal 0 (omega arith))
            (m.legal 1 (omega arith)) m.mark) s)
        by (of_true hd0 s) = absurd (own_true (header-own B st ln hh hd hn dn tr N a n wide track code sec pay mean h l sy hd0) s)
