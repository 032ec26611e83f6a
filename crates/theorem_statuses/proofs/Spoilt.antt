-- A sector with code 4, 5 or 9 that escaped a dropout: what is said of it, and its status.
--     own_says       the visit to its header says its code
--     other_says     every other visit says its code, 2 or 9 of it
--     status_kept    its status is its code
use mathlib.Core.Path.{◌≡◌, sym, ap, ◌∙◌, subst}
use mathlib.Core.Logic.{◌≢◌, inl, inr}
use mathlib.Core.Bool.{Bool}
use Prim.Native.Nat.{ℕ, suc, ◌+◌, ◌≤◌, ◌<◌}
use native.Mathlib.Omega.{arith}
use lib.Dec.{T}
use lib.Bits.{bit_xor, xor_self}
use Rattle.base.proofs.Xor.{xor_r, xor_same, xor_r_suc, xor5}
use Rattle.geometry.specs.Zones.{sectors_of}
use Rattle.gcr.proofs.DecodeLaws.{nib_at, byte_at}
use Rattle.track_build.proofs.Unrolled.{Track}
use Rattle.track_build.proofs.Meaning.{pair_at, Meaning}
use Rattle.scan_sync.proofs.SyncLaws.{SyncAt}
use Rattle.scan_visit.specs.Visit.{data_at, visit}
use Rattle.scan.specs.Scan.{first_visits}
use Rattle.scan.proofs.EachVisit.{visits_every, visits_reach}
use Rattle.track_read.specs.Statuses.{said_by_data, said_of, status_in}
use Rattle.theorem_dropout.proofs.Cut.{dropped}
use Rattle.theorem_dropout.proofs.Sound.{header-own}
use Rattle.theorem_dropout.proofs.Complete.{nib_d, byte_d, nib_h, byte_h, sync_q, good-header, find_d, never_past}
use Rattle.theorem_statuses.proofs.Faults.{other_marker, false_data_lem}
use Rattle.theorem_statuses.proofs.Sayings.{Says, nothing, of_false, of_true, says, said_true, said_false}
use Rattle.theorem_statuses.proofs.Settled.{KeptCode, no_data_lem, false_sum, false_header_lem, Among, settled}

module _ (B : ℕ → ℕ) (st ln : ℕ → ℕ) (hh hd : ℕ → Bool) (hn dn : ℕ → ℕ → ℕ) (tr : Track B st ln hh hd hn dn) (N a n : ℕ) (wide : 9000 ≤ N)
    (track : ℕ) (code sec : ℕ → ℕ) (pay : ℕ → ℕ → ℕ) (mean : Meaning (sectors_of track) track code sec pay hh hd hn dn) where
  abbrev D : ℕ → ℕ
  D = dropped N a n B

  -- slot k escaped, and has a header
  module _ (k : ℕ) (safe : (i : ℕ) → st k ≤ i → i < st k + 2832 → D i ≡ B i) (hk : T (hh k)) where
    dk : T (hd k)
    dk = mean.data_there k (mean.has-header k hk).1

    bytes-h : (i : ℕ) → i < 8 → byte_at D (st k + 40) i ≡ pair_at (hn k) i
    bytes-h = byte_h B st ln hh hd hn dn tr N a n wide track code sec pay mean k safe hk

    bytes-d : (i : ℕ) → i < 260 → byte_at D (st k + 232) i ≡ pair_at (dn k) i
    bytes-d = byte_d B st ln hh hd hn dn tr N a n wide track code sec pay mean k safe dk

    legal-h : (i : ℕ) → i < 16 → nib_at D (st k + 40) i < 16
    legal-h i l =
        subst (λ (y : ℕ). y < 16) (sym (nib_h B st ln hh hd hn dn tr N a n wide track code sec pay mean k safe hk i l))
        ((tr.slot k).hn_lt i l)

    legal-d : (i : ℕ) → i < 520 → nib_at D (st k + 232) i < 16
    legal-d i l =
        subst (λ (y : ℕ). y < 16) (sym (nib_d B st ln hh hd hn dn tr N a n wide track code sec pay mean k safe dk i l))
        ((tr.slot k).dn_lt i l)

    its_sector : byte_at D (st k + 40) 2 ≡ sec k
    its_sector = bytes-h 2 (omega arith) ∙ mean.h-sector k

    -- a true header says what its data block says
    by_data_lem : code k ≢ 9 → said_of (sec k) (visit D track (st k + 40)) ≡ said_by_data (data_at D (st k + 232))
    by_data_lem c9 =
        ap (λ (y : ℕ). said_of y (visit D track (st k + 40))) (sym its_sector)
        ∙ said_true D track (st k + 40) (st k + 232) (good-header B st ln hh hd hn dn tr N a n wide track code sec pay mean k safe hk c9)
        (find_d B st ln hh hd hn dn tr N a n wide track code sec pay mean k safe hk)

    says_4 : code k ≡ 4 → said_of (sec k) (visit D track (st k + 40)) ≡ 4
    says_4 c =
        by_data_lem (λ f. omega arith)
        ∙ ap said_by_data (other_marker D (st k + 232) legal-d
        (bytes-d 0 (omega arith) ∙ omega (arith, (tr.slot k).dn_0, mean.d-unmarked k c)))

    says_5 : code k ≡ 5 → said_of (sec k) (visit D track (st k + 40)) ≡ 5
    says_5 c =
        by_data_lem (λ f. omega arith)
        ∙ ap said_by_data (false_data_lem D (st k + 232) legal-d
        (bytes-d 0 (omega arith) ∙ omega (arith, (tr.slot k).dn_0, mean.d-mark k (λ f. omega arith))) sum)
      where
        sum : xor_r (λ i. byte_at D (st k + 232) (suc i)) 256 ≢ byte_at D (st k + 232) 257
        sum e =
            let z : xor_r (λ i. byte_at D (st k + 232) (suc i)) 257 ≡ 0 =
            xor_r_suc (λ i. byte_at D (st k + 232) (suc i)) 256 ∙ ap (λ (y : ℕ). bit_xor y (byte_at D (st k + 232) 257)) e
            ∙ xor_self (byte_at D (st k + 232) 257) in
            let w : xor_r (λ i. byte_at D (st k + 232) (suc i)) 257 ≡ 255 =
            xor_same (λ i. byte_at D (st k + 232) (suc i)) (λ i. pair_at (dn k) (suc i)) 257 (λ i l. bytes-d (suc i) (omega arith))
            ∙ mean.d-inverted k c in
            omega arith

    says_9 : code k ≡ 9 → said_of (sec k) (visit D track (st k + 40)) ≡ 9
    says_9 c =
        ap (λ (y : ℕ). said_of y (visit D track (st k + 40))) (sym its_sector)
        ∙ said_false D track (st k + 40) (record {
          legal = legal-h;
          mark = bytes-h 0 (omega arith) ∙ omega (arith, (tr.slot k).hn_0, (tr.slot k).hn_1);
          tracks = bytes-h 3 (omega arith) ∙ mean.h-track k;
          sum = λ e.
              let z : xor_r (λ i. byte_at D (st k + 40) (suc i)) 5 ≡ 0 = xor5 (λ i. byte_at D (st k + 40) (suc i)) e in
              let w : xor_r (λ i. byte_at D (st k + 40) (suc i)) 5 ≡ 255 =
              xor_same (λ i. byte_at D (st k + 40) (suc i)) (λ i. pair_at (hn k) (suc i)) 5 (λ i l. bytes-h (suc i) (omega arith))
              ∙ mean.h-inverted k c in
              omega arith;
        })

    says_code : (c : ℕ) → KeptCode c → code k ≡ c → said_of (sec k) (visit D track (st k + 40)) ≡ c
    says_code c (no_data_lem f) e = says_4 (e ∙ f) ∙ sym f
    says_code c (false_sum f) e = says_5 (e ∙ f) ∙ sym f
    says_code c (false_header_lem f) e = says_9 (e ∙ f) ∙ sym f

  -- the slots of sector j escaped, and have code c
  module _ (j c : ℕ) (kept : KeptCode c) (coded : (k : ℕ) → sec k ≡ j → code k ≡ c)
      (safe : (k : ℕ) → sec k ≡ j → (i : ℕ) → st k ≤ i → i < st k + 2832 → D i ≡ B i) where
    headed : (k : ℕ) → sec k ≡ j → T (hh k)
    headed k e = by kept (coded k e)
      where
        by : KeptCode c → code k ≡ c → T (hh k)
        by (no_data_lem f) g = mean.header-there k (λ q. omega arith) (λ q. omega arith)
        by (false_sum f) g = mean.header-there k (λ q. omega arith) (λ q. omega arith)
        by (false_header_lem f) g = mean.header-there k (λ q. omega arith) (λ q. omega arith)

    own_says : (k : ℕ) → sec k ≡ j → said_of j (visit D track (st k + 40)) ≡ c
    own_says k e =
        ap (λ (y : ℕ). said_of y (visit D track (st k + 40))) (sym e) ∙ says_code k (safe k e) (headed k e) c kept (coded k e)

    other_says : (h : ℕ) → 10 ≤ h → SyncAt D h → Among c (said_of j (visit D track h))
    other_says h l sy = by (says D track h j)
      where
        own : (k : ℕ) × (h ≡ st k + 40) × T (hh k) × (code k ≢ 9) × (byte_at D h 2 ≡ sec k) → byte_at D h 2 ≡ j
            → said_of j (visit D track h) ≡ c
        own (k, eh, t, c9, es) e = ap (λ (y : ℕ). said_of j (visit D track y)) eh ∙ own_says k (sym es ∙ e)

        by : Says D track h j (said_of j (visit D track h)) → Among c (said_of j (visit D track h))
        by (nothing e) = inl e
        by (of_false e m s) = inr (inl e)
        by (of_true hd0 s) =
            inr (inr (own (header-own B st ln hh hd hn dn tr N a n wide track code sec pay mean h l sy hd0) s))

    -- from any bit ten places or more before a header of the sector
    pub status_kept : (k : ℕ) → sec k ≡ j → (e f b : ℕ) → st k + 40 < e + 10 → b + 10 ≤ st k + 40 → e ≤ f + b
        → status_in j (first_visits f D track e b) ≡ c
    status_kept k s e f b l1 l2 l3 =
        settled j c kept (first_visits f D track e b) (visits_every (λ v. Among c (said_of j v)) D track e other_says f b)
        (visits_reach (λ v. said_of j v ≡ c) D track e (st k + 40)
        (sync_q B st ln hh hd hn dn tr N a n wide track code sec pay mean k (safe k s) (headed k s)) l1 (own_says k s)
        (never_past B st ln hh hd hn dn tr N a n wide track code sec pay mean k (safe k s) (headed k s)) f b l2 l3)
