-- What the nibbles of a built slot say, by its code: markers, checksums, sector, track, payload.
use mathlib.Core.Path.{◌≡◌, refl, sym, ap, ap₂, ◌∙◌, subst}
use mathlib.Core.Logic.{◌≢◌, ◌⊎◌, inl, inr}
use mathlib.Core.Bool.{Bool, true, false, not}
use mathlib.Core.List.{List, [], ◌∷◌, ◌++◌}
use Prim.Native.Nat.{ℕ, zero, suc, ◌+◌, ◌-◌, ◌*◌, ◌/◌, ◌%◌, ◌≤◌, ◌<◌}
use native.Mathlib.Omega.{arith}
use native.Mathlib.Nat.{mod-lt}
use native.Mathlib.Decide.{dec_lt}
use lib.Dec.{T, eqb}
use lib.ListN.{length, get_or, length-append, get_or-append}
use lib.Seq.{get_or-append-add}
use lib.Bits.{bit_xor, xor_lt, xor_self}
use Rattle.base.specs.Choice.{pick}
use Rattle.base.specs.Lists.{xor_of}
use Rattle.base.proofs.Tests.{eqb_yes, eqb_no, pick_lt}
use Rattle.base.proofs.Lists.{is_tab}
use Rattle.base.proofs.Xor.{xor_r, xor_same, xor5, xor_r_suc, xor_r_lt, xor_assoc, xor5_inverted, xor_of-tab}
use Rattle.gcr.proofs.EncodeLaws.{at, half, nibble, Bytes}
use Rattle.track_build.specs.Blocks.{inverted, header_bytes, data_bytes}
use Rattle.track_build.proofs.SlotBits.{headed}

-- byte i of nibbles
abbrev pub pair_at : (ℕ → ℕ) → ℕ → ℕ
pair_at f i = f (2 * i) * 16 + f (2 * i + 1)

-- what the nibbles of slot k say, by its code
pub record Meaning (count track : ℕ) (code sec : ℕ → ℕ) (pay : ℕ → ℕ → ℕ) (hh hd : ℕ → Bool) (hn dn : ℕ → ℕ → ℕ) : Type 0 where
  pub has-header : (k : ℕ) → T (hh k) → (code k ≢ 2) × (code k ≢ 3)
  pub header-there : (k : ℕ) → code k ≢ 2 → code k ≢ 3 → T (hh k)
  pub data_there : (k : ℕ) → code k ≢ 3 → T (hd k)
  pub h-sum : (k : ℕ) → code k ≢ 9 → xor_r (λ i. pair_at (hn k) (suc i)) 5 ≡ 0
  pub h-inverted : (k : ℕ) → code k ≡ 9 → xor_r (λ i. pair_at (hn k) (suc i)) 5 ≡ 255
  pub h-sector : (k : ℕ) → pair_at (hn k) 2 ≡ sec k
  pub h-track : (k : ℕ) → pair_at (hn k) 3 ≡ track
  pub sector_lt : (k : ℕ) → sec k < count
  pub d-mark : (k : ℕ) → code k ≢ 4 → dn k 1 ≡ 7
  pub d-unmarked : (k : ℕ) → code k ≡ 4 → dn k 1 ≡ 0
  pub d-sum : (k : ℕ) → code k ≢ 5 → xor_r (λ i. pair_at (dn k) (suc i)) 257 ≡ 0
  pub d-inverted : (k : ℕ) → code k ≡ 5 → xor_r (λ i. pair_at (dn k) (suc i)) 257 ≡ 255
  pub d-payload : (k i : ℕ) → i < 256 → pair_at (dn k) (suc i) ≡ pay k i

-- ---- nibbles and bytes
pair_of : (f : ℕ → ℕ) (i : ℕ) → f i < 256 → pair_at (nibble f) i ≡ f i
pair_of f i h =
    let e1 : 2 * i % 2 ≡ 0 = omega arith in
    let e2 : 2 * i / 2 ≡ i = omega arith in
    let e3 : (2 * i + 1) % 2 ≡ 1 = omega arith in
    let e4 : (2 * i + 1) / 2 ≡ i = omega arith in
    ap₂ (λ (y z : ℕ). y * 16 + z) (ap₂ (λ (y z : ℕ). half y (f z)) e1 e2) (ap₂ (λ (y z : ℕ). half y (f z)) e3 e4) ∙ omega arith

inverted_lt : (b : Bool) (x : ℕ) → x < 256 → inverted b x < 256
inverted_lt true x h = xor_lt 8 x 255 h (omega arith)
inverted_lt false x h = h

pub header_lt : (c j track i1 i2 : ℕ) → j < 256 → track < 256 → i1 < 256 → i2 < 256 → (i : ℕ) → at (header_bytes c j track i1 i2) i < 256
header_lt c j track i1 i2 hj ht h1 h2 = go
  where
    x1 : inverted (eqb c 11) i1 < 256
    x1 = inverted_lt (eqb c 11) i1 h1

    x2 : inverted (eqb c 11) i2 < 256
    x2 = inverted_lt (eqb c 11) i2 h2

    go : (i : ℕ) → at (header_bytes c j track i1 i2) i < 256
    go zero = omega arith
    go (suc zero) = inverted_lt (eqb c 9) (bit_xor (bit_xor (bit_xor j track) (inverted (eqb c 11) i2)) (inverted (eqb c 11) i1))
        (xor_lt 8 (bit_xor (bit_xor j track) (inverted (eqb c 11) i2)) (inverted (eqb c 11) i1)
        (xor_lt 8 (bit_xor j track) (inverted (eqb c 11) i2) (xor_lt 8 j track hj ht) x2) x1)
    go (suc (suc zero)) = hj
    go (suc (suc (suc zero))) = ht
    go (suc (suc (suc (suc zero)))) = x2
    go (suc (suc (suc (suc (suc zero))))) = x1
    go (suc (suc (suc (suc (suc (suc zero)))))) = omega arith
    go (suc (suc (suc (suc (suc (suc (suc zero))))))) = omega arith
    go (suc (suc (suc (suc (suc (suc (suc (suc i)))))))) = omega arith

has_head : (c : ℕ) → T (headed (eqb c 3) (eqb c 2)) → (c ≢ 2) × (c ≢ 3)
has_head c t = (
  λ e. go2 (eqb c 3) (subst (λ (b : Bool). T (headed (eqb c 3) b)) (eqb_yes c 2 e) t),
  λ e. subst (λ (b : Bool). T (headed b (eqb c 2))) (eqb_yes c 3 e) t,
)
  where
    go2 : (b : Bool) → T (headed b true) → ⊥
    go2 true t = t
    go2 false t = t

-- ---- the sums
module _ (c j track i1 i2 : ℕ) (hj : j < 256) (ht : track < 256) (h1 : i1 < 256) (h2 : i2 < 256) where
  hb : ℕ → ℕ
  hb i = at (header_bytes c j track i1 i2) (suc i)

  pairs-h : xor_r (λ i. pair_at (nibble (at (header_bytes c j track i1 i2))) (suc i)) 5 ≡ xor_r hb 5
  unfolding hb
  pairs-h = xor_same (λ i. pair_at (nibble (at (header_bytes c j track i1 i2))) (suc i)) hb 5
      (λ i l. pair_of (at (header_bytes c j track i1 i2)) (suc i) (header_lt c j track i1 i2 hj ht h1 h2 (suc i)))

  sum-h : c ≢ 9 → xor_r (λ i. pair_at (nibble (at (header_bytes c j track i1 i2))) (suc i)) 5 ≡ 0
  unfolding hb
  sum-h ne = pairs-h ∙ xor5 hb (ap (λ (b : Bool). inverted b (bit_xor (bit_xor (bit_xor j track) (inverted (eqb c 11) i2))
      (inverted (eqb c 11) i1))) (eqb_no c 9 ne))

  sum_h9 : c ≡ 9 → xor_r (λ i. pair_at (nibble (at (header_bytes c j track i1 i2))) (suc i)) 5 ≡ 255
  unfolding hb
  sum_h9 e = pairs-h ∙ xor5_inverted hb 255 (ap (λ (b : Bool). inverted b
      (bit_xor (bit_xor (bit_xor j track) (inverted (eqb c 11) i2)) (inverted (eqb c 11) i1))) (eqb_yes c 9 e))

-- ---- a data block
module _ (c : ℕ) (payload : List ℕ) (len : length payload ≡ 256) (bytes : Bytes payload) where
  abbrev rest : List ℕ
  rest = inverted (eqb c 5) (xor_of payload) ∷ 0 ∷ 0 ∷ []

  sum_is : xor_of payload ≡ xor_r (at payload) 256
  sum_is = ap xor_of (is_tab payload 256 (at payload) len (λ k h. refl)) ∙ xor_of-tab 256 (at payload)

  pub data_long : 260 ≤ length (data_bytes c payload)
  data_long = simp length-append (omega arith)

  data_pay : (i : ℕ) → i < 256 → at (data_bytes c payload) (suc i) ≡ at payload i
  data_pay i l = get_or-append payload rest 0 i (omega arith)

  data_rest : (i j : ℕ) → i ≡ 256 + j → at (data_bytes c payload) (suc i) ≡ get_or rest j 0
  data_rest i j e =
      let q : i ≡ length payload + j = omega arith in
      ap (λ (y : ℕ). get_or (payload ++ rest) y 0) q ∙ get_or-append-add payload rest j 0

  rest_lt : (j : ℕ) → get_or rest j 0 < 256
  rest_lt zero = inverted_lt (eqb c 5) (xor_of payload) (subst (λ (y : ℕ). y < 256) (sym sum_is)
      (xor_r_lt (at payload) 256 8 (λ i l. bytes i)))
  rest_lt (suc zero) = omega arith
  rest_lt (suc (suc zero)) = omega arith
  rest_lt (suc (suc (suc j))) = omega arith

  pub data_lt : Bytes (data_bytes c payload)
  data_lt zero = pick_lt (eqb c 4) 0 7 256 (omega arith) (omega arith)
  data_lt (suc i) = go (dec_lt i 256)
    where
      go : Dec (i < 256) → at (data_bytes c payload) (suc i) < 256
      go (yes l) = subst (λ (y : ℕ). y < 256) (sym (data_pay i l)) (bytes i)
      go (no l) = subst (λ (y : ℕ). y < 256) (sym (data_rest i (i - 256) (omega arith))) (rest_lt (i - 256))

  pub mark_is : (at (data_bytes c payload) 0 ≡ 7) ⊎ (at (data_bytes c payload) 0 ≡ 0)
  mark_is = go (eqb c 4)
    where
      go : (b : Bool) → (◌≡◌ {A = ℕ} (pick b 0 7) 7) ⊎ (◌≡◌ {A = ℕ} (pick b 0 7) 0)
      go true = inr refl
      go false = inl refl

  pub payload-d : (i : ℕ) → i < 256 → pair_at (nibble (at (data_bytes c payload))) (suc i) ≡ at payload i
  payload-d i l = pair_of (at (data_bytes c payload)) (suc i) (data_lt (suc i)) ∙ data_pay i l

  sum_of : (y : ℕ) → bit_xor (xor_r (at payload) 256) (inverted (eqb c 5) (xor_r (at payload) 256)) ≡ y
      → xor_r (λ i. pair_at (nibble (at (data_bytes c payload))) (suc i)) 257 ≡ y
  sum_of y e =
      xor_r_suc (λ i. pair_at (nibble (at (data_bytes c payload))) (suc i)) 256
      ∙ ap₂ bit_xor (xor_same (λ i. pair_at (nibble (at (data_bytes c payload))) (suc i)) (at payload) 256 payload-d)
      (pair_of (at (data_bytes c payload)) 257 (data_lt 257) ∙ data_rest 256 0 refl ∙ ap (inverted (eqb c 5)) sum_is)
      ∙ e

  sum-d : c ≢ 5 → xor_r (λ i. pair_at (nibble (at (data_bytes c payload))) (suc i)) 257 ≡ 0
  sum-d ne = sum_of 0 (ap (λ (b : Bool). bit_xor (xor_r (at payload) 256) (inverted b (xor_r (at payload) 256))) (eqb_no c 5 ne)
      ∙ xor_self (xor_r (at payload) 256))

  sum_d5 : c ≡ 5 → xor_r (λ i. pair_at (nibble (at (data_bytes c payload))) (suc i)) 257 ≡ 255
  sum_d5 e = sum_of 255 (ap (λ (b : Bool). bit_xor (xor_r (at payload) 256) (inverted b (xor_r (at payload) 256))) (eqb_yes c 5 e)
      ∙ sym (xor_assoc (xor_r (at payload) 256) (xor_r (at payload) 256) 255)
      ∙ ap (λ (z : ℕ). bit_xor z 255) (xor_self (xor_r (at payload) 256)))

  mark-d : c ≢ 4 → nibble (at (data_bytes c payload)) 1 ≡ 7
  mark-d ne = ap (λ (b : Bool). pick b 0 7 % 16) (eqb_no c 4 ne)

  mark_d4 : c ≡ 4 → nibble (at (data_bytes c payload)) 1 ≡ 0
  mark_d4 e = ap (λ (b : Bool). pick b 0 7 % 16) (eqb_yes c 4 e)

-- ---- a track of `count` sectors
module _ (count : ℕ) (few : count ≤ 256) (pos : 0 < count) (code : ℕ → ℕ) (payload : ℕ → List ℕ) (track i1 i2 : ℕ)
    (ht : track < 256) (h1 : i1 < 256) (h2 : i2 < 256) (lp : (j : ℕ) → length (payload j) ≡ 256) (bp : (j : ℕ) → Bytes (payload j)) where
  abbrev pub hdr : ℕ → List ℕ
  hdr j = header_bytes (code j) j track i1 i2

  abbrev pub dat : ℕ → List ℕ
  dat j = data_bytes (code j) (payload j)

  small : (k : ℕ) → k % count < 256
  small k = omega (arith, mod-lt k pos)

  pub meaning : Meaning count track (λ k. code (k % count)) (λ k. k % count) (λ k. at (payload (k % count)))
      (λ k. headed (eqb (code (k % count)) 3) (eqb (code (k % count)) 2)) (λ k. not (eqb (code (k % count)) 3))
      (λ k. nibble (at (hdr (k % count)))) (λ k. nibble (at (dat (k % count))))
  meaning = record {
    has-header = λ k t. has_head (code (k % count)) t;
    header-there = λ k n2 n3. rw (eqb_no (code (k % count)) 3 n3, eqb_no (code (k % count)) 2 n2) tt;
    data_there = λ k n3. rw (eqb_no (code (k % count)) 3 n3) tt;
    h-sum = λ k. sum-h (code (k % count)) (k % count) track i1 i2 (small k) ht h1 h2;
    h-inverted = λ k. sum_h9 (code (k % count)) (k % count) track i1 i2 (small k) ht h1 h2;
    h-sector = λ k. pair_of (at (hdr (k % count))) 2 (small k);
    h-track = λ k. pair_of (at (hdr (k % count))) 3 ht;
    sector_lt = λ k. mod-lt k pos;
    d-mark = λ k. mark-d (code (k % count)) (payload (k % count)) (lp (k % count)) (bp (k % count));
    d-unmarked = λ k. mark_d4 (code (k % count)) (payload (k % count)) (lp (k % count)) (bp (k % count));
    d-sum = λ k. sum-d (code (k % count)) (payload (k % count)) (lp (k % count)) (bp (k % count));
    d-inverted = λ k. sum_d5 (code (k % count)) (payload (k % count)) (lp (k % count)) (bp (k % count));
    d-payload = λ k i l. payload-d (code (k % count)) (payload (k % count)) (lp (k % count)) (bp (k % count)) i l;
  }
