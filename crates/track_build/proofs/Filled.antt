-- A payload and a data block, as the code fills them from the front.
use mathlib.Core.Path.{◌≡◌, refl, sym, ap, ◌∙◌}
use mathlib.Core.List.{List, [], ◌∷◌, ◌++◌, append_assoc}
use Prim.Native.Nat.{ℕ, ◌+◌, ◌*◌, ◌<◌}
use native.Mathlib.Omega.{arith}
use lib.ListN.{length, get_or, set, take, drop, replicate, length-drop}
use lib.Seq.{sets, sets-eq, set_at, take-suc, take_all, length-take-le}
use Rattle.base.specs.Lists.{tab}
use Rattle.base.proofs.Lists.{tab_more, tab_all}
use Rattle.base.proofs.InRow.{sets_more}
use Rattle.gcr.specs.Groups.{encode}
use Rattle.gcr.proofs.EncodeLaws.{length-encode}
use Rattle.gcr_blocks.proofs.Runs.{encode-append}
use Rattle.track_build.specs.Slots.{payload_of}

-- ---- a payload, byte by byte
module _ (payloads : List ℕ) (j i : ℕ) where
  abbrev supplied : ℕ → ℕ
  supplied k = get_or payloads (256 * j + k) 0

  pub payload_more : (v : ℕ) (payload : List ℕ) → i < 256 → v ≡ get_or payloads (256 * j + i) 0
      → payload ≡ tab i supplied ++ drop i (replicate 256 0) → set payload i v ≡ tab (i + 1) supplied ++ drop (i + 1) (replicate 256 0)
  payload_more v payload h q e = rw (q, e) (tab_more i supplied (replicate 256 0) h)

  pub payload_all : (payload : List ℕ) → i ≡ 256 → payload ≡ tab i supplied ++ drop i (replicate 256 0) → payload ≡ payload_of payloads j
  payload_all payload z e = e ∙ tab_all supplied (replicate 256 0) i z

-- ---- a data block: its marker, the payload stored after it, and its checksum
pub block-filled : (m sum : ℕ) (payload : List ℕ) → length payload ≡ 256
    → set (sets (m ∷ replicate 259 0) 1 payload) 257 sum ≡ m ∷ (payload ++ (sum ∷ 0 ∷ 0 ∷ []))
block-filled m sum payload l =
    let k : length (m ∷ replicate 259 0) ≡ 260 = refl in
    let e : 1 + length payload ≡ 257 = omega arith in
    ap (λ (b : List ℕ). set b 257 sum)
    (sets-eq payload (m ∷ replicate 259 0) 1 (omega arith) ∙ ap (λ (n : ℕ). m ∷ (payload ++ drop n (m ∷ replicate 259 0))) e)
    ∙ ap (λ (y : List ℕ). m ∷ y) (set_at payload 0 (0 ∷ 0 ∷ []) sum 256 l)

-- ---- the same as groups: the first, the 63 that are payload whole, and the last
payload_parts : (m sum : ℕ) (p : List ℕ) → length p ≡ 256
    → m ∷ (p ++ (sum ∷ 0 ∷ 0 ∷ []))
    ≡ (m ∷ get_or p 0 0 ∷ get_or p 1 0 ∷ get_or p 2 0 ∷ []) ++ (take 252 (drop 3 p) ++ (get_or p 255 0 ∷ sum ∷ 0 ∷ 0 ∷ []))
payload_parts m sum [] l = absurd (omega arith)
payload_parts m sum (a ∷ []) l = absurd (omega arith)
payload_parts m sum (a ∷ b ∷ []) l = absurd (omega arith)
payload_parts m sum (a ∷ b ∷ c ∷ q) l =
    let k : length q ≡ 253 = omega arith in
    let e : q ≡ take 252 q ++ (get_or q 252 0 ∷ []) = sym (take_all 253 q (omega arith)) ∙ take-suc q 252 0 (omega arith) in
    ap (λ (y : List ℕ). m ∷ a ∷ b ∷ c ∷ y)
    (ap (λ (y : List ℕ). y ++ (sum ∷ 0 ∷ 0 ∷ [])) e ∙ append_assoc (take 252 q) (get_or q 252 0 ∷ []) (sum ∷ 0 ∷ 0 ∷ []))

-- stored one after the other from `at` on
pub parts_put : (l : List ℕ) (at m sum : ℕ) (p x y z : List ℕ) → length p ≡ 256
    → x ≡ sets l at (encode 1 (m ∷ get_or p 0 0 ∷ get_or p 1 0 ∷ get_or p 2 0 ∷ []))
    → y ≡ sets x (at + 5) (encode 63 (take 252 (drop 3 p)))
    → z ≡ sets y (at + 320) (encode 1 (get_or p 255 0 ∷ sum ∷ 0 ∷ 0 ∷ []))
    → z ≡ sets l at (encode 65 (m ∷ (p ++ (sum ∷ 0 ∷ 0 ∷ []))))
parts_put l at m sum p x y z n ex ey ez =
    let first = m ∷ get_or p 0 0 ∷ get_or p 1 0 ∷ get_or p 2 0 ∷ [] in
    let mid = take 252 (drop 3 p) in
    let last = get_or p 255 0 ∷ sum ∷ 0 ∷ 0 ∷ [] in
    let long : length mid ≡ 252 = length-take-le 252 (drop 3 p) (omega (arith, length-drop 3 p)) in
    let e : at + 320 ≡ at + 5 + 315 = omega arith in
    ez ∙ rw e (ap (λ (o : List ℕ). sets o (at + 5 + 315) (encode 1 last)) ey
    ∙ sets_more (encode 63 mid) (encode 1 last) x (at + 5) 315 (length-encode 63 mid)
    ∙ ap (λ (o : List ℕ). sets o (at + 5) (encode 63 mid ++ encode 1 last)) ex
    ∙ sets_more (encode 1 first) (encode 63 mid ++ encode 1 last) l at 5 (length-encode 1 first)
    ∙ ap (sets l at) (ap (λ (o : List ℕ). encode 1 first ++ o) (sym (encode-append 63 1 mid last (omega (arith, long))))
    ∙ sym (encode-append 1 64 first (mid ++ last) refl)
    ∙ ap (encode 65) (sym (payload_parts m sum p n))))
