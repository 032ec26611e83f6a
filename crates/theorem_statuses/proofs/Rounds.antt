-- The slots of a sector, revolution after revolution.
--     safe_rounds    an untouched sector is untouched in each
--     ahead_of       a scan has one of them before it, less than a revolution on
use mathlib.Core.Path.{◌≡◌, sym, ap, ap₂, ◌∙◌, subst}
use mathlib.Core.Bool.{Bool}
use Prim.Native.Nat.{ℕ, ◌+◌, ◌-◌, ◌*◌, ◌/◌, ◌%◌, ◌≤◌, ◌<◌}
use native.Mathlib.Omega.{arith}
use native.Mathlib.Decide.{dec_le}
use native.Mathlib.Nat.{mul-add-mod_self_right}
use lib.Arith.{digits_div, digits_mod}
use lib.Dec.{T, ltb}
use Rattle.geometry.specs.Zones.{sectors_in, capacity_in, slot_start}
use Rattle.geometry.proofs.ZoneLaws.{gap_ge, slot_end}
use Rattle.ring.specs.Stretch.{in_stretch}
use Rattle.track_build.proofs.TrackBits.{st}
use Rattle.theorem_dropout.proofs.Cut.{dropped, outside}

-- m revolutions on is the same place
rounds : (N a n m i : ℕ) → in_stretch N a n (m * N + i) ≡ in_stretch N a n i
rounds N a n m i =
    let e : m * N + i + (N - a % N) ≡ m * N + (i + (N - a % N)) = omega arith in
    ap (λ (y : ℕ). ltb y n) (ap (λ (y : ℕ). y % N) e ∙ mul-add-mod_self_right m N (i + (N - a % N)))

-- sector j of a track of zone z
module _ (z j : ℕ) where
  abbrev N : ℕ
  N = 8 * capacity_in z

  pub safe_rounds : (a n : ℕ) (B : ℕ → ℕ) → ((o : ℕ) → o < 2832 → ¬ (T (in_stretch N a n (8 * slot_start z j + o))))
      → (k : ℕ) → k % sectors_in z ≡ j → (i : ℕ) → st z k ≤ i → i < st z k + 2832 → dropped N a n B i ≡ B i
  safe_rounds a n B free k e i l m =
      outside N a n B i (subst (λ (b : Bool). ¬ (T b)) (sym same) (free (i - st z k) (omega arith)))
    where
      place : i ≡ k / sectors_in z * N + (8 * slot_start z j + (i - st z k))
      place = omega (arith, ap (slot_start z) e)

      same : in_stretch N a n i ≡ in_stretch N a n (8 * slot_start z j + (i - st z k))
      same = ap (in_stretch N a n) place ∙ rounds N a n (k / sectors_in z) (8 * slot_start z j + (i - st z k))

  -- a slot of it, with offset o ten bits or more after b
  abbrev pub Ahead : ℕ → ℕ → Type 0
  Ahead o b = (k : ℕ) × (k % sectors_in z ≡ j) × (b + 10 ≤ st z k + o) × (st z k + o < b + N + 10)

  -- its slot in revolution m
  slot_in : j < sectors_in z → (m o b : ℕ) → b + 10 ≤ m * N + 8 * slot_start z j + o → m * N + 8 * slot_start z j + o < b + N + 10 → Ahead o b
  slot_in lj m o b l1 l2 =
      let e : st z (m * sectors_in z + j) ≡ m * N + 8 * slot_start z j =
      ap₂ (λ (x y : ℕ). x * N + 8 * slot_start z y) (digits_div m lj) (digits_mod m lj) in
      (m * sectors_in z + j, digits_mod m lj, omega arith, omega arith)

  pub ahead_of : z < 4 → j < sectors_in z → (o b : ℕ) → 10 ≤ o → o < 2832 → b < N → Ahead o b
  ahead_of hz lj o b l m lb = go (dec_le (b + 10) (8 * slot_start z j + o))
    where
      go : Dec (b + 10 ≤ 8 * slot_start z j + o) → Ahead o b
      go (yes y) = slot_in lj 0 o b (omega arith) (omega (arith, slot_end z j hz lj, gap_ge z j hz))
      go (no y) = slot_in lj 1 o b (omega arith) (omega arith)
