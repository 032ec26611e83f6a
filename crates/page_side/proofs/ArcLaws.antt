-- Where the arcs lie.
use mathlib.Core.Path.{◌≡◌}
use Prim.Native.Nat.{ℕ, ◌-◌, ◌*◌, ◌/◌, ◌≤◌, ◌<◌}
use native.Mathlib.Omega.{arith}
use native.Mathlib.Nat.{le_of_lt, div-le_self, div-mul-le_self, mul-le-mul_left}
use Rattle.page_side.specs.Arcs.{around_of, share_of, arc_of, begins_at}

pub arc_inside : (track n : ℕ) → arc_of track n ≤ around_of track
arc_inside track n = omega (arith, div-le_self (around_of track) n)

pub arc_is : (track n around : ℕ) → around ≡ around_of track → around / n * 9 / 10 ≡ arc_of track n
arc_is track n around e = rw e

pub arc_small : (track n around : ℕ) → around ≡ around_of track → around / n * 9 < 4000000
arc_small track n around e = omega (arith, div-le_self around n)

pub begins_is : (track n j around : ℕ) → around ≡ around_of track → around / n * j ≡ begins_at track n j
begins_is track n j around e = rw e

pub begins_inside : (track n j : ℕ) → j < n → begins_at track n j ≤ around_of track
begins_inside track n j h =
    omega (arith, mul-le-mul_left (share_of track n) (le_of_lt h), div-mul-le_self (around_of track) n)
