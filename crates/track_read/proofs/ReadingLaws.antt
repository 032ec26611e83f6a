-- What is handed out for a sector, by the records.
--     first_cases    a sector is not given, or given by one of its records
--     first_found    a sector that has a record is given
--     reading_sized  with 256 bytes
--     stands         what is left in front of the buffers says of a sector what is read of it
use mathlib.Core.Path.{◌≡◌, refl, sym, ap, ap₂, ◌∙◌}
use mathlib.Core.Logic.{◌⊎◌, inl, inr}
use mathlib.Core.Bool.{Bool, true, false}
use mathlib.Core.List.{List, [], ◌∷◌, ◌++◌}
use Prim.Native.Nat.{ℕ, ◌%◌, ◌<◌}
use native.Mathlib.Omega.{arith}
use lib.Dec.{eqb}
use lib.ListN.{length, get_or-append}
use Rattle.base.specs.Choice.{pick}
use Rattle.base.proofs.Lists.{length-tab, get_d_tab}
use Rattle.base.proofs.Rows.{joined_part}
use Rattle.base.proofs.Tests.{eqb_yes, eq_of}
use Rattle.geometry.specs.Zones.{sectors_of}
use Rattle.ring.specs.Bit.{bits, bit_at}
use Rattle.scan.specs.declared.SectorRecord.{SectorRecord}
use Rattle.track_read.specs.Reading.{Handed, Given, NotGiven, first_of, read_sector}
use Rattle.track_read.specs.Reading.{bytes_given, read_payloads, read_statuses, standing}
use Rattle.track_read.specs.Statuses.{status_in}
use Rattle.track_read.proofs.FirstLaws.{is_given}
use Rattle.track_read.proofs.StatusMore.{status_given}
use Rattle.scan.specs.Scan.{visits_of, records}
use Rattle.scan.proofs.ScanLaws.{Every, Any}
use Rattle.scan.proofs.EachRecord.{each_next}
use Rattle.scan.proofs.Passing.{end_of, Sized}

-- given by a record of sector j that has P
abbrev pub GivenBy : (SectorRecord → Type 0) → ℕ → Handed → Type 0
GivenBy P j out = (r : SectorRecord) × P r × (r.sector ≡ j) × (out ≡ Given r.payload)

module _ (P : SectorRecord → Type 0) (j : ℕ) where
  pub first_cases : (l : List SectorRecord) → Every P l → (first_of j l ≡ NotGiven) ⊎ GivenBy P j (first_of j l)
  unfolding first_of
  first_cases [] t = inl refl
  first_cases (r ∷ rs) t = go (eqb r.sector j) refl (first_cases rs t.1)
    where
      go : (b : Bool) → eqb r.sector j ≡ b → (first_of j rs ≡ NotGiven) ⊎ GivenBy P j (first_of j rs)
          → (pick b (Given r.payload) (first_of j rs) ≡ NotGiven) ⊎ GivenBy P j (pick b (Given r.payload) (first_of j rs))
      go true e ih = inr (r, t.0, eq_of r.sector j e, refl)
      go false e ih = ih

  pub first_found : (l : List SectorRecord) → Every P l → Any (λ r. r.sector ≡ j) l → GivenBy P j (first_of j l)
  unfolding first_of
  first_found [] t a = absurd a
  first_found (r ∷ rs) t a = go (eqb r.sector j) refl a (λ u. first_found rs t.1 u)
    where
      go : (b : Bool) → eqb r.sector j ≡ b → (r.sector ≡ j) ⊎ Any (λ r. r.sector ≡ j) rs → (Any (λ r. r.sector ≡ j) rs → GivenBy P j
          (first_of j rs))
          → GivenBy P j (pick b (Given r.payload) (first_of j rs))
      go true e u ih = (r, t.0, eq_of r.sector j e, refl)
      go false e (inl q) ih = absurd (let f : true ≡ false = sym (eqb_yes r.sector j q) ∙ e in let z : ◌≡◌ {A = ℕ} 0 1 = cc in omega
          arith)
      go false e (inr u) ih = ih u

-- ---- sizes
first_sized_by : (j : ℕ) (l : List SectorRecord) → (first_of j l ≡ NotGiven) ⊎ GivenBy Sized j (first_of j l)
    → length (bytes_given (first_of j l)) ≡ 256
first_sized_by j l (inl e) = ap (λ (y : Handed). length (bytes_given y)) e
first_sized_by j l (inr (r, s, q, e)) = ap (λ (y : Handed). length (bytes_given y)) e ∙ s

pub first_sized : (l : List SectorRecord) → Every Sized l → (j : ℕ) → length (bytes_given (first_of j l)) ≡ 256
first_sized l t j = first_sized_by j l (first_cases Sized j l t)

module _ (ring : List ℕ) (track start : ℕ) where
  pub reading_sized : (j : ℕ) → length (bytes_given (read_sector ring track start j)) ≡ 256
  reading_sized =
      first_sized (records ring track start)
      (each_next (bit_at ring) track (end_of ring start) Sized (start % bits ring) (λ c r l i. i.long))

  pub count_statuses : length (read_statuses ring track start) ≡ sectors_of track
  count_statuses = length-tab (sectors_of track) (λ j. status_in j (visits_of ring track start))

  -- ---- what stands in front of the buffers
  told : (h : Handed) (b : Bool) → b ≡ is_given h → h ≡ pick b (Given (bytes_given h)) NotGiven
  told (Given bytes) b e = sym (ap (λ (y : Bool). pick y (Given bytes) NotGiven) e)
  told NotGiven b e = sym (ap (λ (y : Bool). pick y (Given (bytes_given NotGiven)) NotGiven) e)

  pub stands : (rest more : List ℕ) (j : ℕ) → j < sectors_of track
      → read_sector ring track start j ≡ standing (read_payloads ring track start ++ rest) (read_statuses ring track start ++ more) j
  stands rest more j l =
      let status : ℕ → ℕ = λ i. status_in i (visits_of ring track start) in
      let bytes : ℕ → List ℕ = λ i. bytes_given (read_sector ring track start i) in
      told (read_sector ring track start j) (eqb (status_in j (visits_of ring track start)) 1) (status_given j (visits_of ring track start))
      ∙ ap₂ (λ (s : ℕ) (p : List ℕ). pick (eqb s 1) (Given p) NotGiven)
      (sym (get_or-append (read_statuses ring track start) more 0 j (omega (arith, count_statuses))
      ∙ get_d_tab (sectors_of track) status j l))
      (sym (joined_part 256 bytes reading_sized (sectors_of track) j l rest))
