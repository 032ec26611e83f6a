-- What a bad symbol tells of the blocks that were looked at, and that it does so visit by visit.
--     Told                          none: all are legal; one: it is in one of them, and all before it are legal
--     told-append, told_cons        of blocks one after the other, the first bad symbol tells
--     Faithful, told-visits         where it does so at each visit, it does so of all visits
use mathlib.Core.Path.{◌≡◌, refl, sym, ap, ◌∙◌}
use mathlib.Core.List.{List, [], ◌∷◌, ◌++◌}
use Prim.Native.Nat.{ℕ}
use Rattle.std.specs.Prelude.{Option, Some, None}
use Rattle.std.specs.Option.{option_or}
use Rattle.ring.specs.Bit.{bits}
use Rattle.scan_visit.specs.Visit.{Visit}
use Rattle.scan.specs.declared.BadSymbol.{BadSymbol}
use Rattle.scan.specs.declared.BadSymbol.TheVariants.{InHeader, InData}
use Rattle.scan.specs.BadSymbols.{bad_at, first_bad}
use Rattle.scan.proofs.EachVisit.{EveryVisit}
use Rattle.theorem_symbols.specs.Looked.{Block, header_block, data_block, searched, looked, Legal, AllLegal, Pointed}

append_assoc : (xs ys zs : List Block) → xs ++ (ys ++ zs) ≡ (xs ++ ys) ++ zs
append_assoc [] ys zs = refl
append_assoc (x ∷ xs) ys zs = ap (λ (l : List Block). x ∷ l) (append_assoc xs ys zs)

module _ (ring : List ℕ) where
  abbrev pub Told : List Block → Option BadSymbol → Type 0
  Told blocks None = AllLegal ring blocks
  Told blocks (Some (InHeader k bit)) = (h : ℕ) × Pointed ring blocks (header_block h) k bit
  Told blocks (Some (InData k bit)) = (d : ℕ) × Pointed ring blocks (data_block d) k bit

  -- ---- blocks one after the other
  both_legal : (xs ys : List Block) → AllLegal ring xs → AllLegal ring ys → AllLegal ring (xs ++ ys)
  both_legal [] ys l m = m
  both_legal (x ∷ xs) ys l m = (l.0, both_legal xs ys l.1 m)

  sooner_too : (xs ys : List Block) (b : Block) (k bit : ℕ) → AllLegal ring xs → Pointed ring ys b k bit → Pointed ring (xs ++ ys) b k bit
  sooner_too xs ys b k bit l p = record {
    sooner = xs ++ p.sooner;
    later = p.later;
    among = ap (λ (m : List Block). xs ++ m) p.among ∙ append_assoc xs p.sooner (b ∷ p.later);
    legal = both_legal xs p.sooner l p.legal;
    bad = p.bad;
  }

  later_too : (xs ys : List Block) (b : Block) (k bit : ℕ) → Pointed ring xs b k bit → Pointed ring (xs ++ ys) b k bit
  later_too xs ys b k bit p = record {
    sooner = p.sooner;
    later = p.later ++ ys;
    among = ap (λ (m : List Block). m ++ ys) p.among ∙ sym (append_assoc p.sooner (b ∷ p.later) ys);
    legal = p.legal;
    bad = p.bad;
  }

  pub told-append : (xs ys : List Block) (s t : Option BadSymbol) → Told xs s → Told ys t → Told (xs ++ ys) (option_or s t)
  told-append xs ys None None l m = both_legal xs ys l m
  told-append xs ys None (Some (InHeader k bit)) l (h, p) = (h, sooner_too xs ys (header_block h) k bit l p)
  told-append xs ys None (Some (InData k bit)) l (d, p) = (d, sooner_too xs ys (data_block d) k bit l p)
  told-append xs ys (Some (InHeader k bit)) t (h, p) m = (h, later_too xs ys (header_block h) k bit p)
  told-append xs ys (Some (InData k bit)) t (d, p) m = (d, later_too xs ys (data_block d) k bit p)

  pub told_cons : (b : Block) (ys : List Block) (t : Option BadSymbol) → Legal ring b b.symbols → Told ys t → Told (b ∷ ys) t
  told_cons b ys t l m = told-append (b ∷ []) ys None t (l, tt) m

  -- ---- visits
  abbrev pub Faithful : Visit → Type 0
  Faithful v = Told (header_block v.place ∷ searched v.found) (bad_at (bits ring) v.place v.found)

  pub told-visits : (vs : List Visit) → EveryVisit Faithful vs → Told (looked vs) (first_bad (bits ring) vs)
  unfolding looked first_bad
  told-visits [] t = tt
  told-visits (v ∷ vs) t =
      told-append (header_block v.place ∷ searched v.found) (looked vs) (bad_at (bits ring) v.place v.found)
      (first_bad (bits ring) vs) t.0 (told-visits vs t.1)
