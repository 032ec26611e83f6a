-- The cases of docs/RULES.md 14, computed.
use mathlib.Core.Path.{◌≡◌, refl}
use Rattle.geometry.specs.Zones.{zone_of, sectors_in}
use Rattle.geometry.specs.D64.{sectors_to, d64_place, first_fit, any_fits, tracks_of}
use Rattle.gcr.specs.Symbols.{symbol, nibble_of, first_illegal, from_symbols}
use Rattle.gcr.specs.Groups.{encode_group, decode_group}
use Rattle.gcr.specs.Answers.{answer4}
use Rattle.scan_sync.specs.Sync.{sync_from}
use Rattle.theorem_cases.specs.Cases.{Cases}

pub cases : Cases
unfolding encode_group symbol decode_group answer4 from_symbols first_illegal nibble_of d64_place tracks_of first_fit any_fits sectors_to sectors_in zone_of sync_from
cases = record {
  a = refl;
  b = refl;
  c = refl;
  d = (refl, refl);
  e = refl;
  f = refl;
  g = refl;
  h = refl;
  i = refl;
  j = refl;
  k = (refl, refl);
  l = (refl, refl);
}
