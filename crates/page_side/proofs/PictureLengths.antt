-- How long the frame is: it fits on the pages that the program lends.
use Prim.Native.Nat.{◌≤◌}
use native.Mathlib.Omega.{arith}
use lib.ListN.{length}
use Rattle.page.specs.Page.{all_of}
use Rattle.page_side.specs.Frame.{svg_head, whole_key, header_key, data_key, svg_end}

pub head_long : length (all_of svg_head) ≤ 512
unfolding svg_head all_of
head_long = omega arith

pub end_long : length (all_of svg_end) ≤ 1024
unfolding svg_end whole_key header_key data_key all_of
end_long = omega arith
