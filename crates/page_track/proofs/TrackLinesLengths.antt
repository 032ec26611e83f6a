-- How long the line of a track is, and the lines of all: they fit on the page that the program lends, so that by `printed` (page) all
-- of them are written.
use mathlib.Core.List.{List, [], ◌∷◌, ◌++◌}
use Prim.Native.Nat.{ℕ, suc, ◌≤◌, ◌<◌}
use native.Mathlib.Omega.{arith}
use lib.Dec.{eqb}
use lib.ListN.{length, get_or, length-append}
use Rattle.base.specs.Bytes.{any_nonzero}
use Rattle.base.specs.Lists.{count_of}
use Rattle.geometry.proofs.ZoneLaws.{sectors_of_lem}
use Rattle.base.specs.Words.{ascii}
use Rattle.page.specs.Page.{Text, all_of}
use Rattle.page.proofs.PageLaws.{append-long, together-long, Within}
use Rattle.image_statuses.specs.Statuses.{statuses_of, is_shown}
use Rattle.image_statuses.proofs.StatusLaws.{status_count}
use Rattle.base.proofs.Picks.{pick_ind}
use Rattle.page_text.proofs.DecimalLaws.{decimal_width}
use Rattle.image_statuses.proofs.Small.{one_digit}
use Rattle.image_statuses.specs.Symbols.{symbol_of}
use Rattle.image_statuses.proofs.SymbolLaws.{symbol-small}
use Rattle.std.specs.Prelude.{Option}
use Rattle.scan.specs.declared.BadSymbol.{BadSymbol}
use Rattle.scan_symbols.proofs.Bounds.{Small}
use Rattle.page_symbols.specs.Symbols.{behind_text}
use Rattle.page_symbols.proofs.SymbolLengths.{behind-long}
use Rattle.page_status.specs.Marks.{is_met}
use Rattle.page_status.specs.Meanings.{legend_text}
use Rattle.page_status.proofs.MeaningLengths.{legend_long}
use Rattle.page_lines.specs.declared.Detail.TheVariants.{Status}
use Rattle.page_lines.specs.Tally.{tally_text}
use Rattle.page_track.specs.Tracks.{symbol_text, track_line, line_in, if_shown, track_text, lines_text, side_text}
use Rattle.page_lines.proofs.TallyLengths.{tally-long}

symbol-long : (statuses : List ℕ) (bad : Option BadSymbol) → Small 524280 bad → Within 60 (symbol_text statuses bad)
unfolding all_of
symbol-long statuses bad s =
    pick_ind (Within 60) (eqb (count_of 1 statuses) (length statuses)) [] (behind_text bad) (λ e. omega arith) (λ e. behind-long bad s)

line_long : (track : ℕ) (statuses : List ℕ) (bad : Option BadSymbol) → track < 256 → length statuses ≤ 21
    → ((j : ℕ) → get_or statuses j 0 < 10) → Small 524280 bad → Within 260 (track_line track statuses bad)
unfolding track_line all_of
line_long track statuses bad t few small s =
    simp length-append
    (omega (
      arith,
      decimal_width 2 track (omega arith),
      pick_ind (Within 240) (any_nonzero statuses)
          (tally_text Status (ascii " reads") statuses ++ (symbol_text statuses bad ++ (ascii "\n" ∷ []))) (ascii " absent\n" ∷ [])
          (λ e. omega (
            arith,
            append-long (tally_text Status (ascii " reads") statuses) (symbol_text statuses bad ++ (ascii "\n" ∷ [])),
            append-long (symbol_text statuses bad) (ascii "\n" ∷ []),
            tally-long Status statuses (λ a. small) few (ascii " reads"),
            symbol-long statuses bad s,
          ))
          (λ e. omega arith),
    ))

pub few_sectors : (image : List ℕ) (track : ℕ) → length (statuses_of image track) ≤ 21
few_sectors image track = let s = sectors_of_lem track in omega (arith, status_count image track)

pub shown_long : (n : ℕ) (text : ℕ → List ℕ → Text) (track : ℕ) (statuses : List ℕ) → Within n (text track statuses)
    → Within n (if_shown text track statuses)
unfolding all_of
shown_long n text track statuses h =
    pick_ind (Within n) (is_shown track statuses) (text track statuses) [] (λ e. h) (λ e. omega arith)

track-long : (image : List ℕ) (track : ℕ) → track < 256 → Within 260 (track_text image track)
track-long image track t =
    shown_long 260 (line_in image) track (statuses_of image track)
    (line_long track (statuses_of image track) (symbol_of image track) t (few_sectors image track) (one_digit image track)
    (symbol-small image track))

pub side_fits : (image : List ℕ) → Within 16384 (side_text image)
unfolding side_text
side_fits image =
    omega (
      arith,
      append-long (lines_text image 42) (legend_text (is_met (statuses_of image) 42)),
      together-long 260 (λ k. track_text image (suc k)) 42 (λ k h. track-long image (suc k) (omega arith)),
      legend_long (is_met (statuses_of image) 42),
    )
