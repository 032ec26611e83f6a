-- How long the lines of a master are: they fit on the page that the program lends, so that by `printed` (page) all of them are written.
use Rattle.std.specs.Prelude.{Option, Some, None}
use mathlib.Core.Path.{◌≡◌, refl}
use mathlib.Core.List.{List, [], ◌∷◌, ◌++◌}
use Prim.Native.Nat.{ℕ, suc, ◌≤◌, ◌<◌, ◌^◌}
use native.Mathlib.Omega.{arith}
use lib.Dec.{eqb}
use lib.ListN.{length, get_or, length-append}
use Rattle.base.specs.Lists.{count_of}
use Rattle.base.specs.Words.{ascii}
use Rattle.base.proofs.Picks.{pick_ind}
use Rattle.geometry.specs.D64.{tracks_of}
use Rattle.geometry.proofs.D64Laws.{d64_facts}
use Rattle.geometry.proofs.ZoneLaws.{sectors_of_lem}
use Rattle.page_text.proofs.DecimalLaws.{decimal_width}
use Rattle.page.specs.Page.{all_of}
use Rattle.page.specs.Wording.{number_text}
use Rattle.page.proofs.PageLaws.{append-long, together-long, Within}
use Rattle.page_lines.specs.declared.Detail.TheVariants.{Status}
use Rattle.page_lines.specs.Tally.{unread}
use Rattle.page_lines.proofs.TallyLengths.{unread-long}
use Rattle.page_status.specs.Marks.{is_met}
use Rattle.page_status.specs.Meanings.{legend_text}
use Rattle.page_status.proofs.MeaningLengths.{legend_long}
use Rattle.image_statuses.specs.Statuses.{d64_statuses}
use Rattle.image_statuses.proofs.StatusLaws.{d64_count}
use Rattle.image_statuses.proofs.Small.{d64_one_digit}
use Rattle.page_master.specs.Master.{written_line, spoiled_line, spoiled_lines, spoiled_text, tracks_text, text_by, master_text}

line_long : (track : ℕ) (statuses : List ℕ) → track < 100 → length statuses ≤ 21 → ((j : ℕ) → get_or statuses j 0 < 10)
    → Within 170 (spoiled_line track statuses)
unfolding spoiled_line all_of
line_long track statuses t few small =
    pick_ind (Within 170) (eqb (count_of 1 statuses) (length statuses)) []
    (ascii "track" ∷ number_text track ∷ ascii " spoiled" ∷ (unread Status statuses ++ (ascii "\n" ∷ [])))
    (λ e. omega arith)
    (λ e. simp length-append
    (omega (
      arith,
      decimal_width 1 track (omega arith),
      append-long (unread Status statuses) (ascii "\n" ∷ []),
      unread-long Status statuses (λ a. small) few,
    )))

module _ (d64 : List ℕ) (highest : ℕ) (h : highest ≤ 42) where
  lines_long : Within 7140 (spoiled_lines d64 highest highest)
  lines_long =
      omega (
        arith,
        together-long 170 (λ k. spoiled_line (suc k) (d64_statuses d64 highest (suc k))) highest
            (λ k b. let s = sectors_of_lem (suc k) in
            line_long (suc k) (d64_statuses d64 highest (suc k)) (omega arith) (omega (arith, d64_count d64 highest (suc k)))
            (d64_one_digit d64 highest (suc k))),
      )

  spoiled-long : Within 7590 (spoiled_text d64 highest)
  unfolding spoiled_text
  spoiled-long =
      omega (
        arith,
        append-long (spoiled_lines d64 highest highest) (legend_text (is_met (d64_statuses d64 highest) highest)),
        lines_long,
        legend_long (is_met (d64_statuses d64 highest) highest),
      )

  written-long : (bytes : ℕ) → bytes < 10 ^ 20 → Within 100 (written_line highest bytes)
  unfolding all_of
  written-long bytes b = simp length-append (omega (arith, decimal_width 1 highest (omega arith), decimal_width 19 bytes b))

  tracks_long : (bytes : ℕ) → bytes < 10 ^ 20 → Within 8192 (tracks_text highest d64 bytes)
  tracks_long bytes b =
      omega (arith, append-long (written_line highest bytes) (spoiled_text d64 highest), written-long bytes b, spoiled-long)

by_count : (t : Option ℕ) (d64 : List ℕ) (bytes : ℕ) → bytes < 10 ^ 20 → ((n : ℕ) → t ≡ Some n → n ≤ 42)
    → Within 8192 (text_by t d64 bytes)
unfolding all_of
by_count (Some n) d64 bytes b f = tracks_long d64 n (f n refl) bytes b
by_count None d64 bytes b f = omega arith

-- numbers of a machine
pub master_fits : (d64 : List ℕ) (bytes : ℕ) → bytes < 10 ^ 20 → Within 8192 (master_text d64 bytes)
unfolding master_text
master_fits d64 bytes b = by_count (tracks_of (length d64)) d64 bytes b (λ n e. (d64_facts (length d64) n e).1)
