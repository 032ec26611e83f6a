-- The frame of a picture of a disk's side, as SVG text: the colours before the arcs, and behind them the words that say what the
-- colours mean. The arcs between the two are drawn from the top on, clockwise (Arcs). The class of status n is sn. What ails a header is
-- blue and what ails the data orange; the darker of each pair is for what was not found, the lighter for a checksum.
use Rattle.std.specs.Prelude.{ℕ, List, [], ◌∷◌, ◌++◌}
use Rattle.base.specs.Words.{ascii}
use Rattle.page.specs.Page.{Text}
use Rattle.page_status.specs.Meanings.{status_name}
use Rattle.track_read.specs.Statuses.{given, no_header, no_sync, no_data, false_data, false_header}

unfoldable pub svg_head : Text
svg_head =
    ascii "<svg xmlns=\"http://www.w3.org/2000/svg\" viewBox=\"-41000 -41000 82000 99000\">\n"
    ∷ ascii "<style>circle{fill:none;stroke-width:600}path{stroke-width:1500}text{font:2200px sans-serif}\n"
    ∷ ascii ".s0{stroke:#ddd}.s1{stroke:#2a7}.s2{stroke:#05a}.s3{stroke:#000}.s4{stroke:#c40}.s5{stroke:#fa2}.s9{stroke:#6bf}</style>\n"
    ∷ ascii "<rect x=\"-41000\" y=\"-41000\" width=\"82000\" height=\"99000\" fill=\"#fff\"/>\n<g transform=\"rotate(-90)\">\n" ∷ []

-- an entry of the legend: a stroke in the colour of a status, at its place, and the name of that status
abbrev pub entry_text : List ℕ → ℕ → Text
entry_text stroke status = stroke ∷ status_name status ∷ ascii "</text>\n" ∷ []

unfoldable pub whole_key : Text
whole_key =
    entry_text (ascii "<path class=\"s1\" d=\"M-38000 43500h3000\"/><text x=\"-34000\" y=\"44300\">") given
    ++ (entry_text (ascii "<path class=\"s3\" d=\"M-38000 47500h3000\"/><text x=\"-34000\" y=\"48300\">") no_sync
    ++ entry_text (ascii "<path class=\"s0\" d=\"M-38000 51500h3000\"/><text x=\"-34000\" y=\"52300\">") 0)

unfoldable pub header_key : Text
header_key =
    entry_text (ascii "<path class=\"s2\" d=\"M-11000 43500h3000\"/><text x=\"-7000\" y=\"44300\">") no_header
    ++ entry_text (ascii "<path class=\"s9\" d=\"M-11000 47500h3000\"/><text x=\"-7000\" y=\"48300\">") false_header

unfoldable pub data_key : Text
data_key =
    entry_text (ascii "<path class=\"s4\" d=\"M16000 43500h3000\"/><text x=\"20000\" y=\"44300\">") no_data
    ++ entry_text (ascii "<path class=\"s5\" d=\"M16000 47500h3000\"/><text x=\"20000\" y=\"48300\">") false_data

unfoldable pub svg_end : Text
svg_end =
    ascii "</g>\n"
    ∷ (whole_key ++ (header_key ++ (data_key
    ++ (ascii "<text x=\"-38000\" y=\"56500\">Track 1 is outermost. Sectors by number, clockwise from the top.</text>\n</svg>\n" ∷ []))))
