-- What holds of the rows of every log. Source: RFC 4180; the reader is that of the crate `csv`, with its defaults.
use Rattle.std.specs.Prelude.{◌≡◌, ℕ, List, ◌∷◌, ◌++◌}
use Rattle.std.specs.List.{flat_map}
use Rattle.csv.specs.Reading.{records, default_config}
use Rattle.csv.specs.Writing.{row_text, default_writer}
use Rattle.can_decode.specs.DecodedLines.{Bus}
use Rattle.can_csv_lines.specs.Rows.{line_rows, csv_line, header}

-- the names of the columns and the rows of a log's lines read back from their text
abbrev pub RowsReadBack : Type 0
RowsReadBack = (bus : Bus) (lines : List (List ℕ))
    → records default_config (row_text default_writer header ++ flat_map (csv_line bus) lines)
    ≡ header ∷ flat_map (line_rows bus) lines
