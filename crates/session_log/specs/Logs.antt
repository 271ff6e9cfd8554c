-- The lines of a session's log with their decoded texts, and texts that are made again.
use Rattle.std.specs.Prelude.{◌≡◌, ◌==◌, ℕ, ◌<◌, Bool, false, List, All, length, map}
use Rattle.std.specs.List.{list_any, slice_index_or}
use Rattle.can_decode.specs.Choices.{data_number}
use Rattle.can_decode.specs.DecodedLines.{Bus, bus_line}
use Rattle.session_log.specs.declared.line.Line.{Line}
use Rattle.session_log.specs.declared.line.RedecodedLine.{RedecodedLine}

abbrev pub bytes_of : Line → List ℕ
bytes_of line = line.bytes.items

-- the CAN identifier that is stored with the line is that of its data frame
abbrev pub IsNumbered : Line → Type 0
IsNumbered line = line.number ≡ data_number (bytes_of line)

-- the text is that of the line on this bus
abbrev pub IsDecoded : Bus → Line → Type 0
IsDecoded bus line = line.decoded.items ≡ bus_line bus (bytes_of line)

-- ---- texts made again

-- one of the texts is for the line at the index
abbrev pub is_for : ℕ → List RedecodedLine → Bool
is_for position redecoded = list_any (λ text. text.position == position) redecoded

-- the text is that of the line at its index
abbrev pub IsTextOf : Bus → List Line → RedecodedLine → Type 0
IsTextOf bus lines redecoded = (redecoded.position < length lines)
    × ((d : Line) → redecoded.text.items ≡ bus_line bus (bytes_of (slice_index_or lines redecoded.position d)))

-- the texts are those of lines, and each other line has its text
pub record Completes (bus : Bus) (lines : List Line) (redecoded : List RedecodedLine) : Type 0 where
  pub texts : All (IsTextOf bus lines) redecoded
  pub others : (k : ℕ) (d : Line) → k < length lines → is_for k redecoded ≡ false → IsDecoded bus (slice_index_or lines k d)

abbrev pub position_of : RedecodedLine → ℕ
position_of redecoded = redecoded.position

-- the texts are those of the lines at these indexes
pub record TextsAt (bus : Bus) (lines : List Line) (positions : List ℕ) (redecoded : List RedecodedLine) : Type 0 where
  pub order : map position_of redecoded ≡ positions
  pub texts : All (IsTextOf bus lines) redecoded
