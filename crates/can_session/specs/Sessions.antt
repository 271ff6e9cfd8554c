-- What a session keeps in addition to its database and its lines, as making it from scratch defines it.
use Rattle.std.specs.Prelude.{◌≤◌, List, All, length}
use Rattle.can_decode.specs.DecodedLines.{Bus}
use Rattle.session_kept_lines.specs.declared.keep.Keep.{Keep}
use Rattle.session_kept_lines.specs.Keeping.{most_kept}
use Rattle.session_log.specs.declared.line.Line.{Line}
use Rattle.session_log.specs.Logs.{IsDecoded}

-- each line has its text on the bus
abbrev pub AreDecoded : Bus → List Line → Type 0
AreDecoded bus lines = All (IsDecoded bus) lines

-- so are the lines of a session, and they are no more than are kept
pub record IsOpen (bus : Bus) (keep : Keep) (lines : List Line) : Type 0 where
  pub decoded : AreDecoded bus lines
  pub few : length lines ≤ most_kept keep
