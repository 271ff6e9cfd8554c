-- The lines of a log with their index.
use Rattle.std.specs.Prelude.{ℕ, ◌<◌, ◌^◌, List, All, map}
use Rattle.session_log.specs.declared.line.Line.{Line}
use Rattle.session_log.specs.declared.log_index.LogIndex.{LogIndex}
use Rattle.session_log.specs.Logs.{bytes_of, IsNumbered}
use Rattle.session_log.specs.inner.Indexes.{IsIndexed}

-- each line of a log has the CAN identifier of its frame, and this is their index, where the first has this serial number
pub record IsLog (first : ℕ) (lines : List Line) (index : LogIndex) : Type 0 where
  pub indexed : IsIndexed first (map bytes_of lines) index
  pub numbered : All IsNumbered lines
  pub serial : first < 2 ^ 64
