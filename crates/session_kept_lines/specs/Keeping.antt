-- Which lines of a log are kept.
use Rattle.std.specs.Prelude.{ℕ, ◌-◌, Bool, false, nat_le, List, length, drop}
use Rattle.session_kept_lines.specs.declared.keep.Keep.{Keep}
use Rattle.session_kept_lines.specs.declared.keep.Keep.TheVariants.{All, Last}
use Rattle.session_kept_lines.specs.Counts.{most_lines}

-- at most this many are kept
abbrev pub most_kept : Keep → ℕ
most_kept All = most_lines
most_kept (Last count) = count

-- what is kept of lines: all of them, or a number of the last ones
abbrev pub kept : {X : Type 0} → Keep → List X → List X
kept All lines = lines
kept (Last count) lines = drop (length lines - count) lines

-- whether there is no space for one more line after this many; if the oldest is dropped for it there always is
abbrev pub is_full : Keep → ℕ → Bool
is_full All lines = nat_le most_lines lines
is_full (Last count) lines = false
