-- Counts of lines.
use Rattle.std.specs.Prelude.{ℕ, Bool, ◌&&◌, nat_le, IsTrue, Option, Some, None, if◌then◌else◌}

-- the most lines that are kept
abbrev pub most_lines : ℕ
most_lines = 1048576

-- at least one, and no more than are kept
abbrev pub is_count : ℕ → Bool
is_count count = nat_le 1 count && nat_le count most_lines

pub record IsCount (count : ℕ) : Type 0 where
  pub within : IsTrue (is_count count)

-- the number if it is a valid count of lines
abbrev pub count_of : ℕ → Option ℕ
count_of count = if is_count count then Some count else None
