use Rattle.std.proofs.Common.{take}
use Rattle.can_entries.specs.Indexes.{IsFormatIndex}
use Rattle.can_entries.proofs.format_index.FormatIndex.of.Given as goal

-- each message has the first of the entries so far
abbrev pub invariant-loop-row : goal.invariant-loop-row
invariant-loop-row l = IsFormatIndex l.by_number (take l.row-index l.rows)
