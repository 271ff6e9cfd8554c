use Rattle.std.proofs.Common.{◌≡◌, ◌++◌, take}
use Rattle.can_references.specs.RawRanges.{numbers_out_of_range}
use Rattle.can_references.proofs.spans.push_each.Given as goal

-- the entries so far
abbrev pub invariant-loop-entry : goal.invariant-loop-entry
invariant-loop-entry l = l.found.items ≡ l.initial.found.items ++ numbers_out_of_range l.signal (take l.entry-index l.entries)
