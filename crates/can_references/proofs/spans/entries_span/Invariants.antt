use Rattle.std.proofs.Common.{All, take}
use Rattle.can_references.specs.inner.Spans.{IsWithin}
use Rattle.can_references.proofs.spans.entries_span.Given as goal

-- the entries so far
abbrev pub invariant-loop-entry : goal.invariant-loop-entry
invariant-loop-entry l = All (IsWithin l.span) (take l.entry-index l.entries)
