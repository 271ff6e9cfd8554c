use Rattle.std.proofs.Common.{length}
use Rattle.can_references.proofs.spans.+spans_of.Given as goal

-- the entries
abbrev pub decreases-spans_of : goal.decreases-spans_of
decreases-spans_of l = length l.entries.now
