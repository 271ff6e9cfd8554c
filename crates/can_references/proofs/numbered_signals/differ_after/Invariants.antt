use Rattle.std.proofs.Common.{◌≢◌, ◌≤◌, ◌<◌, ◌+◌, ◌-◌, ℕ, length, slice_index_or}
use Rattle.can_references.specs.inner.SignalRuns.{message_number}
use Rattle.can_references.specs.declared.numbered.Numbered.{Numbered}
use Rattle.can_references.proofs.numbered_signals.differ_after.Given as goal

-- the signals so far differ
abbrev pub invariant-loop-index : goal.invariant-loop-index
invariant-loop-index l = (l.distance ≤ l.index) × ((k : ℕ) (d : Numbered) → k + l.distance < l.index
    → message_number (slice_index_or l.signals k d) ≢ message_number (slice_index_or l.signals (k + l.distance) d))

abbrev pub decreases-loop-index : goal.decreases-loop-index
decreases-loop-index l = length l.signals - l.index
