use Rattle.std.proofs.Common.{◌≡◌, ◌-◌, ◌≤◌, length}
use Rattle.can_decode.specs.DecodedLines.{IsListedTo}
use Rattle.can_decode.proofs.listing.push_runs.Given as goal

-- the signals so far that are shown
abbrev pub invariant-loop-signal : goal.invariant-loop-signal
invariant-loop-signal g l = record {
  within : l.signal ≤ length (g.T.SignalText.plan_of l.signals).rows;
  presence : l.presence ≡ record { bytes = l.bytes; rows = (g.T.SignalText.plan_of l.signals).rows };
  shown : IsListedTo (g.T.SignalText.first l.signals) (g.T.SignalText.further l.signals) l.initial.text.items l.bytes
      (g.T.SignalText.plan_of l.signals) l.signal l.text.items l.some;
}

abbrev pub decreases-loop-signal : goal.decreases-loop-signal
decreases-loop-signal g l = length (g.T.SignalText.plan_of l.signals).rows - l.signal
