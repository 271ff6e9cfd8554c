use Rattle.std.proofs.Common.{List, ℕ}
use Rattle.can_decode.specs.DecodedLines.{IsListedTo}
use Rattle.can_decode.proofs.listing.push_run.Given as goal

-- the signals of the run so far that are shown
abbrev pub invariant-loop-signal : goal.invariant-loop-signal
invariant-loop-signal g l = (before : List ℕ) → IsListedTo (g.T.SignalText.first l.signals)
    (g.T.SignalText.further l.signals) before
    l.bytes (g.T.SignalText.plan_of l.signals) l.fn.run.start l.fn.text.items l.fn.some
    → IsListedTo (g.T.SignalText.first l.signals) (g.T.SignalText.further l.signals) before l.bytes
    (g.T.SignalText.plan_of l.signals) l.signal l.text.items l.any
