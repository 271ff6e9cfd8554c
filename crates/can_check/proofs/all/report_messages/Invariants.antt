use Rattle.std.proofs.Common.{take}
use Rattle.std.specs.List.{flat_map}
use Rattle.can_check.specs.MessageFaults.{message_faults}
use Rattle.can_check.proofs.all.report_messages.Given as goal

-- the messages so far were reported
abbrev pub invariant-loop-message : goal.invariant-loop-message
invariant-loop-message g l = g.T.Report.Took l.initial.to l.to (flat_map (message_faults l.known)
    (take l.message-index l.messages))
