use Rattle.std.proofs.Common.{◌≡◌, ◌++◌, take}
use Rattle.can_json_texts.specs.Values.{tokens_of}
use Rattle.can_json_dump.specs.Messages.{paired, signal_member}
use Rattle.can_json_dump.proofs.message.Messages.write_signals.Given as goal

-- the signals so far
abbrev pub invariant-loop-index : goal.invariant-loop-index
invariant-loop-index g l =
    l.text ≡ l.initial.text ++ tokens_of (take l.index (paired (signal_member l.self l.planned.message) l.planned.message.signals
    l.planned.plan.rows))
