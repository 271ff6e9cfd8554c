use Rattle.std.proofs.Common.{◌≡◌, map, take}
use Rattle.can_json_lines.proofs.message_texts.signal_texts.Given as goal

-- the signals so far
abbrev pub invariant-loop-index : goal.invariant-loop-index
invariant-loop-index g l = l.signals.items ≡ map (g.P.Prepare.signal_of l.message) (take l.index l.plan.rows)
