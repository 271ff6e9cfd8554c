use Rattle.std.proofs.Common.{sym, ◌∙◌}
use Rattle.can_references.proofs.Runs.{none_left, one_here, rises_on, all_on}
use Rattle.can_references.proofs.numbered_signals.starts_with_signal.Goals as goal

pub returns-then-signal-number : goal.returns-then-signal-number
returns-then-signal-number c = none_left c.args.number c.args.name.now c.args.signals.now c.loop-signal.signal-index _
    c.loop-signal-test.true c.loop-signal.invariant.rises c.loop-signal.invariant.all c.if-signal-number.true

pub returns-then-has_name : goal.returns-then-has_name
returns-then-has_name c = one_here c.args.number c.args.name.now c.args.signals.now c.loop-signal.signal-index _
    c.loop-signal-test.true c.loop-signal.invariant.rises c.loop-signal.invariant.all c.if-signal-number.false
    (sym c.has_name.ensures ∙ c.if-has_name.true)

pub loop-signal-preserved : goal.loop-signal-preserved
loop-signal-preserved c = record {
  rises = rises_on c.args.number c.args.name.now c.args.signals.now c.loop-signal.signal-index _
      c.loop-signal-test.true c.loop-signal.invariant.rises c.loop-signal.invariant.all c.if-signal-number.false;
  all = all_on c.args.number c.args.name.now c.args.signals.now c.loop-signal.signal-index _
      c.loop-signal-test.true c.loop-signal.invariant.rises c.loop-signal.invariant.all
      (sym c.has_name.ensures ∙ c.if-has_name.false);
}
