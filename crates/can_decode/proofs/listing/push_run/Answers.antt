use Rattle.std.proofs.Common.{◌<◌, length, arith}
use Rattle.can_layout.specs.Plans.{Plan}
use Rattle.can_decode.specs.DecodedLines.{is_shown}
use Rattle.can_decode.proofs.Signals.{with_row_at, without_row}
use Rattle.can_decode.proofs.listing.push_run.Goals as goal
use Rattle.can_decode.proofs.listing.push_run.Goals.{then-is_shown+in_ok-push, else-is_shown}

pub loop-signal-preserved : goal.loop-signal-preserved
loop-signal-preserved g c before start =
    let so_far = c.loop-signal.invariant before start in
    let signals = c.args.signals.now in
    let bytes = c.args.bytes.now in
    let plan : Plan = g.T.SignalText.plan_of signals in
    let first = g.T.SignalText.first signals bytes in
    let further = g.T.SignalText.further signals bytes in
    let within : c.loop-signal.signal < length plan.rows = omega (arith, c.loop-signal-test.true, c.requires.within) in
    elim c.if-is_shown.branch [
      | then-is_shown+in_ok-push w ↦
          let both = with_row_at
          (is_shown bytes plan) first further plan.rows c.loop-signal.signal within w.if-is_shown.ensures before
          c.loop-signal.text.items w.push.new.text.items c.loop-signal.any so_far.any so_far.written w.in_ok-push.ensures in
          record { written = rw w.text-is both.0; any = rw w.any-is both.1 }
      | else-is_shown w ↦
          let same = without_row (is_shown bytes plan) first further plan.rows c.loop-signal.signal within w.if-is_shown.ensures in
          record { written = rw (w.text-is, same) so_far.written; any = rw (w.any-is, same) so_far.any }
    ]
