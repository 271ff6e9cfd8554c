use Rattle.std.proofs.Common.{rules, Ok, Err, ap, subst}
use Rattle.byte_devices.specs.Device.{Written}
use Rattle.can_check.specs.AllFaults.{all_faults}
use Rattle.dbc_values.specs.declared.stop.Stop.TheVariants as stops
use Rattle.candesk_runs.specs.declared.fault.RunFault.TheVariants as faults
use Rattle.candesk_runs.specs.Checking.{Flushes, Says, TookLines, StoppedLines}
use Rattle.candesk_runs.proofs.Flushed.{ended_all, ended_early}
use Rattle.candesk_runs.proofs.checking.say_all.Goals as goal

pub returns-in-Ok : goal.returns-in-Ok
returns-in-Ok g c =
    let written = g.W.Sink.written in
    let sent = c.report_all-outcome.new.to in
    let took : TookLines written c.new.result sent.out c.before-lines.result.verdict sent.verdict (all_faults c.args.database.now) =
    search rules in
    let ends : Flushes (written sent.out.sink.now) (written c.sink-1.given.0) sent.out.held.items (Ok sent.verdict)
    c.flushed.result = search rules in
    subst (λ (old : Written). Says (all_faults c.args.database.now) old (written c.sink-1.given.0) c.flushed.result)
    (ap written c.new.ensures.written)
    (ended_all written c.new.result sent.out (written c.sink-1.given.0) (all_faults c.args.database.now)
    c.before-lines.result.verdict sent.verdict c.flushed.result c.new.ensures.empty c.before-lines.ensures.clean took ends)

pub returns-in-Err-Memory : goal.returns-in-Err-Memory
returns-in-Err-Memory g c =
    let written = g.W.Sink.written in
    let sent = c.report_all-outcome.new.to in
    let stopped : StoppedLines written c.new.result sent.out stops.Memory (all_faults c.args.database.now) = search rules in
    let ends : Flushes (written sent.out.sink.now) (written c.sink-in-Err-Memory-1.given.0) sent.out.held.items
    (Err faults.Memory) c.flushed-in-Err-Memory.result = search rules in
    subst (λ (old : Written). Says (all_faults c.args.database.now) old (written c.sink-in-Err-Memory-1.given.0)
    c.flushed-in-Err-Memory.result) (ap written c.new.ensures.written)
    (ended_early written c.new.result sent.out (written c.sink-in-Err-Memory-1.given.0) (all_faults c.args.database.now)
    c.flushed-in-Err-Memory.result c.new.ensures.empty stopped ends)
