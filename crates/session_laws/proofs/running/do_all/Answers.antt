use Rattle.std.proofs.Common.{take, arith}
use Rattle.std.proofs.lemmas.List.{map-append, take_more}
use Rattle.session_laws.specs.Runs.{command_of}
use Rattle.session_laws.proofs.Steps.{runs-append}
use Rattle.session_laws.proofs.running.do_all.Goals as goal

pub loop-command-preserved : goal.loop-command-preserved
loop-command-preserved c =
    let commands = c.args.commands.now in
    let i = c.loop-command.command-index in
    let item = c.command-item.result in
    record {
      ran =
          rw (
            take_more commands i item c.loop-command-test.true,
            ← c.command-item.is,
            map-append command_of (take i commands) _,
            c.in-Ok.ensures.items,
          )
          (runs-append _ _ _ _ _ _ _ c.loop-command.invariant.ran c.perform.ensures);
      len = omega (arith, c.in-Ok.ensures.len);
      space = omega (arith, c.in-Ok.ensures.capacity);
    }
