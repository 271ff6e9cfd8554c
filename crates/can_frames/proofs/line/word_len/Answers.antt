use Rattle.std.proofs.Common.{arith}
use Rattle.can_frames.proofs.Words.{further}
use Rattle.can_frames.proofs.line.word_len.Goals as goal

pub loop-run-preserved : goal.loop-run-preserved
loop-run-preserved c =
    let both = further c.loop-run.from c.args.bytes.now c.in-Some.run'.now _ c.in-Some.ensures.cases
    (omega (arith, c.run_len-len.ensures, c.if-len-lt16.false)) c.loop-run.invariant.in_range c.loop-run.invariant.rest in
    record { in_range = both.0; rest = both.1 }
