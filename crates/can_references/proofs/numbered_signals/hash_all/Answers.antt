use Rattle.std.proofs.Common.{arith}
use Rattle.can_references.proofs.NameHashes.{hash_next}
use Rattle.can_references.proofs.numbered_signals.hash_all.Goals as goal

pub loop-signal-preserved : goal.loop-signal-preserved
loop-signal-preserved c =
    hash_next c.args.signals.now c.loop-signal.signals c.loop-signal.signal-index _ _ c.loop-signal-test.true
    (omega (arith, c.loop-signal-test.true, c.loop-signal.auto.signals)) c.loop-signal.invariant c.name_hash-signal.ensures
