use Rattle.dbc_ranges.proofs.Skipped.{skipped}
use Rattle.dbc_ranges.proofs.items.Items.skip.Goals as goal

pub loop-preserved : goal.loop-preserved
loop-preserved c = skipped c.loop.counter _ _ _ c.take.result c.take.ensures c.loop.invariant
