use Rattle.dbc_ranges.proofs.Skipped.{skipped, taken}
use Rattle.dbc_ranges.proofs.items.Items.nth.Goals as goal

pub returns-clause-value : goal.returns-clause-value
returns-clause-value c = taken c.args.index _ _ _ c.take.result c.take.ensures c.skip.ensures

pub returns-clause-rest : goal.returns-clause-rest
returns-clause-rest c = skipped c.args.index _ _ _ c.take.result c.take.ensures c.skip.ensures
