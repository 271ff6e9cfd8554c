use Rattle.std.proofs.Common.{[]}
use Rattle.can_references.specs.RowFaults.{row_fault}
use Rattle.can_references.proofs.Rows.{more_after}
use Rattle.can_references.proofs.row_rules.push_in_round.Goals as goal

pub loop-row-preserved : goal.loop-row-preserved
loop-row-preserved g c =
    let more = more_after (row_fault c.args.known.now) g.R.DatabaseEntry.key_of c.args.rows.now c.loop-row.row-index
    c.row-item.result c.loop-row-test.true c.row-item.is [] _ _ _ _ _
    c.loop-row.invariant.found c.loop-row.invariant.seen c.in_ok-push_row.ensures.found c.in_ok-push_row.ensures.seen in
    record { found = more.0; seen = more.1 }
