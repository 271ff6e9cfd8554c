use Rattle.std.proofs.Common.{[]}
use Rattle.dbc_records.specs.Records.{Entry}
use Rattle.can_references.specs.Values.{number_repeated}
use Rattle.can_references.proofs.Rows.{more_after}
use Rattle.can_references.proofs.values.push_repeated_unordered.Goals as goal

pub loop-entry-preserved : goal.loop-entry-preserved
loop-entry-preserved c =
    let more = more_after number_repeated (λ (entry : Entry). entry.number) c.args.entries.now
    c.loop-entry.entry-index c.entry-item.result c.loop-entry-test.true c.entry-item.is [] _ _ _ _ _
    c.loop-entry.invariant.found c.loop-entry.invariant.seen c.in_ok-push_entry.ensures.found c.in_ok-push_entry.ensures.seen in
    record { found = more.0; seen = more.1 }
