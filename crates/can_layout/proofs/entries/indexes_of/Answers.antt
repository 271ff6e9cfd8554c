use Rattle.std.proofs.Common.{Some, None, cond, ap, ◌∙◌}
use Rattle.std.specs.BTreeMap.{get}
use Rattle.std.specs.Option.{option_or}
use Rattle.std.specs.Ordering.{int_eq, int_cmp}
use Rattle.dbc_records.specs.Records.{Entry}
use Rattle.can_layout.proofs.EntryIndexes.{one_placed}
use Rattle.can_layout.proofs.entries.indexes_of.Goals as goal

pub loop-index-preserved : goal.loop-index-preserved
loop-index-preserved c = λ raw.
    let entry : Entry = c.index-entries-index.result in
    one_placed c.args.entries.now c.loop-index.index entry raw c.loop-index-test.true (get int_cmp c.loop-index.indexes raw)
    (get int_cmp c.keep_first.new.indexes raw)
    (c.in_ok-keep_first.ensures raw
    ∙ ap (λ (one : Entry). option_or (get int_cmp c.loop-index.indexes raw) (cond (int_eq one.number raw) (Some c.loop-index.index)
    None)) c.index-entries-index.is)
    (c.loop-index.invariant raw)
