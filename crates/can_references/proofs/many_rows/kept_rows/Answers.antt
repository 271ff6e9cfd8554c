use Rattle.std.proofs.Common.{sym, ◌∙◌, subst, take, ◌+◌}
use Rattle.std.specs.Option.{option_map}
use Rattle.can_references.specs.inner.ManyRows.{is_kept_number, AreKept}
use Rattle.can_references.proofs.KeptRows.{kept_more, kept_same}
use Rattle.can_references.proofs.many_rows.kept_rows.Goals as goal
use Rattle.can_references.proofs.many_rows.kept_rows.Goals.{then-is_kept+in_ok-keep_row, else-is_kept}

pub loop-row-preserved : goal.loop-row-preserved
loop-row-preserved c =
    let test = is_kept_number c.args.numbers.now (option_map (λ numbers. numbers.now) c.args.wanted) in
    elim c.if-is_kept.branch [
      | then-is_kept+in_ok-keep_row w ↦ subst (λ by_key. AreKept test by_key (take (c.loop-row.row-index + 1) c.args.rows.now))
          (sym w.by_key-is) (kept_more test c.args.rows.now c.loop-row.row-index c.row-item.result c.loop-row.by_key
          w.keep_row.new.by_key c.loop-row-test.true c.row-item.is c.loop-row.invariant
          (sym c.is_kept.ensures ∙ w.if-is_kept.true) w.in_ok-keep_row.ensures)
      | else-is_kept w ↦ subst (λ by_key. AreKept test by_key (take (c.loop-row.row-index + 1) c.args.rows.now))
          (sym w.by_key-is) (kept_same test c.args.rows.now c.loop-row.row-index c.row-item.result c.loop-row.by_key
          c.loop-row-test.true c.row-item.is c.loop-row.invariant (sym c.is_kept.ensures ∙ w.if-is_kept.false))
    ]
