use Rattle.std.proofs.Common.{◌+◌, List, take, subst, ap, ◌∙◌, sym}
use Rattle.dbc_records.specs.declared.mux_row.Range.{Range}
use Rattle.can_overlap.specs.inner.Ordered.{AreWhole}
use Rattle.can_overlap.proofs.Ordered.{one_kept, one_left}
use Rattle.can_overlap.proofs.ranges.whole.Goals as goal
use Rattle.can_overlap.proofs.ranges.whole.Goals.{then-holds_some+in_ok-push, else-holds_some}

pub loop-range-preserved : goal.loop-range-preserved
loop-range-preserved c =
    let ranges : List Range = c.args.ranges.now in
    let d : Range = record { first = 0; last = 0 } in
    let Here : List Range → Type 0 = λ whole. AreWhole whole (take (c.loop-range.range-index + 1) ranges) in
    elim c.if-holds_some.branch [
      | then-holds_some+in_ok-push w ↦
          subst Here (sym w.in_ok-push.ensures.items ∙ ap (λ whole. whole.items) (sym w.whole-is))
          (one_kept c.loop-range.whole.items ranges c.loop-range.range-index d c.loop-range-test.true (sym c.holds_some.ensures
          ∙ w.if-holds_some.true) c.loop-range.invariant)
      | else-holds_some w ↦
          subst Here (ap (λ whole. whole.items) (sym w.whole-is))
          (one_left c.loop-range.whole.items ranges c.loop-range.range-index d c.loop-range-test.true (sym c.holds_some.ensures
          ∙ w.if-holds_some.false) c.loop-range.invariant)
    ]
