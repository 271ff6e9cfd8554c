use Rattle.std.proofs.Common.{◌≡◌, ℕ, length, sym, ◌∙◌, arith}
use Rattle.can_layout.specs.Layouts.{SignalLayout, row_by}
use Rattle.can_layout.specs.declared.row.Row.{Row}
use Rattle.can_layout.proofs.Placed.{more_placed, all_placed}
use Rattle.can_layout.proofs.plan.rows_by.Goals as goal

pub loop-index-preserved : goal.loop-index-preserved
loop-index-preserved g c =
    rw (
      c.in_ok-push.ensures.ok,
      c.in_ok-row_of.ensures c.args.mux_parents.now.value c.loop-index.index c.in_ok-chain.ensures,
      c.loop-index.invariant,
      c.index-signals-index.is,
    )
    (sym (more_placed (λ (placed : ℕ × SignalLayout). row_by c.args.rows.now c.args.mux_parents.now.value placed.0 placed.1)
    c.args.signals.now c.loop-index.index c.index-signals-index.result c.loop-index-test.true))

pub returns : goal.returns
returns g c =
    let done : c.loop-index.index ≡ length c.args.signals.now = omega (arith, c.loop-index-test.false, c.loop-index.auto) in
    let row : ℕ × SignalLayout → Row = λ placed. row_by c.args.rows.now c.args.mux_parents.now.value placed.0 placed.1 in
    c.loop-index.invariant ∙ all_placed row c.args.signals.now c.loop-index.index done
