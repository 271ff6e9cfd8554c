use Rattle.std.proofs.Common.{◌≡◌, ℕ, List, length, sym, arith}
use Rattle.can_layout.specs.Layouts.{SignalLayout, legend_by}
use Rattle.can_layout.proofs.Placed.{more_text, all_text}
use Rattle.can_layout.proofs.legend.push_lines.Goals as goal

pub loop-index-preserved : goal.loop-index-preserved
loop-index-preserved c =
    let line : ℕ × SignalLayout → List ℕ = λ placed. legend_by c.args.signals.now c.args.mux_parents.now placed.0 placed.1 in
    more_text line c.args.layouts.now c.loop-index.index c.index-layouts-index.result c.loop-index-test.true _ _ _
    c.loop-index.invariant
    (rw (sym c.index-layouts-index.is) (rw c.in_ok-walk.ensures at c.in_ok-push_legend_line.ensures))

pub returns : goal.returns
returns c =
    let done : c.loop-index.index ≡ length c.args.layouts.now = omega (arith, c.loop-index-test.false, c.loop-index.auto) in
    let line : ℕ × SignalLayout → List ℕ = λ placed. legend_by c.args.signals.now c.args.mux_parents.now placed.0 placed.1 in
    all_text line c.args.layouts.now c.loop-index.index done _ _ c.loop-index.invariant
