use Rattle.std.proofs.Common.{◌≡◌, ℕ, List, length, slice_get, sym, arith}
use Rattle.dbc_records.specs.Records.{Signal}
use Rattle.can_diagnostics.specs.Diagnostics.{of_signal}
use Rattle.can_diagnostics.specs.declared.diagnostic.Diagnostic.{Diagnostic}
use Rattle.can_references.specs.Finding.{where_true}
use Rattle.can_check.specs.MessageFaults.{walk_passes}
use Rattle.can_check.proofs.Placed.{more_found, all_found}
use Rattle.can_check.proofs.layout_rules.push_walks.Goals as goal

pub loop-index-preserved : goal.loop-index-preserved
loop-index-preserved g c =
    let found : ℕ × Signal → List Diagnostic = λ placed. where_true (walk_passes (g.T.WalkTest.passes c.args.test.now)
    (slice_get c.args.walks.now placed.0)) (of_signal c.args.code c.args.head.now placed.1) in
    more_found found c.args.signals.now c.loop-index.index c.index-signals-index.result c.loop-index-test.true _ _ _
    c.loop-index.invariant
    (rw (sym c.index-signals-index.is) (rw c.passes_at.ensures at c.in_ok-push_if.ensures))

pub returns : goal.returns
returns g c =
    let done : c.loop-index.index ≡ length c.args.signals.now = omega (arith, c.loop-index-test.false, c.loop-index.auto) in
    let found : ℕ × Signal → List Diagnostic = λ placed. where_true (walk_passes (g.T.WalkTest.passes c.args.test.now)
    (slice_get c.args.walks.now placed.0)) (of_signal c.args.code c.args.head.now placed.1) in
    all_found found c.args.signals.now c.loop-index.index done _ _ c.loop-index.invariant
