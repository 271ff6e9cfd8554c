use Rattle.std.proofs.Common.{◌≡◌, ◌++◌, List, map, subst, eqb}
use Rattle.std.specs.Prelude.{OnOk}
use Rattle.std.specs.List.{IsDistinct}
use Rattle.can_diagnostics.specs.declared.diagnostic.Diagnostic.{Diagnostic}
use Rattle.can_references.proofs.Alone.{each_alone}
use Rattle.can_references.proofs.row_rules.push_rows.Goals as goal

pub returns-then-all_differ : goal.returns-then-all_differ
returns-then-all_differ g c =
    let differ = subst (IsDistinct eqb) c.in_ok-hashes_of.ensures (c.all_differ.ensures.0 c.if-all_differ.true) in
    subst (λ (l : List Diagnostic). OnOk c.push_alone.result (c.push_alone.new.found.items ≡ c.args.found.now.items ++ l))
    (each_alone c.args.known.now (map g.R.DatabaseEntry.key_of c.args.rows.now) differ) c.push_alone.ensures
