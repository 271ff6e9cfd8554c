use Rattle.std.proofs.Common.{◌++◌, List, ap, ◌∙◌}
use Rattle.std.specs.Prelude.{ℤ}
use Rattle.dbc_records.specs.Records.{Head, Entry}
use Rattle.can_entries.specs.Rows.{rows_of}
use Rattle.can_references.specs.Values.{numbers_repeated}
use Rattle.can_check.specs.MessageFaults.{named}
use Rattle.can_check.proofs.Given.{given_repeated}
use Rattle.can_check.proofs.value_rules.push_repeated.Goals as goal

pub returns : goal.returns
returns g c =
    let signal = c.args.signal.now in
    let entries : List Entry = named (rows_of c.args.head.now.number c.args.known.now) signal in
    given_repeated c.args.head.now signal entries c.args.found.now.items c.push_each.new.found.items c.as_slice.result.now
    c.in_ok-push_each.ensures
    (c.as_slice.ensures.value ∙ c.in_ok-push_repeated.ensures
    ∙ ap (λ (values : List ℤ). values ++ numbers_repeated (named (rows_of c.head.inside.number c.args.known.now) signal))
    c.clear.ensures.items
    ∙ ap (λ (head : Head). numbers_repeated (named (rows_of head.number c.args.known.now) signal)) c.head.view_is)
