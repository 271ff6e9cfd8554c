use Rattle.std.proofs.Common.{◌++◌, List, ap, sym, ◌∙◌}
use Rattle.std.specs.Prelude.{ℤ}
use Rattle.dbc_records.specs.Records.{Head, Entry}
use Rattle.can_entries.specs.Rows.{rows_of}
use Rattle.can_references.specs.RawRanges.{numbers_out_of_range}
use Rattle.can_references.specs.Values.{numbers_repeated}
use Rattle.can_check.specs.MessageFaults.{named}
use Rattle.can_check.proofs.Given.{given_out_of_range, none_repeated}
use Rattle.can_check.proofs.value_rules.push_out_of_range.Goals as goal

pub returns-clause-found : goal.returns-clause-found
returns-clause-found g c =
    let signal = c.args.signal.now in
    let entries : List Entry = named (rows_of c.args.head.now.number c.args.known.now) signal in
    given_out_of_range c.args.head.now signal entries c.args.found.now.items c.push_each.new.found.items
    c.as_slice-out_of_range.result.now c.in_ok-push_each.ensures
    (c.as_slice-out_of_range.ensures.value ∙ c.in_ok-repeats.ensures.found
    ∙ ap (λ (values : List ℤ). values ++ numbers_out_of_range signal (named (rows_of c.head.inside.number c.args.known.now) signal))
    c.clear.ensures.items
    ∙ ap (λ (head : Head). numbers_out_of_range signal (named (rows_of head.number c.args.known.now) signal)) c.head.view_is)

pub returns-clause-repeated : goal.returns-clause-repeated
returns-clause-repeated g c =
    let signal = c.args.signal.now in
    let entries : List Entry = named (rows_of c.args.head.now.number c.args.known.now) signal in
    λ none. none_repeated c.args.head.now signal entries
    (ap (λ (head : Head). numbers_repeated (named (rows_of head.number c.args.known.now) signal)) (sym c.head.view_is)
    ∙ c.in_ok-repeats.ensures.none none)
