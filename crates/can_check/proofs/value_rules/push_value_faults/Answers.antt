use Rattle.std.proofs.Common.{ap, ◌∙◌}
use Rattle.dbc_records.specs.Records.{Message}
use Rattle.can_check.proofs.Given.{given_values, given_with_repeated}
use Rattle.can_check.proofs.value_rules.push_value_faults.Goals as goal

pub returns-in_ok-push_all_repeated : goal.returns-in_ok-push_all_repeated
returns-in_ok-push_all_repeated g c =
    given_with_repeated c.args.known.now c.args.message.now _ _ c.args.found.now.items _ _
    (ap (λ (m : Message). m.head) c.message.view_is)
    (c.as_slice-signals.ensures.value ∙ ap (λ (m : Message). m.signals) c.message.view_is)
    c.in_ok-push_all_out_of_range.ensures.found c.in_ok-push_all_repeated.ensures

pub returns-else-branch : goal.returns-else-branch
returns-else-branch g c =
    given_values c.args.known.now c.args.message.now _ _ c.args.found.now.items _
    (ap (λ (m : Message). m.head) c.message.view_is)
    (c.as_slice-signals.ensures.value ∙ ap (λ (m : Message). m.signals) c.message.view_is)
    c.in_ok-push_all_out_of_range.ensures.found (c.in_ok-push_all_out_of_range.ensures.repeated c.if-branch.false)
