use Rattle.std.proofs.Common.{ap, ◌∙◌}
use Rattle.can_decode.specs.inner.FirstChoices.{first_choice}
use Rattle.can_decode.proofs.FirstChoices.{first_choice-push}
use Rattle.can_decode.proofs.first_choices.add_choice.Goals as goal

pub returns : goal.returns
returns c = λ other. ap (first_choice other) c.in_ok-push.ensures.items
    ∙ first_choice-push other c.args.choices.now.items (c.args.key, c.args.choice)
