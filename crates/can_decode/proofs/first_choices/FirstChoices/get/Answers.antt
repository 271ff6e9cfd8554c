use Rattle.std.proofs.Common.{ap, ◌∙◌}
use Rattle.can_decode.specs.inner.FirstChoices.{first_choice}
use Rattle.can_decode.proofs.FirstChoices.{first_there}
use Rattle.can_decode.proofs.first_choices.FirstChoices.get.Goals as goal

pub returns-in-len1-up : goal.returns-in-len1-up
returns-in-len1-up c =
    c.choice_at_key.ensures
    ∙ first_there c.args.key c.from_key.result.now _ c.in-len1-up.len_at_least c.from_key.ensures.rises
    ∙ c.from_key.ensures.first ∙ ap (first_choice c.args.key) (c.as_slice.ensures.value ∙ c.self.view_is)
