use Rattle.std.proofs.Common.{◌∙◌}
use Rattle.candesk_words.proofs.Commands.{has-flag}
use Rattle.candesk_words.proofs.job.has_flag.Goals as goal

pub returns : goal.returns
returns c = c.unwrap_or.ensures ∙ has-flag _ c.args.found.now c.args.name.now c.get_one.result c.get_one.ensures.none
    c.get_one.ensures.value
