use Rattle.std.proofs.Common.{ap, ◌∙◌}
use Rattle.std.specs.Option.{is_some}
use Rattle.can_decode.proofs.Groups.{has_group}
use Rattle.can_decode.proofs.message_search.is_group.Goals as goal

pub returns : goal.returns
returns c = c.is_some.ensures ∙ ap is_some c.group_in.ensures ∙ has_group c.args.number c.args.database.now
