use Rattle.std.proofs.Common.{rules}
use Rattle.std.proofs.lemmas.Fn.{filter_same}
use Rattle.dbc_edits.proofs.rows.drop_all.Goals as goal

pub returns-clause-new : goal.returns-clause-new
returns-clause-new g c = filter_same _ _ _ (λ x b f' k. search rules) _ _ c.retain.ensures.kept
