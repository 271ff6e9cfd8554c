use Rattle.std.proofs.Common.{sym, subst}
use Rattle.dbc_tokens.specs.Tokens.{HasTokens}
use Rattle.dbc_tokens.proofs.CutLaws.{cut_is}
use Rattle.dbc_tokens.proofs.cutting.tokens.Goals as goal

pub returns-clause-definition : goal.returns-clause-definition
returns-clause-definition c = subst (HasTokens 1 0 c.args.text.now) (sym c.new.ensures) (cut_is 1 c.args.text.now)
