use Rattle.std.proofs.Common.{sym, subst}
use Rattle.dbc_tokens.specs.Tokens.{HasTokens}
use Rattle.dbc_tokens.proofs.CutLaws.{cut_is, cut_unique}
use Rattle.dbc_tokens.proofs.laws.one_cut.Goals as goal

pub returns : goal.returns
returns c = λ line text cut. (cut_unique line text cut, λ e. subst (HasTokens line 0 text) (sym e) (cut_is line text))
