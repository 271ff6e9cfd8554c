use Rattle.std.proofs.Common.{true, false, sym, ◌∙◌}
use Rattle.dbc_faults.proofs.Joined.{ends_last}
use Rattle.dbc_faults.proofs.pattern.+may_end.Goals as goal

pub returns-then-may_end : goal.returns-then-may_end
returns-then-may_end t c = c.may_end-then-may_end.ensures ∙ ends_last c.args.left.now c.first-item.result true
    c.in-len1-up.len_at_least c.first-item.is (sym c.may_end.ensures ∙ c.if-may_end.true)

pub returns-else-may_end : goal.returns-else-may_end
returns-else-may_end t c = c.if-may_end.false ∙ ends_last c.args.left.now c.first-item.result false
    c.in-len1-up.len_at_least c.first-item.is (sym c.may_end.ensures ∙ c.if-may_end.false)
