use Rattle.std.proofs.Common.{true, false, sym, ◌∙◌, ap, ◌++◌, append_assoc, append-nil}
use Rattle.std.specs.Prelude.{map}
use Rattle.dbc_faults.specs.Patterns.{class_of, pattern_of, firsts}
use Rattle.dbc_faults.proofs.Joined.{firsts_last, others_of}
use Rattle.dbc_faults.proofs.pattern.+add_firsts.Goals as goal

pub returns-in_ok-add_firsts-2 : goal.returns-in_ok-add_firsts-2
returns-in_ok-add_firsts-2 t c =
    let old = map class_of c.args.found.now.items in
    let first = firsts (pattern_of c.first-item.result.now) in
    let others = firsts (others_of c.args.left.now) in
    c.in_ok-add_firsts-2.ensures ∙ ap (λ z. z ++ others) c.in_ok-add_firsts.ensures ∙ append_assoc old first others
    ∙ ap (λ z. old ++ z) (firsts_last c.args.left.now c.first-item.result true c.in-len1-up.len_at_least c.first-item.is
    (sym c.may_end.ensures ∙ c.if-may_end.true))

pub returns-else-may_end : goal.returns-else-may_end
returns-else-may_end t c =
    let old = map class_of c.args.found.now.items in
    let first = firsts (pattern_of c.first-item.result.now) in
    c.in_ok-add_firsts.ensures
    ∙ ap (λ z. old ++ z) (sym (append-nil first) ∙ firsts_last c.args.left.now c.first-item.result false
    c.in-len1-up.len_at_least c.first-item.is (sym c.may_end.ensures ∙ c.if-may_end.false))
