use Rattle.std.proofs.Common.{◌∙◌}
use Rattle.session_database.specs.Acceptance.{numbers_of}
use Rattle.session_database.proofs.Kept.{own_after}
use Rattle.session_database.proofs.rediagnosing.kept_own_after.Goals as goal

pub returns : goal.returns
returns c =
    let accepted = c.args.accepted.now in
    let same = c.others_stay.ensures accepted.before accepted.after accepted.edit c.shown_before.ensures.done in
    (rw (c.numbers.ensures, c.shown_before.ensures.shown) at c.in_ok-kept.ensures)
    ∙ own_after (numbers_of accepted) accepted.before accepted.after same
    (λ m out. c.own_rows_and_nodes_alone.ensures accepted.after accepted.before m (same.rows m.head.number out) same.nodes)
