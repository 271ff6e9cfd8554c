use Rattle.std.proofs.Common.{◌∙◌}
use Rattle.session_database.specs.Acceptance.{numbers_of}
use Rattle.session_database.proofs.Kept.{kept_after}
use Rattle.session_database.proofs.recompiling.kept_after.Goals as goal

pub returns : goal.returns
returns c =
    let accepted = c.args.accepted.now in
    let done = c.shown_before.ensures.done in
    (rw (c.numbers.ensures, c.shown_before.ensures.shown) at c.in_ok-kept.ensures)
    ∙ kept_after (numbers_of accepted) accepted.before accepted.after (c.others_stay.ensures accepted.before accepted.after
    accepted.edit done)
    (λ m out. c.untouched_messages_stay.ensures.plan accepted.before accepted.after accepted.edit m done out)
    (λ m out. c.untouched_messages_stay.ensures.picture accepted.before accepted.after accepted.edit m done out)
