use Rattle.std.proofs.Common.{◌≡◌, Some, None, sym, ◌∙◌}
use Rattle.session_kept_lines.specs.Counts.{count_of}
use Rattle.candesk_words.proofs.Commands.{keep-read}
use Rattle.candesk_words.proofs.job.keep_in.Goals as goal

pub returns-in-Ok-None : goal.returns-in-Ok-None
returns-in-Ok-None c =
    let stated = keep-read c.args.found.now c.try_get_one.result c.try_get_one.ensures.none c.try_get_one.ensures.value in
    rw (c.in-Ok-None.is, c.in-Ok-None.field-0-is) at stated

pub returns-in_err-new-in-Ok-Some : goal.returns-in_err-new-in-Ok-Some
returns-in_err-new-in-Ok-Some c =
    let stated = keep-read c.args.found.now c.try_get_one.result c.try_get_one.ensures.none c.try_get_one.ensures.value in
    let none : count_of c.in-Ok-Some.count ≡ None = sym c.new.ensures ∙ c.in_err-new-in-Ok-Some.was in
    c.from_residual.ensures ∙ (rw (c.in-Ok-Some.is, c.in-Ok-Some.field-0-is, none) at stated)

pub returns-in_ok-new-in-Ok-Some : goal.returns-in_ok-new-in-Ok-Some
returns-in_ok-new-in-Ok-Some c =
    let stated = keep-read c.args.found.now c.try_get_one.result c.try_get_one.ensures.none c.try_get_one.ensures.value in
    let some : count_of c.in-Ok-Some.count ≡ Some c.in_ok-new-in-Ok-Some.field-0 = sym c.new.ensures ∙ c.in_ok-new-in-Ok-Some.was in
    rw (c.in-Ok-Some.is, c.in-Ok-Some.field-0-is, some) at stated

pub returns-in-Err : goal.returns-in-Err
returns-in-Err c =
    let stated = keep-read c.args.found.now c.try_get_one.result c.try_get_one.ensures.none c.try_get_one.ensures.value in
    rw c.in-Err.is at stated
