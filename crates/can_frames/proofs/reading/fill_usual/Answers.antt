use Rattle.std.proofs.Common.{sym, ap, ◌∙◌}
use Rattle.std.specs.Prelude.{Some}
use Rattle.can_frames.proofs.UsualLines.{usual_word}
use Rattle.can_frames.proofs.reading.fill_usual.Goals as goal

pub returns : goal.returns
returns c _ =
    usual_word c.args.rest.now _ _ _ _ _ _ c.in-Some.ensures.cases.0 c.in-Some.ensures.cases.1 c.in-Some.ensures.cases.2
    c.in-Some-before_mark.ensures (sym c.in-Some-identifier_of.ensures.value) (sym c.in-Some-bytes_of_sixteen.ensures)
    ∙ ap Some (sym c.become_classic.ensures)
