use Rattle.std.proofs.Common.{◌≡◌, ◌<◌, length, sym, subst, ◌∙◌}
use Rattle.std.specs.Prelude.{Some, IfSome}
use Rattle.can_decode.specs.Choices.{line_choice}
use Rattle.can_decode.proofs.Chosen.{choice_is_within}
use Rattle.session_database.proofs.shown.CompiledDatabase.chosen.Goals as goal

pub plan-requires : goal.plan-requires
plan-requires c =
    let database = c.args.self.now in
    let at : line_choice database c.args.line.now ≡ Some c.in_ok-choice.choice = sym (sym c.in_ok-choice.was
    ∙ c.choice_of.ensures) in
    subst (λ choice. IfSome choice (λ one. one.index < length database.messages)) at (choice_is_within database c.args.line.now)
