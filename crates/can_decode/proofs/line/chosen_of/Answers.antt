use Rattle.std.proofs.Common.{◌≡◌, ◌<◌, length, sym, ap, subst, ◌∙◌}
use Rattle.std.specs.Prelude.{Some, IfSome}
use Rattle.std.specs.Option.{option_and_then}
use Rattle.std.proofs.lemmas.List.{length-map}
use Rattle.can_decode.specs.Choices.{chosen_index, line_index}
use Rattle.can_decode.proofs.Chosen.{index_is_within}
use Rattle.can_decode.proofs.line.chosen_of.Goals as goal

pub known_plan-requires : goal.known_plan-requires
known_plan-requires c =
    let database = c.args.database.now in
    let at : line_index database c.args.line.now ≡ Some c.in_ok-index.index =
    ap (option_and_then (chosen_index database)) (sym c.in_ok-frame.ensures) ∙ sym (sym c.in_ok-index.was ∙ c.choose.ensures) in
    let long : length c.args.plans.now ≡ length database.messages = ap length c.requires ∙ length-map database.messages _ in
    subst (λ count. c.in_ok-index.index < count) (sym long)
    (subst (λ index. IfSome index (λ p. p < length database.messages)) at (index_is_within database c.args.line.now))
