use Rattle.std.proofs.lemmas.Result.{on_ok_weaker}
use Rattle.can_decode.proofs.ShortTexts.{pushed_short}
use Rattle.can_decode.proofs.value.push_short.Goals as goal

pub returns : goal.returns
returns c =
    on_ok_weaker c.push_fraction.result (λ pushed.
    pushed_short _ _ _ c.of-digits.result c.args.number c.args.places c.leading_zeros.result c.trailing_zeros.result
    c.from-places.result c.min-leading.result c.min-trailing.result pushed c.in_ok-push_part.ensures c.min-leading.ensures
    c.min-trailing.ensures c.from-places.ensures c.of-digits.ensures c.requires.number c.requires.places
    c.leading_zeros.ensures c.trailing_zeros.ensures) c.push_fraction.ensures
