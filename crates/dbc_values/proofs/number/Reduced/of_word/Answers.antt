use mir.Syntax.{w128}
use mir.Val.{SFits}
use Rattle.std.proofs.Common.{rules, refl, inl, pos}
use Rattle.std.proofs.lemmas.Int.{to_z-of_z}
use Rattle.dbc_values.proofs.number.Reduced.of_word.Goals as goal

pub returns : goal.returns
returns c =
    let fits : SFits w128 c.reduced_exponent.result = search rules in
    rw (to_z-of_z w128 c.reduced_exponent.result fits)
    (record {
      zeros = c.word_digits-digits.result.zeros;
      front = c.word_digits-digits.ensures.value;
      power = c.reduced_exponent.ensures (pos 0) (inl refl);
    })
