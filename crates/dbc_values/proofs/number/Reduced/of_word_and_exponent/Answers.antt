use mir.Syntax.{w128}
use mir.Val.{SFits}
use Rattle.std.proofs.Common.{rules, ◌^◌, to_z, of_z}
use Rattle.std.specs.Str.Parse.{signed_digits_value}
use Rattle.std.proofs.lemmas.Int.{to_z-of_z}
use Rattle.dbc_values.specs.Numbers.{OccursFor}
use Rattle.dbc_values.proofs.NumberTexts.{following_sign}
use Rattle.dbc_values.proofs.number.Reduced.of_word_and_exponent.Goals as goal

pub signed_up_to_far-written-requires : goal.signed_up_to_far-written-requires
signed_up_to_far-written-requires c = following_sign c.args.exponent.now (search rules)

pub returns : goal.returns
returns c =
    let written_fits : SFits w128 c.signed_up_to_far-written.result = search rules in
    let fits : SFits w128 c.reduced_exponent.result = search rules in
    let near : OccursFor (10 ^ 30) (signed_digits_value 10 c.args.exponent.now)
    (to_z w128 (of_z w128 c.signed_up_to_far-written.result)) =
    rw (to_z-of_z w128 c.signed_up_to_far-written.result written_fits) c.signed_up_to_far-written.ensures.value in (
      search rules,
      rw (to_z-of_z w128 c.reduced_exponent.result fits) (record {
        zeros = c.word_digits-digits.result.zeros;
        front = c.word_digits-digits.ensures.value;
        power = c.reduced_exponent.ensures (signed_digits_value 10 c.args.exponent.now) near;
      }),
    )
