use mir.Syntax.{w128}
use mir.Val.{SFits}
use Rattle.std.proofs.Common.{rules, ◌≡◌, ◌^◌, to_z, of_z}
use Rattle.std.proofs.lemmas.Int.{to_z-of_z}
use Rattle.std.specs.List.{after_first}
use Rattle.dbc_values.specs.Lexical.{is_exponent_mark}
use Rattle.dbc_values.specs.Numbers.{digits_before_point, digits_after_point, written_exponent, OccursFor}
use Rattle.dbc_values.proofs.NumberTexts.{digits_before, digits_after, digits_of_exponent, before_is, after_is, exponent_is}
use Rattle.dbc_values.proofs.NumberTexts.{reduced}
use Rattle.dbc_values.proofs.ExponentNumbers.{whole_result}
use Rattle.dbc_values.proofs.number.Reduced.read_any.Goals as goal

pub mantissa_digits-digits-requires-clause-before : goal.mantissa_digits-digits-requires-clause-before
mantissa_digits-digits-requires-clause-before c =
    let part : c.split_around-2.result.0.now ≡ digits_before_point c.args.number.now =
    before_is _ _ _ _ _ c.exponent_index-index.ensures.value c.split_around.ensures.front c.point_index.ensures.value
    c.split_around-2.ensures.front in
    rw part (digits_before c.args.number.now (search rules))

pub mantissa_digits-digits-requires-clause-after : goal.mantissa_digits-digits-requires-clause-after
mantissa_digits-digits-requires-clause-after c =
    let part : c.split_around-2.result.1.now ≡ digits_after_point c.args.number.now =
    after_is _ _ _ _ _ c.exponent_index-index.ensures.value c.split_around.ensures.front c.point_index.ensures.value
    c.split_around-2.ensures.back in
    rw part (digits_after c.args.number.now (search rules))

pub signed_up_to_far-written-requires : goal.signed_up_to_far-written-requires
signed_up_to_far-written-requires c =
    let part : c.split_around.result.1.now ≡ after_first is_exponent_mark c.args.number.now =
    exponent_is _ _ _ c.exponent_index-index.ensures.value c.split_around.ensures.back in
    rw part (digits_of_exponent c.args.number.now (search rules))

pub returns-in-Some : goal.returns-in-Some
returns-in-Some c =
    whole_result c.args.number.now c.split_around.result.0.now c.split_around.result.1.now c.exponent_index-index.result
    c.in-Some.value c.in-Some.after_point c.of_word_and_exponent.result c.exponent_index-index.ensures.value
    c.split_around.ensures.front c.split_around.ensures.back c.if-index-number.true c.in-Some.ensures.form
    c.in-Some.ensures.digits c.in-Some.ensures.power c.of_word_and_exponent.ensures

pub returns : goal.returns
returns c =
    let before : c.split_around-2.result.0.now ≡ digits_before_point c.args.number.now =
    before_is _ _ _ _ _ c.exponent_index-index.ensures.value c.split_around.ensures.front c.point_index.ensures.value
    c.split_around-2.ensures.front in
    let after : c.split_around-2.result.1.now ≡ digits_after_point c.args.number.now =
    after_is _ _ _ _ _ c.exponent_index-index.ensures.value c.split_around.ensures.front c.point_index.ensures.value
    c.split_around-2.ensures.back in
    let exponent : c.split_around.result.1.now ≡ after_first is_exponent_mark c.args.number.now =
    exponent_is _ _ _ c.exponent_index-index.ensures.value c.split_around.ensures.back in
    let written_fits : SFits w128 c.signed_up_to_far-written.result = search rules in
    let fits : SFits w128 c.reduced_exponent.result = search rules in
    let near : OccursFor (10 ^ 30) (written_exponent c.args.number.now) c.signed_up_to_far-written.result =
    rw exponent at c.signed_up_to_far-written.ensures.value in
    let passed : OccursFor (10 ^ 30) (written_exponent c.args.number.now)
    (to_z w128 (of_z w128 c.signed_up_to_far-written.result)) =
    rw (to_z-of_z w128 c.signed_up_to_far-written.result written_fits) near in
    let has = c.mantissa_digits-digits.ensures.value in (
      search rules,
      rw (to_z-of_z w128 c.reduced_exponent.result fits)
          (reduced c.args.number.now c.split_around-2.result.0.now c.split_around-2.result.1.now
          c.mantissa_digits-digits.result.front c.mantissa_digits-digits.result.zeros c.reduced_exponent.result before after has
          (c.reduced_exponent.ensures (written_exponent c.args.number.now) passed)),
    )
