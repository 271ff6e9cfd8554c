use Rattle.std.proofs.Common.{◌≡◌, ◌%◌, ◌∙◌, ap, arith, eq-eqb, length, Some, sym}
use Rattle.std.proofs.lemmas.Bool.{ne_eqb}
use Rattle.std.proofs.lemmas.List.{length-map}
use Rattle.hex.specs.Hex.{hex_digit_value}
use Rattle.can_frames.proofs.DigitLanes.{worth, joined_lanes, high_marks, given, none_given, all_given, decodes}
use Rattle.can_frames.proofs.pairs.bytes_of_sixteen.Goals as goal

pub returns-then-high_bits-ne0 : goal.returns-then-high_bits-ne0
returns-then-high_bits-ne0 c =
    let digits = c.args.digits.now in
    let lanes = c.values_of-values.result in
    let worths = c.values_of-values.ensures in
    let long = sym (length-map lanes worth) ∙ ap length worths ∙ length-map digits hex_digit_value ∙ c.told-digits in
    let even : length digits % 2 ≡ 0 = omega (arith, c.told-digits) in
    sym (decodes digits even ∙ ap given (sym worths)
    ∙ none_given lanes (ne_eqb _ 0 (λ none. c.if-high_bits-ne0.true (high_marks lanes long ∙ none))))

pub returns : goal.returns
returns c =
    let digits = c.args.digits.now in
    let lanes = c.values_of-values.result in
    let worths = c.values_of-values.ensures in
    let long = sym (length-map lanes worth) ∙ ap length worths ∙ length-map digits hex_digit_value ∙ c.told-digits in
    let even : length digits % 2 ≡ 0 = omega (arith, c.told-digits) in
    ap Some (joined_lanes lanes long)
    ∙ sym (all_given lanes digits 8 long worths (eq-eqb _ 0 (sym (high_marks lanes long) ∙ c.if-high_bits-ne0.false)))
    ∙ ap given worths ∙ sym (decodes digits even)
