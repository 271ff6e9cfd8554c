use Rattle.std.proofs.Common.{◌≡◌, decimal, ap, rules, to_z, of_z, w16}
use Rattle.dbc_records.specs.Layout.{decimal_text, sign_text, magnitude_text}
use Rattle.byte_devices.proofs.Outs.{Sends-after, Sends-as}
use Rattle.dbc_model.proofs.printing.numbers.send_decimal.Goals as goal

pub returns : goal.returns
unfolding decimal_text
returns g c =
    let d = c.decimal.inside in
    let kept : to_z w16 (of_z w16 d.exponent) ≡ d.exponent = search rules in
    let magnitude = Sends-as _ _ _ _ _ _ (ap (magnitude_text (decimal d.mantissa)) kept) c.send_unsigned.ensures in
    rw (← c.decimal.view_is) (Sends-after _ _ _ _ c.send_unsigned.result (sign_text d.negative) (magnitude_text (decimal d.mantissa)
    d.exponent) c.in_ok-send_sign.ensures magnitude)
