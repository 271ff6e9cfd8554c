use Rattle.std.proofs.Common.{◌≡◌, ◌≤◌, ◌≤ℤ◌, pos, ◌+◌, ◌++◌, length, ap, ◌∙◌, arith, rules, sym, append-nil, subst}
use Rattle.std.specs.Prelude.{unsigned_abs}
use Rattle.std.proofs.lemmas.List.{take-replicate}
use Rattle.dbc_records.specs.Layout.{zeros}
use Rattle.byte_devices.proofs.Outs.{Sends-as}
use Rattle.dbc_model.proofs.Magnitudes.{magnitude_whole}
use Rattle.dbc_model.proofs.printing.numbers.send_magnitude.Goals as goal

pub returns-then-digits-count-le-PLAIN_DIGITS : goal.returns-then-digits-count-le-PLAIN_DIGITS
returns-then-digits-count-le-PLAIN_DIGITS g c =
    let digits = c.args.digits.now in
    let count = unsigned_abs c.args.exponent in
    let is : c.unsigned_abs-count.result ≡ count = search rules in
    let most : length digits + c.unsigned_abs-count.result ≤ 20 = search rules in
    let fits : length digits + count ≤ 20 = subst (λ n. length digits + n ≤ 20) is most in
    let sign : pos 0 ≤ℤ c.args.exponent = search rules in
    let front = c.split_at.ensures.front ∙ take-replicate c.unsigned_abs-count.result 20 48 (omega (arith, most)) ∙ ap zeros is in
    Sends-as _ _ _ _ _ _ (ap (λ t. digits ++ t) (append-nil _ ∙ front) ∙ sym (magnitude_whole digits c.args.exponent sign fits))
    c.send_pieces.ensures
