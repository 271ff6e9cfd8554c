use Rattle.std.proofs.Common.{◌-◌, ◌≤◌, ◌++◌, ◌∷◌, [], length, ap, ◌∙◌, arith, rules, sym, append-nil}
use Rattle.std.proofs.lemmas.List.{take-replicate}
use Rattle.dbc_records.specs.Layout.{zeros}
use Rattle.byte_devices.proofs.Outs.{Sends-as}
use Rattle.dbc_model.proofs.Magnitudes.{fraction_filled}
use Rattle.dbc_model.proofs.printing.numbers.send_fraction.Goals as goal

pub returns-else-digits-following : goal.returns-else-digits-following
returns-else-digits-following g c =
    let digits = c.args.digits.now in
    let k = c.args.following - length digits in
    let few : length digits ≤ c.args.following = search rules in
    let most : c.args.following ≤ 20 = search rules in
    let front = c.split_at-else-digits-following.ensures.front ∙ take-replicate k 20 48 (omega (arith, most)) in
    let text = ap (λ t. t ++ (digits ++ [])) front ∙ ap (λ t. zeros k ++ t) (append-nil digits) in
    Sends-as _ _ _ _ _ _ (ap (λ t. 48 ∷ 46 ∷ t) text ∙ sym (fraction_filled c.args.following digits few))
    c.send_pieces-else-digits-following.ensures
