use Rattle.std.proofs.Common.{ℕ, List, ◌∷◌, ◌+◌, take, drop, ap, ◌∙◌}
use Rattle.dbc_text_buffer.proofs.WordBytes.{fraction_is}
use Rattle.dbc_text_buffer.proofs.eight_digits.EightDigits.push_fraction.Goals as goal

pub returns : goal.returns
returns c =
    let digits = ap (λ (ds : List ℕ). 46 ∷ drop (c.args.at + 1) ds) (c.self.invariant.1 ∙ c.self.view_is) in
    let same = ap (λ (n : ℕ). take n c.bytes_from_point.result) c.with_point.ensures
    ∙ fraction_is c.args.at c.args.count c.bytes_from_point.result c.args.self.now (c.bytes_from_point.ensures ∙ digits)
    c.requires in
    rw (← same) c.push_first.ensures
