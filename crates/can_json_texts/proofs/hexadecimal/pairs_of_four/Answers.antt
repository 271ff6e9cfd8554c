use Rattle.std.proofs.Common.{◌∙◌, ap, sym}
use Rattle.std.specs.List.{flat_map}
use Rattle.can_json_texts.specs.Texts.{pair_text}
use Rattle.can_json_texts.proofs.Digits.{joined, four, no_digits}
use Rattle.can_json_texts.proofs.hexadecimal.pairs_of_four.Goals as goal

pub returns : goal.returns
returns c =
    joined _ _ _ _ _ c.pair_of-a.ensures
    (joined _ _ _ _ _ c.pair_of-b.ensures
    (joined _ _ _ _ _ c.pair_of-c.ensures
    (joined _ _ _ _ _ c.pair_of-d.ensures no_digits)))
    ∙ ap (flat_map pair_text) (sym (four c.args.bytes.now c.told-bytes))
