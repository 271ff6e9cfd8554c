use Rattle.std.proofs.Common.{◌≡◌, ◌++◌, length}
use Rattle.std.specs.List.{flat_map}
use Rattle.can_json_texts.specs.Texts.{pair_text}
use Rattle.can_json_texts.proofs.hexadecimal.push_pairs.Given as goal

-- the digits of all bytes are those that were appended, and those of the bytes that are left
abbrev pub invariant-eights : goal.invariant-eights
invariant-eights l =
    l.initial.text.items ++ flat_map pair_text l.bytes ≡ l.text.items ++ flat_map pair_text l.rest

abbrev pub decreases-eights : goal.decreases-eights
decreases-eights l = length l.rest
