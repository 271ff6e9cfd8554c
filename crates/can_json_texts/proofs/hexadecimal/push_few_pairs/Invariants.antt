use Rattle.std.proofs.Common.{◌≡◌, ◌++◌, take}
use Rattle.std.specs.List.{flat_map}
use Rattle.can_json_texts.specs.Texts.{pair_text}
use Rattle.can_json_texts.proofs.hexadecimal.push_few_pairs.Given as goal

-- the bytes so far
abbrev pub invariant-loop-byte : goal.invariant-loop-byte
invariant-loop-byte l = l.text.items ≡ l.initial.text.items ++ flat_map pair_text (take l.byte-index l.bytes)
