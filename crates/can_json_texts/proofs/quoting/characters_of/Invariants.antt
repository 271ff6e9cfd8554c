use Rattle.std.proofs.Common.{◌≡◌, take, string_bytes}
use Rattle.can_json_texts.specs.Texts.{characters}
use Rattle.can_json_texts.proofs.quoting.characters_of.Given as goal

-- the characters so far
abbrev pub invariant-loop-byte : goal.invariant-loop-byte
invariant-loop-byte l = string_bytes l.text ≡ characters (take l.byte-index l.bytes)
