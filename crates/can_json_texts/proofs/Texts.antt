-- Texts that are UTF-8, and others.
use Rattle.std.proofs.Common.{◌≡◌, ℕ, List, [], ◌++◌, Option, Some, ap, sym, ◌∙◌, append-nil}
use Rattle.std.specs.Str.{IsUtf8}
use Rattle.hex.specs.Hex.{encode_upper}
use Rattle.json.specs.Token.{Token}
use Rattle.can_json_texts.specs.Texts.{hex_pairs}
use Rattle.can_json_texts.specs.Members.{hex_members}
use Rattle.can_json_texts.proofs.Spellings.{no_hex_pairs, some_hex_pairs}
use Rattle.can_json_texts.specs.Values.{tokens_of}

pub without_pairs : (old : List Token) (key bytes : List ℕ) → IsUtf8 bytes
    → old ≡ old ++ tokens_of (hex_members key (hex_pairs bytes))
without_pairs old key bytes is =
    sym (ap (λ (pairs : Option (List ℕ)). old ++ tokens_of (hex_members key pairs)) (no_hex_pairs bytes is) ∙ append-nil old)

pub with_pairs : (old new : List Token) (key bytes : List ℕ) → (IsUtf8 bytes → ⊥)
    → new ≡ old ++ tokens_of (hex_members key (Some (encode_upper bytes)))
    → new ≡ old ++ tokens_of (hex_members key (hex_pairs bytes))
with_pairs old new key bytes isnt is =
    is ∙ sym (ap (λ (pairs : Option (List ℕ)). old ++ tokens_of (hex_members key pairs)) (some_hex_pairs bytes isnt))
