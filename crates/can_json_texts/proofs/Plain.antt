-- Bytes that go into a string as they are.
use Rattle.std.proofs.Common.{◌≡◌, ℕ, true, not, ◌&&◌, ◌==◌, List, [], ◌∷◌, ◌++◌, refl, sym, ap, ap₂, ◌∙◌}
use Rattle.std.specs.Prelude.{nat_le, nat_lt}
use Rattle.std.specs.Str.{IsUtf8}
use Rattle.std.proofs.lemmas.Bool.{and_parts, and_from, leb-true, eq-eqb, true≢false}
use Rattle.json.specs.Print.{escape_byte, escape, quoted}
use Rattle.json.proofs.Printed.Strings.{escape_byte_plain}
use Rattle.json.proofs.Printed.Utf8.{are_ascii, IsUtf8-are_ascii}
use Rattle.can_json_texts.specs.Texts.{is_plain_byte, is_plain, text_of, hex_pairs}
use Rattle.can_json_texts.specs.Members.{hex_members, further_members}
use Rattle.can_json_texts.proofs.Pushing.{pushed_then}
use Rattle.can_json_texts.proofs.Spellings.{own_text, without_pairs}

isnt : (a b : ℕ) → not (a == b) ≡ true → a ≡ b → ⊥
isnt a b differ same = true≢false (sym differ ∙ ap not (eq-eqb a b same))

plain_byte : (b : ℕ) → is_plain_byte b ≡ true → escape_byte b ≡ b ∷ []
plain_byte b plain =
    let ends = and_parts (nat_le 32 b && nat_lt b 128 && not (b == 34)) (not (b == 92)) plain in
    let middle = and_parts (nat_le 32 b && nat_lt b 128) (not (b == 34)) ends.0 in
    let front = and_parts (nat_le 32 b) (nat_lt b 128) middle.0 in
    escape_byte_plain b (isnt b 34 middle.1) (isnt b 92 ends.1) (leb-true 32 b front.0)

below_128 : (b : ℕ) → is_plain_byte b ≡ true → nat_lt b 128 ≡ true
below_128 b plain =
    let ends = and_parts (nat_le 32 b && nat_lt b 128 && not (b == 34)) (not (b == 92)) plain in
    let middle = and_parts (nat_le 32 b && nat_lt b 128) (not (b == 34)) ends.0 in
    (and_parts (nat_le 32 b) (nat_lt b 128) middle.0).1

plain_escape : (bytes : List ℕ) → is_plain bytes ≡ true → escape bytes ≡ bytes
plain_escape [] plain = refl
plain_escape (b ∷ bytes) plain =
    let parts = and_parts (is_plain_byte b) (is_plain bytes) plain in
    ap₂ (λ (first rest : List ℕ). first ++ rest) (plain_byte b parts.0) (plain_escape bytes parts.1)

pub plain_quoted : (old first second new bytes : List ℕ) → is_plain bytes ≡ true → new ≡ second ++ 34 ∷ []
    → second ≡ first ++ bytes → first ≡ old ++ 34 ∷ [] → new ≡ old ++ quoted bytes
plain_quoted old first second new bytes plain last middle begun =
    pushed_then old first new (34 ∷ []) (bytes ++ 34 ∷ []) (pushed_then first second new bytes (34 ∷ []) last middle) begun
    ∙ ap (λ (text : List ℕ). old ++ (34 ∷ (text ++ 34 ∷ []))) (sym (plain_escape bytes plain))

plain_ascii : (bytes : List ℕ) → is_plain bytes ≡ true → are_ascii bytes ≡ true
plain_ascii [] plain = refl
plain_ascii (b ∷ bytes) plain =
    let parts = and_parts (is_plain_byte b) (is_plain bytes) plain in
    and_from (nat_lt b 128) (are_ascii bytes) (below_128 b parts.0) (plain_ascii bytes parts.1)

-- such bytes are a text by themselves
pub plain_text : (bytes : List ℕ) → is_plain bytes ≡ true → text_of bytes ≡ bytes
plain_text bytes plain = own_text bytes (IsUtf8-are_ascii bytes (plain_ascii bytes plain))

pub plain_texts : (old new name bytes : List ℕ) → is_plain bytes ≡ true → new ≡ old ++ quoted bytes
    → new ≡ old ++ (quoted (text_of bytes) ++ further_members (hex_members name (hex_pairs bytes)))
plain_texts old new name bytes plain is =
    let utf8 : IsUtf8 bytes = IsUtf8-are_ascii bytes (plain_ascii bytes plain) in
    is ∙ ap (λ (text : List ℕ). old ++ quoted text) (sym (plain_text bytes plain))
    ∙ ap (λ (text : List ℕ). old ++ text) (without_pairs (quoted (text_of bytes)) name bytes utf8)
