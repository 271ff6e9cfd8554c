-- Texts of bytes that are UTF-8, and of others.
use Rattle.std.proofs.Common.{◌≡◌, ℕ, Bool, true, false, List, ◌++◌, Option, Some, None, if◌then◌else◌, refl, sym, ap, ◌∙◌}
use Rattle.std.proofs.Common.{append-nil, Ok}
use Rattle.std.specs.Str.{IsUtf8, is_utf8}
use Rattle.std.specs.Result.{result_ok}
use Rattle.std.proofs.lemmas.Str.{is_utf8-from_IsUtf8, IsUtf8-from_is_utf8}
use Rattle.hex.specs.Hex.{encode_upper, decode_of}
use Rattle.hex.proofs.HexLemmas.{decode_of-encode_upper}
use Rattle.can_json_texts.specs.Members.{hex_members, further_members}
use Rattle.can_json_texts.specs.Texts.{characters, text_of, hex_pairs, bytes_of, BytesRecovered}

other : {A : Type 0} (b : Bool) (x y : A) → (b ≡ true → ⊥) → (if b then x else y) ≡ y
other true x y isnt = absurd (isnt refl)
other false x y isnt = refl

pub own_text : (bytes : List ℕ) → IsUtf8 bytes → text_of bytes ≡ bytes
unfolding text_of
own_text bytes is = ap (λ (b : Bool). if b then bytes else characters bytes) (is_utf8-from_IsUtf8 bytes is)

pub text_of_characters : (bytes : List ℕ) → (IsUtf8 bytes → ⊥) → text_of bytes ≡ characters bytes
unfolding text_of
text_of_characters bytes isnt = other (is_utf8 bytes) bytes (characters bytes) (λ is. isnt (IsUtf8-from_is_utf8 bytes is))

pub no_hex_pairs : (bytes : List ℕ) → IsUtf8 bytes → hex_pairs bytes ≡ None
unfolding hex_pairs
no_hex_pairs bytes is = ap (λ (b : Bool). if b then None else Some (encode_upper bytes)) (is_utf8-from_IsUtf8 bytes is)

pub some_hex_pairs : (bytes : List ℕ) → (IsUtf8 bytes → ⊥) → hex_pairs bytes ≡ Some (encode_upper bytes)
unfolding hex_pairs
some_hex_pairs bytes isnt = other (is_utf8 bytes) None (Some (encode_upper bytes)) (λ is. isnt (IsUtf8-from_is_utf8 bytes is))

pub without_pairs : (old key bytes : List ℕ) → IsUtf8 bytes → old ≡ old ++ further_members (hex_members key (hex_pairs bytes))
without_pairs old key bytes is =
    sym (ap (λ (pairs : Option (List ℕ)). old ++ further_members (hex_members key pairs)) (no_hex_pairs bytes is)
    ∙ append-nil old)

pub with_pairs : (old new key bytes : List ℕ) → (IsUtf8 bytes → ⊥) → new ≡ old
    ++ further_members (hex_members key (Some (encode_upper bytes)))
    → new ≡ old ++ further_members (hex_members key (hex_pairs bytes))
with_pairs old new key bytes isnt is =
    is ∙ sym (ap (λ (pairs : Option (List ℕ)). old ++ further_members (hex_members key pairs)) (some_hex_pairs bytes isnt))

back : (b : Bool) (bytes : List ℕ) → decode_of (encode_upper bytes) ≡ Ok bytes
    → bytes_of (if b then bytes else characters bytes) (if b then None else Some (encode_upper bytes)) ≡ Some bytes
back true bytes same = refl
back false bytes same = ap result_ok same

pub bytes_recovered : BytesRecovered
unfolding text_of hex_pairs
bytes_recovered bytes are = back (is_utf8 bytes) bytes (decode_of-encode_upper bytes are)
