-- Values of members, found by their keys.
use Rattle.std.proofs.Common.{◌≡◌, ℕ, Bool, true, false, List, [], ◌∷◌, ◌++◌, Option, Some, None, if◌then◌else◌, refl, ap, ◌∙◌}
use Rattle.std.specs.Option.{option_map_or}
use Rattle.std.specs.List.{AllByRecursion}
use Rattle.std.specs.Str.{bytes_eq}
use Rattle.hex.specs.Hex.{IsBytes}
use Rattle.json.specs.Json.{string, member}
use Rattle.can_json_texts.specs.Texts.{text_of, hex_pairs, bytes_of}
use Rattle.can_json_texts.specs.Members.{Member, members_of, hex_key, hex_members, text_members}
use Rattle.can_json_texts.proofs.Spellings.{bytes_recovered}
use Rattle.can_json_laws.specs.Stated.{value_at, text_in, bytes_by, bytes_at}
use Rattle.can_json_laws.proofs.Among.{keys_of}

-- other keys in front are passed over
pub passed : (wanted : List ℕ) (front after : List Member) → AllByRecursion (λ key. bytes_eq wanted key ≡ false) (keys_of front)
    → value_at wanted (members_of (front ++ after)) ≡ value_at wanted (members_of after)
passed wanted [] after others = refl
passed wanted (one ∷ front) after others =
    ap (λ (b : Bool). if b then Some one.1 else value_at wanted (members_of (front ++ after))) others.0
    ∙ passed wanted front after others.1

pub absent : (wanted : List ℕ) (members : List Member) → AllByRecursion (λ key. bytes_eq wanted key ≡ false) (keys_of members)
    → value_at wanted (members_of members) ≡ None
absent wanted [] others = refl
absent wanted (one ∷ members) others =
    ap (λ (b : Bool). if b then Some one.1 else value_at wanted (members_of members)) others.0 ∙ absent wanted members others.1

-- ---- the bytes of a text

pub record IsKey (key : List ℕ) : Type 0 where
  pub itself : bytes_eq key key ≡ true
  pub apart : bytes_eq (hex_key key) key ≡ false
  pub pairs : bytes_eq (hex_key key) (hex_key key) ≡ true

by_pairs : (key text bytes : List ℕ) (pairs : Option (List ℕ)) → IsKey key → bytes_of text pairs ≡ Some bytes
    → bytes_at key (member key (string text) (members_of (hex_members key pairs))) ≡ bytes
by_pairs key text bytes None is same =
    let own : text ≡ bytes = let both : Some text ≡ Some bytes = same in cc in
    ap (λ (b : Bool). bytes_by (if b then Some (string text) else None)
    (text_in (if bytes_eq key key then Some (string text) else None)))
    is.apart
    ∙ ap (λ (b : Bool). text_in (if b then Some (string text) else None)) is.itself
    ∙ own
by_pairs key text bytes (Some pairs) is same =
    let all = if bytes_eq key key then Some (string text) else value_at key (members_of (hex_members key (Some pairs))) in
    ap (λ (b : Bool). bytes_by (if b then Some (string text)
    else if bytes_eq (hex_key key) (hex_key key) then Some (string pairs) else None) (text_in all)) is.apart
    ∙ ap (λ (b : Bool). bytes_by (if b then Some (string pairs) else None) (text_in all)) is.pairs
    ∙ ap (λ (found : Option (List ℕ)). option_map_or (λ (bytes : List ℕ). bytes) found []) same

pub bytes_found : (key bytes : List ℕ) → IsKey key → IsBytes bytes → bytes_at key (members_of (text_members key bytes)) ≡ bytes
bytes_found key bytes is are = by_pairs key (text_of bytes) bytes (hex_pairs bytes) is (bytes_recovered bytes are)
