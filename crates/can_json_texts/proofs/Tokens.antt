-- The tokens of arrays and objects.
use Rattle.std.proofs.Common.{◌≡◌, ℕ, List, [], ◌∷◌, ◌++◌, map, refl, ap, sym, ◌∙◌, append_assoc, append-nil}
use Rattle.std.specs.List.{flat_map}
use Rattle.json.specs.Token.{Token, begin_array, end_array, begin_object, end_object, key}
use Rattle.json.specs.Json.{Json}
use Rattle.json.specs.Tree.{json_tokens, items_tokens, members_tokens}
use Rattle.can_json_texts.specs.Members.{Member, members_of, object_of}
use Rattle.can_json_texts.specs.Values.{items_of, array_of, member_tokens, tokens_of}
use Rattle.can_json_texts.proofs.Appended.{appended_then}

items_written : {A : Type 0} (json_of : A → Json) (values : List A)
    → items_tokens (items_of (map json_of values)) ≡ flat_map (λ value. json_tokens (json_of value)) values ++ end_array ∷ []
items_written json_of [] = refl
items_written json_of (value ∷ values) =
    ap (λ rest. json_tokens (json_of value) ++ rest) (items_written json_of values)
    ∙ sym (append_assoc (json_tokens (json_of value)) (flat_map (λ value. json_tokens (json_of value)) values) (end_array ∷ []))

members_written : (members : List Member) → members_tokens (members_of members) ≡ tokens_of members ++ end_object ∷ []
members_written [] = refl
members_written (one ∷ members) =
    ap (λ rest. member_tokens one ++ rest) (members_written members)
    ∙ sym (append_assoc (member_tokens one) (tokens_of members) (end_object ∷ []))

bracketed : (old begun mid new : List Token) (first last : Token) (between : List Token) → new ≡ mid ++ last ∷ []
    → mid ≡ begun ++ between → begun ≡ old ++ first ∷ [] → new ≡ old ++ first ∷ (between ++ last ∷ [])
bracketed old begun mid new first last between ends some begins =
    ends ∙ ap (λ front. front ++ last ∷ []) (appended_then old begun mid (first ∷ []) between some begins)
    ∙ append_assoc old (first ∷ between) (last ∷ [])

pub array_written : {A : Type 0} (json_of : A → Json) (values : List A) (old begun mid new : List Token)
    → new ≡ mid ++ end_array ∷ [] → mid ≡ begun ++ flat_map (λ value. json_tokens (json_of value)) values
    → begun ≡ old ++ begin_array ∷ [] → new ≡ old ++ json_tokens (array_of (map json_of values))
array_written json_of values old begun mid new ends some begins =
    bracketed old begun mid new begin_array end_array (flat_map (λ value. json_tokens (json_of value)) values) ends some begins
    ∙ ap (λ rest. old ++ begin_array ∷ rest) (sym (items_written json_of values))

pub object_written : (members : List Member) (old begun mid new : List Token) → new ≡ mid ++ end_object ∷ []
    → mid ≡ begun ++ tokens_of members → begun ≡ old ++ begin_object ∷ [] → new ≡ old ++ json_tokens (object_of members)
object_written members old begun mid new ends some begins =
    bracketed old begun mid new begin_object end_object (tokens_of members) ends some begins
    ∙ ap (λ rest. old ++ begin_object ∷ rest) (sym (members_written members))

-- a key and its value
pub member_written : (name : List ℕ) (value : Json) (old mid new : List Token) → new ≡ mid ++ json_tokens value
    → mid ≡ old ++ key name ∷ [] → new ≡ old ++ tokens_of ((name, value) ∷ [])
member_written name value old mid new last begun =
    appended_then old mid new (key name ∷ []) (json_tokens value) last begun
    ∙ ap (λ text. old ++ (key name ∷ text)) (sym (append-nil (json_tokens value)))

tokens_joined : (first second : List Member) → tokens_of (first ++ second) ≡ tokens_of first ++ tokens_of second
tokens_joined [] second = refl
tokens_joined (one ∷ first) second =
    ap (λ rest. member_tokens one ++ rest) (tokens_joined first second)
    ∙ sym (append_assoc (member_tokens one) (tokens_of first) (tokens_of second))

-- members, and members after them
pub members_then : (first second : List Member) (old mid new : List Token) → new ≡ mid ++ tokens_of second
    → mid ≡ old ++ tokens_of first → new ≡ old ++ tokens_of (first ++ second)
members_then first second old mid new last begun =
    appended_then old mid new (tokens_of first) (tokens_of second) last begun
    ∙ ap (λ text. old ++ text) (sym (tokens_joined first second))

-- no members
pub none_written : (old : List Token) → old ≡ old ++ []
none_written old = sym (append-nil old)
