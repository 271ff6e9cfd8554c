-- The text of an object is that of its members.
use Rattle.std.proofs.Common.{◌≡◌, ℕ, Bool, true, false, List, [], ◌∷◌, ◌++◌, refl, sym, ap, ◌∙◌, append_assoc, append-nil}
use Rattle.std.specs.Prelude.{fold, codes}
use Rattle.json.specs.Token.{Token}
use Rattle.json.specs.Json.{Json, null, boolean, number, string, array, object, Items, no_items, item, Members, no_members, member}
use Rattle.json.specs.Tree.{json_tokens, items_tokens, members_tokens}
use Rattle.json.specs.Print.{print_from, ends, quoted}
use Rattle.json.proofs.Printed.Tokens.{print_from-append}
use Rattle.can_json_texts.specs.Members.{Member, members_of, json_text, member_text, further_member, further_members, members_text}
use Rattle.can_json_texts.specs.Members.{ObjectsArePrinted}

-- ---- a value has ended after its tokens

abbrev ended : Bool → List Token → Bool
ended before tokens = fold (λ _ one. ends one) before tokens

ended-append : (before : Bool) (first second : List Token) → ended before (first ++ second) ≡ ended (ended before first) second
ended-append before [] second = refl
ended-append before (one ∷ first) second = ended-append (ends one) first second

mutual
  value_ends : (before : Bool) (value : Json) → ended before (json_tokens value) ≡ true
  value_ends before null = refl
  value_ends before (boolean b) = refl
  value_ends before (number s) = refl
  value_ends before (string s) = refl
  value_ends before (array items) = items_end false items
  value_ends before (object members) = members_end false members

  items_end : (before : Bool) (items : Items) → ended before (items_tokens items) ≡ true
  items_end before no_items = refl
  items_end before (item value items) =
      ended-append before (json_tokens value) (items_tokens items) ∙ items_end (ended before (json_tokens value)) items

  members_end : (before : Bool) (members : Members) → ended before (members_tokens members) ≡ true
  members_end before no_members = refl
  members_end before (member key value members) =
      ended-append false (json_tokens value) (members_tokens members) ∙ members_end (ended false (json_tokens value)) members

-- ---- single values

pub string_printed : (text : List ℕ) → json_text (string text) ≡ quoted text
unfolding print_from
string_printed text = append-nil (quoted text)

pub number_printed : (text : List ℕ) → json_text (number text) ≡ text
unfolding print_from
number_printed text = append-nil text

-- ---- members

abbrev after : List Member → List ℕ
after members = further_members members ++ codes "}"

-- a value, and what is printed after it
value_then : (value : Json) (tokens : List Token) → print_from false (json_tokens value ++ tokens) ≡ json_text value
    ++ print_from true tokens
value_then value tokens =
    print_from-append false (json_tokens value) tokens
    ∙ ap (λ (before : Bool). json_text value ++ print_from before tokens) (value_ends false value)

-- the text of a member, and what is after it
member_then : (one : Member) (text : List ℕ) → (quoted one.0 ++ 58 ∷ []) ++ (json_text one.1 ++ text) ≡ member_text one ++ text
member_then one text =
    append_assoc (quoted one.0) (58 ∷ []) (json_text one.1 ++ text)
    ∙ sym (append_assoc (quoted one.0) (58 ∷ json_text one.1) text)

further_printed : (members : List Member) → print_from true (members_tokens (members_of members)) ≡ after members
unfolding print_from
further_printed [] = refl
further_printed (one ∷ members) =
    ap (λ (text : List ℕ). 44 ∷ ((quoted one.0 ++ 58 ∷ []) ++ text))
    (value_then one.1 (members_tokens (members_of members)) ∙ ap (λ (text : List ℕ). json_text one.1
    ++ text) (further_printed members))
    ∙ ap (λ (text : List ℕ). 44 ∷ text) (member_then one (after members))
    ∙ sym (append_assoc (further_member one) (further_members members) (codes "}"))

first_printed : (members : List Member) → print_from false (members_tokens (members_of members)) ≡ members_text members ++ codes "}"
unfolding print_from
first_printed [] = refl
first_printed (one ∷ members) =
    ap (λ (text : List ℕ). (quoted one.0 ++ 58 ∷ []) ++ text)
    (value_then one.1 (members_tokens (members_of members)) ∙ ap (λ (text : List ℕ). json_text one.1
    ++ text) (further_printed members))
    ∙ member_then one (after members)
    ∙ sym (append_assoc (member_text one) (further_members members) (codes "}"))

pub objects_are_printed : ObjectsArePrinted
unfolding print_from
objects_are_printed members = ap (λ (text : List ℕ). 123 ∷ text) (first_printed members)
