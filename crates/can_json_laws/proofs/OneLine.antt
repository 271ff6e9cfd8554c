-- What is printed of a value is one line of UTF-8.
use Rattle.std.proofs.Common.{◌≡◌, ℕ, zero, suc, ◌+◌, ◌<◌, ◌≤◌, ◌==◌, ◌&&◌}
use Rattle.std.proofs.Common.{◌||◌, Bool, true, false, true≢false, cond, List, [], ◌∷◌, ◌++◌}
use Rattle.std.proofs.Common.{length, drop, Option, Some, None, option_and_then, inl, inr, refl, sym, ap, subst, ◌∙◌, arith}
use Rattle.std.specs.Prelude.{nat_le, nat_lt, ⊤}
use Rattle.std.specs.List.{AllByRecursion, prefix_len, list_all}
use Rattle.std.specs.Char.{is_ascii_digit}
use Rattle.std.specs.Str.{IsUtf8}
use Rattle.std.proofs.lemmas.Bool.{and_parts, or_parts, cases_lt, cases_eq, cases_Bool, eqb-true, leb-true, lt-ltb}
use Rattle.std.proofs.lemmas.List.{drop-drop}
use Rattle.std.proofs.lemmas.Str.{IsUtf8-append, IsUtf8-nil}
use Rattle.json.specs.Token.{Token, begin_object, end_object, begin_array, end_array, key, string, number, boolean, null, bad}
use Rattle.json.specs.Json as values
use Rattle.json.specs.Word.{head, after_digits, after_minus, after_sign, after_whole, after_fraction, after_exponent, after_number}
use Rattle.json.specs.Print.{escape_byte, escape, quoted, token_text, separator, begins, ends, print_from, print, IsNumber}
use Rattle.json.specs.Tree.{json_tokens, items_tokens, members_tokens, HasNumbers, ItemsHaveNumbers, MembersHaveNumbers}
use Rattle.json.proofs.Printed.Strings.{escape_byte_plain}
use Rattle.json.proofs.Printed.Utf8.{are_ascii, IsUtf8-are_ascii, IsUtf8-quoted, IsUtf8-key, IsUtf8-boolean, IsUtf8-separator}
use Rattle.can_json_laws.specs.OneLine.{AreVisible, IsOneLine, HasTexts, ItemsHaveTexts, MembersHaveTexts}

-- ---- lines

visible_append : (first second : List ℕ) → AreVisible first → AreVisible second → AreVisible (first ++ second)
visible_append [] second one other = other
visible_append (b ∷ first) second one other = (one.0, visible_append first second one.1 other)

pub line_append : (first second : List ℕ) → IsOneLine first → IsOneLine second → IsOneLine (first ++ second)
line_append first second one other = record {
  utf8 = IsUtf8-append first second one.utf8 other.utf8;
  visible = visible_append first second one.visible other.visible;
}

-- ---- numbers

abbrev IsPlain : ℕ → Type 0
IsPlain b = (32 ≤ b) × (b < 128)

abbrev ArePlain : List ℕ → Type 0
ArePlain text = AllByRecursion (λ (b : ℕ). IsPlain b) text

plain_ascii : (text : List ℕ) → ArePlain text → are_ascii text ≡ true
plain_ascii [] plain = refl
plain_ascii (b ∷ text) plain = rw (lt-ltb b 128 plain.0.1) (plain_ascii text plain.1)

plain_visible : (text : List ℕ) → ArePlain text → AreVisible text
plain_visible [] plain = tt
plain_visible (b ∷ text) plain = (plain.0.0, plain_visible text plain.1)

plain_line : (text : List ℕ) → ArePlain text → IsOneLine text
plain_line text plain = record {
  utf8 = IsUtf8-are_ascii text (plain_ascii text plain);
  visible = plain_visible text plain;
}

first_then : (text : List ℕ) → IsPlain (head text) → ArePlain (drop 1 text) → ArePlain text
first_then [] first rest = tt
first_then (b ∷ text) first rest = (first, rest)

skipped : (text : List ℕ) (test : Bool) → (test ≡ true → IsPlain (head text)) → ArePlain (cond test (drop 1 text) text)
    → ArePlain text
skipped text true first rest = first_then text (first refl) rest
skipped text false first rest = rest

plain_head : (text : List ℕ) (b : ℕ) → IsPlain b → head text == b ≡ true → IsPlain (head text)
plain_head text b plain is = subst IsPlain (sym (eqb-true (head text) b is)) plain

digit_plain : (b : ℕ) → is_ascii_digit b ≡ true → IsPlain b
digit_plain b is = (grind arith, grind arith)

run_plain : (text : List ℕ) → ArePlain (drop (prefix_len is_ascii_digit text) text) → ArePlain text
run_plain [] rest = tt
run_plain (b ∷ text) rest = go (is_ascii_digit b) refl (run_plain text) rest
  where
    go : (digit : Bool) → is_ascii_digit b ≡ digit
        → (ArePlain (drop (prefix_len is_ascii_digit text) text) → ArePlain text)
        → ArePlain (drop (cond digit (1 + prefix_len is_ascii_digit text) 0) (b ∷ text)) → ArePlain (b ∷ text)
    go true is more rest =
        (digit_plain b is, more (subst ArePlain (sym (drop-drop (prefix_len is_ascii_digit text) 1 (b ∷ text))) rest))
    go false is more rest = rest

digits_plain : (text rest : List ℕ) → after_digits text ≡ Some rest → ArePlain rest → ArePlain text
digits_plain text rest is plain = go (prefix_len is_ascii_digit text == 0) is
  where
    go : (none : Bool) → cond none None (Some (drop (prefix_len is_ascii_digit text) text)) ≡ Some rest → ArePlain text
    go true is = absurd (let no : None ≡ Some rest = is in cc)
    go false is =
        let same : drop (prefix_len is_ascii_digit text) text ≡ rest = cc in run_plain text (subst ArePlain (sym same) plain)

exponent_plain : (text : List ℕ) → after_exponent text ≡ Some [] → ArePlain text
exponent_plain text is = go ((head text == 101) || (head text == 69)) refl is
  where
    first : (head text == 101) || (head text == 69) ≡ true → IsPlain (head text)
    first is = elim (cases_Bool (head text == 101)) [
      | inl small ↦ plain_head text 101 (omega arith, omega arith) small
      | inr other ↦ plain_head text 69 (omega arith, omega arith) (ap (λ (b : Bool). b || (head text == 69)) (sym other) ∙ is)
    ]

    sign : (rest : List ℕ) → (head rest == 45) || (head rest == 43) ≡ true → IsPlain (head rest)
    sign rest is = elim (cases_Bool (head rest == 45)) [
      | inl minus ↦ plain_head rest 45 (omega arith, omega arith) minus
      | inr other ↦ plain_head rest 43 (omega arith, omega arith) (ap (λ (b : Bool). b || (head rest == 43)) (sym other) ∙ is)
    ]

    go : (marked : Bool) → (head text == 101) || (head text == 69) ≡ marked
        → cond marked (after_digits (after_sign (drop 1 text))) (Some text) ≡ Some [] → ArePlain text
    go true marked is =
        first_then text (first marked)
        (skipped (drop 1 text) ((head (drop 1 text) == 45) || (head (drop 1 text) == 43)) (sign (drop 1 text))
        (digits_plain (after_sign (drop 1 text)) [] is tt))
    go false marked is = let same : text ≡ [] = cc in subst ArePlain (sym same) tt

fraction_plain : (text rest : List ℕ) → after_fraction text ≡ Some rest → ArePlain rest → ArePlain text
fraction_plain text rest is plain = go (head text == 46) refl is
  where
    go : (marked : Bool) → head text == 46 ≡ marked → cond marked (after_digits (drop 1 text)) (Some text) ≡ Some rest
        → ArePlain text
    go true marked is =
        first_then text (plain_head text 46 (omega arith, omega arith) marked) (digits_plain (drop 1 text) rest is plain)
    go false marked is = let same : text ≡ rest = cc in subst ArePlain (sym same) plain

whole_plain : (text rest : List ℕ) → after_whole text ≡ Some rest → ArePlain rest → ArePlain text
whole_plain text rest is plain = go (head text == 48) refl is
  where
    go : (nought : Bool) → head text == 48 ≡ nought → cond nought (Some (drop 1 text)) (after_digits text) ≡ Some rest
        → ArePlain text
    go true nought is =
        let same : drop 1 text ≡ rest = cc in
        first_then text (plain_head text 48 (omega arith, omega arith) nought) (subst ArePlain (sym same) plain)
    go false nought is = digits_plain text rest is plain

-- what a part leaves, and what the next part makes of it
record Parted (part : List ℕ → Option (List ℕ)) (before : Option (List ℕ)) (after : List ℕ) : Type 0 where
  middle : List ℕ
  first : before ≡ Some middle
  then : part middle ≡ Some after

parted : (part : List ℕ → Option (List ℕ)) (before : Option (List ℕ)) (after : List ℕ)
    → option_and_then part before ≡ Some after → Parted part before after
parted part None after is = absurd (let no : None ≡ Some after = is in cc)
parted part (Some middle) after is = record { middle = middle; first = refl; then = is }

number_plain : (text : List ℕ) → IsNumber text → ArePlain text
unfolding after_number
number_plain text is =
    let last = parted after_exponent (option_and_then after_fraction (after_whole (after_minus text))) [] is in
    let middle = parted after_fraction (after_whole (after_minus text)) last.middle last.first in
    skipped text (head text == 45) (plain_head text 45 (omega arith, omega arith))
    (whole_plain (after_minus text) middle.middle middle.first
    (fraction_plain middle.middle last.middle middle.then (exponent_plain last.middle last.then)))

-- ---- strings

abbrev are_visible : List ℕ → Bool
are_visible text = list_all (λ (b : ℕ). nat_le 32 b) text

visible_by : (text : List ℕ) → are_visible text ≡ true → AreVisible text
visible_by [] are = tt
visible_by (b ∷ text) are =
    let parts = and_parts (nat_le 32 b) (are_visible text) are in (leb-true 32 b parts.0, visible_by text parts.1)

-- it holds of all bytes below this one
abbrev pub holds_below : (ℕ → Bool) → ℕ → Bool
holds_below holds zero = true
holds_below holds (suc b) = holds b && holds_below holds b

pub held : (holds : ℕ → Bool) (most : ℕ) → holds_below holds most ≡ true → (b : ℕ) → b < most → holds b ≡ true
held holds zero all b below = absurd (omega (arith, below))
held holds (suc most) all b below =
    let parts = and_parts (holds most) (holds_below holds most) all in
    elim (cases_eq b most) [
      | inl same ↦ ap holds same ∙ parts.0
      | inr other ↦ held holds most parts.1 b (omega (arith, other, below))
    ]

low_escapes : holds_below (λ (b : ℕ). are_visible (escape_byte b)) 93 ≡ true
unfolding escape_byte
low_escapes = refl

escape_visible : (b : ℕ) → AreVisible (escape_byte b)
escape_visible b = elim (cases_lt b 93) [
  | inl low ↦ visible_by (escape_byte b) (held (λ (b : ℕ). are_visible (escape_byte b)) 93 low_escapes b low)
  | inr high ↦
      subst AreVisible
      (sym (escape_byte_plain b (λ e. omega (arith, e, high)) (λ e. omega (arith, e, high)) (omega (arith, high))))
      (omega (arith, high), tt)
]

escapes_visible : (text : List ℕ) → AreVisible (escape text)
escapes_visible [] = tt
escapes_visible (b ∷ text) = visible_append (escape_byte b) (escape text) (escape_visible b) (escapes_visible text)

quoted_visible : (text : List ℕ) → AreVisible (quoted text)
quoted_visible text = (omega arith, visible_append (escape text) (34 ∷ []) (escapes_visible text) (omega arith, tt))

-- ---- tokens

abbrev IsWritten : Token → Type 0
IsWritten begin_object = ⊤
IsWritten end_object = ⊤
IsWritten begin_array = ⊤
IsWritten end_array = ⊤
IsWritten (key text) = IsUtf8 text
IsWritten (string text) = IsUtf8 text
IsWritten (number digits) = IsNumber digits
IsWritten (boolean b) = ⊤
IsWritten null = ⊤
IsWritten bad = ⊥

abbrev AreWritten : List Token → Type 0
AreWritten tokens = AllByRecursion IsWritten tokens

by_test : (text : List ℕ) → are_ascii text ≡ true → are_visible text ≡ true → IsOneLine text
by_test text ascii visible = record { utf8 = IsUtf8-are_ascii text ascii; visible = visible_by text visible }

token_line : (token : Token) → IsWritten token → IsOneLine (token_text token)
token_line begin_object is = by_test (123 ∷ []) refl refl
token_line end_object is = by_test (125 ∷ []) refl refl
token_line begin_array is = by_test (91 ∷ []) refl refl
token_line end_array is = by_test (93 ∷ []) refl refl
token_line (key text) is = record {
  utf8 = IsUtf8-key text is;
  visible = visible_append (quoted text) (58 ∷ []) (quoted_visible text) (omega arith, tt);
}
token_line (string text) is = record { utf8 = IsUtf8-quoted text is; visible = quoted_visible text }
token_line (number digits) is = plain_line digits (number_plain digits is)
token_line (boolean true) is = by_test (116 ∷ 114 ∷ 117 ∷ 101 ∷ []) refl refl
token_line (boolean false) is = by_test (102 ∷ 97 ∷ 108 ∷ 115 ∷ 101 ∷ []) refl refl
token_line null is = by_test (110 ∷ 117 ∷ 108 ∷ 108 ∷ []) refl refl
token_line bad is = absurd is

comma_line : (some : Bool) → IsOneLine (cond some (44 ∷ []) [])
comma_line true = by_test (44 ∷ []) refl refl
comma_line false = by_test [] refl refl

tokens_line : (before : Bool) (tokens : List Token) → AreWritten tokens → IsOneLine (print_from before tokens)
unfolding print_from
tokens_line before [] are = by_test [] refl refl
tokens_line before (token ∷ tokens) are =
    line_append (separator before token) (token_text token ++ print_from (ends token) tokens) (comma_line (before && begins token))
    (line_append (token_text token) (print_from (ends token) tokens) (token_line token are.0)
    (tokens_line (ends token) tokens are.1))

-- ---- values

written_append : (first second : List Token) → AreWritten first → AreWritten second → AreWritten (first ++ second)
written_append [] second one other = other
written_append (token ∷ first) second one other = (one.0, written_append first second one.1 other)

mutual
  written : (value : values.Json) → HasNumbers value → HasTexts value → AreWritten (json_tokens value)
  written values.null numbers texts = (tt, tt)
  written (values.boolean b) numbers texts = (tt, tt)
  written (values.number digits) numbers texts = (numbers, tt)
  written (values.string text) numbers texts = (texts, tt)
  written (values.array items) numbers texts = (tt, items_written items numbers texts)
  written (values.object members) numbers texts = (tt, members_written members numbers texts)

  items_written : (items : values.Items) → ItemsHaveNumbers items → ItemsHaveTexts items → AreWritten (items_tokens items)
  items_written values.no_items numbers texts = (tt, tt)
  items_written (values.item value items) numbers texts =
      written_append (json_tokens value) (items_tokens items) (written value numbers.0 texts.0)
      (items_written items numbers.1 texts.1)

  members_written : (members : values.Members) → MembersHaveNumbers members → MembersHaveTexts members
      → AreWritten (members_tokens members)
  members_written values.no_members numbers texts = (tt, tt)
  members_written (values.member name value members) numbers texts = (
    texts.0,
    written_append (json_tokens value) (members_tokens members) (written value numbers.0 texts.1.0)
        (members_written members numbers.1 texts.1.1),
  )

pub printed_line : (value : values.Json) → HasNumbers value → HasTexts value → IsOneLine (print (json_tokens value))
printed_line value numbers texts = tokens_line false (json_tokens value) (written value numbers texts)
