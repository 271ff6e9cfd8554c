-- The items of tokens that spell a form spell its parts, one after another.
use Rattle.std.proofs.Common.{◌≡◌, ℕ, Bool, true, false, not, ◌&&◌, ◌||◌, List, [], ◌∷◌, ◌++◌, refl, sym, ap, subst, ◌∙◌}
use Rattle.std.proofs.Common.{append_assoc, arith, ◌⊎◌, inl, inr}
use Rattle.std.specs.Prelude.{codes, IsTrue}
use Rattle.std.specs.Str.{bytes_eq}
use Rattle.std.proofs.lemmas.Bool.{cases_Bool, and_parts, not-true}
use Rattle.std.proofs.lemmas.Slice.Eq.{bytes_eq-Decides}
use Rattle.dbc_values.specs.Lexical.{is_name, is_number, quoted}
use Rattle.dbc_values.specs.Names.{is_symbol}
use Rattle.dbc_records.specs.Layout.{Word, Mark, Name, Symbol, Text, Whole, Int, Number, Switch, Muxed, Both, Order, Piece}
use Rattle.dbc_tokens.specs.declared.token.Kind.TheVariants as kinds
use Rattle.dbc_tokens.specs.Tokens.{Token}
use Rattle.dbc_tokens.proofs.Longest.{token_begins}
use Rattle.dbc_reader.specs.Forms.{Part as FormPart, Is, Perhaps, Unsigned, SaysPart, Spelled, IsOne, IsSign}
use Rattle.dbc_ranges.specs.Ranges.{Item, is_sign, begins_number, one_token, items_of}
use Rattle.dbc_ranges.specs.PartLaws.{IsItem, AreOne, StatedBy, begins_with_mark, signs_apart, ItemsSayParts}

-- ---- tokens

-- bytes that pass a test that no sign passes
not_sign_by : (test : List ℕ → Bool) → test (codes "+") ≡ false → test (codes "-") ≡ false → (bytes : List ℕ)
    → test bytes ≡ true → is_sign bytes ≡ false
not_sign_by test plus minus bytes is =
    elim (cases_Bool (bytes_eq bytes (codes "+"))) [
      | inl same ↦
          let both : true ≡ false = sym is ∙ ap test ((bytes_eq-Decides bytes (codes "+")).0 same) ∙ plus in
          absurd cc
      | inr differ ↦
          elim (cases_Bool (bytes_eq bytes (codes "-"))) [
            | inl same ↦
                let both : true ≡ false = sym is ∙ ap test ((bytes_eq-Decides bytes (codes "-")).0 same) ∙ minus in
                absurd cc
            | inr others ↦ rw (differ, others) refl
          ]
    ]

number_no_sign : (bytes : List ℕ) → is_number bytes ≡ true → is_sign bytes ≡ false
unfolding is_number
number_no_sign bytes is = not_sign_by is_number refl refl bytes is

number_begins : (bytes : List ℕ) → is_number bytes ≡ true → begins_number bytes ≡ true
number_begins bytes is = let x = token_begins kinds.Number bytes is in rw x.2 x.3

name_no_sign : (name : List ℕ) → is_name name ≡ true → is_sign name ≡ false
unfolding is_name
name_no_sign name is = not_sign_by is_name refl refl name is

symbol_no_sign : (word : List ℕ) → is_symbol word ≡ true → is_sign word ≡ false
unfolding is_symbol
symbol_no_sign word is = not_sign_by is_symbol refl refl word is

lone : (t : Token) (others : List Token) → is_sign t.bytes ≡ false → items_of (t ∷ others) ≡ one_token t ∷ items_of others
lone t [] e = refl
lone t (u ∷ others) e = rw e refl

-- a sign before what is no number
lone_sign : (t u : Token) (others : List Token) → begins_number u.bytes ≡ false
    → items_of (t ∷ u ∷ others) ≡ one_token t ∷ items_of (u ∷ others)
lone_sign t u others e =
    elim (cases_Bool (is_sign t.bytes)) [
      | inl is ↦ rw (is, e) refl
      | inr isnt ↦ lone t (u ∷ others) isnt
    ]

signed : (t u : Token) (others : List Token) → is_sign t.bytes ≡ true → begins_number u.bytes ≡ true
    → items_of (t ∷ u ∷ others) ≡ record { first = t; last = u } ∷ items_of others
signed t u others e f = rw (e, f) refl

-- ---- one part

-- these tokens are items of their own, whatever follows
pub record StandAlone (tokens : List Token) : Type 0 where
  pub own : List Item
  pub one : AreOne own tokens
  pub items : (others : List Token) → items_of (tokens ++ others) ≡ own ++ items_of others

alone_one : (AreSo : List ℕ → Type 0) (tokens : List Token) → ((bytes : List ℕ) → AreSo bytes → is_sign bytes ≡ false)
    → IsOne AreSo tokens → StandAlone tokens
alone_one AreSo tokens differ (t, same, are) = record {
  own = one_token t ∷ [];
  one = inl (same, refl);
  items = λ others. rw same (lone t others (differ t.bytes are));
}

alone_signed : (negative : Bool) (sign tokens : List Token) (t : Token) → tokens ≡ sign ++ t ∷ [] → IsSign negative sign
    → is_number t.bytes ≡ true → StandAlone tokens
alone_signed false sign tokens t whole (inl none) is =
    let same : tokens ≡ t ∷ [] = whole ∙ ap (λ (s : List Token). s ++ t ∷ []) none in
    alone_one (λ bytes. is_number bytes ≡ true) tokens number_no_sign (t, same, is)
alone_signed false sign tokens t whole (inr (s, one, plus)) is =
    let same : tokens ≡ s ∷ t ∷ [] = whole ∙ ap (λ (x : List Token). x ++ t ∷ []) one in
    let is_plus : is_sign s.bytes ≡ true = rw plus refl in record {
      own = record { first = s; last = t } ∷ [];
      one = inr same;
      items = λ others. rw same (signed s t others is_plus (number_begins t.bytes is));
    }
alone_signed true sign tokens t whole (s, one, minus) is =
    let same : tokens ≡ s ∷ t ∷ [] = whole ∙ ap (λ (x : List Token). x ++ t ∷ []) one in
    let is_minus : is_sign s.bytes ≡ true = rw minus refl in record {
      own = record { first = s; last = t } ∷ [];
      one = inr same;
      items = λ others. rw same (signed s t others is_minus (number_begins t.bytes is));
    }

alone_none : (tokens : List Token) → tokens ≡ [] → StandAlone tokens
alone_none tokens none = record { own = []; one = none; items = λ others. rw none refl }

-- ---- the parts of a form

abbrev Stated : List FormPart → List Token → List Token → Type 0
Stated parts tokens others = (items : List Item) × (items_of (tokens ++ others) ≡ items ++ items_of others) × StatedBy parts items

stated_then : (part : FormPart) (parts : List FormPart) (front rest tokens others : List Token) → tokens ≡ front ++ rest
    → SaysPart part front → (own : List Item) → AreOne own front
    → items_of (front ++ (rest ++ others)) ≡ own ++ items_of (rest ++ others) → Stated parts rest others
    → Stated (part ∷ parts) tokens others
stated_then part parts front rest tokens others whole means own one front_items (items, same, stated) = (
  own ++ items,
  rw whole (ap (λ (t : List Token). items_of t) (append_assoc front rest others) ∙ front_items
      ∙ ap (λ (i : List Item). own ++ i) same ∙ sym (append_assoc own items (items_of others))),
  (own, items, front, refl, one, means, stated),
)

alone_then : (part : FormPart) (parts : List FormPart) (front rest tokens others : List Token) → tokens ≡ front ++ rest
    → SaysPart part front → StandAlone front → Stated parts rest others → Stated (part ∷ parts) tokens others
alone_then part parts front rest tokens others whole means alone stated =
    stated_then part parts front rest tokens others whole means alone.own alone.one (alone.items (rest ++ others)) stated

-- a mark `+` or `-` before another mark
mark_then : (mark : ℕ) (parts : List FormPart) (front rest tokens others : List Token) → tokens ≡ front ++ rest
    → SaysPart (Is (Mark mark)) front → begins_with_mark parts ≡ true → Spelled parts rest → Stated parts rest others
    → Stated (Is (Mark mark) ∷ parts) tokens others
mark_then mark (Is (Mark next) ∷ parts) front rest tokens others whole (t, one, is) begins
    (front2, rest2, whole2, (u, one2, is2), spelled) stated =
    let no_number : begins_number u.bytes ≡ false = rw is2 (not-true (begins_number (next ∷ [])) begins) in
    let here : rest ≡ u ∷ rest2 = whole2 ∙ ap (λ (x : List Token). x ++ rest2) one2 in
    stated_then (Is (Mark mark)) (Is (Mark next) ∷ parts) front rest tokens others whole (t, one, is) (one_token t ∷ [])
    (inl (one, refl)) (rw (one, here) (lone_sign t u (rest2 ++ others) no_number)) stated
mark_then mark parts front rest tokens others whole means begins spelled stated = absurd cc

quoted_no_sign : (text bytes : List ℕ) → bytes ≡ quoted text → is_sign bytes ≡ false
quoted_no_sign text bytes same = rw same refl

stated_so : (parts : List FormPart) (tokens others : List Token) → signs_apart parts ≡ true → Spelled parts tokens
    → Stated parts tokens others
stated_so [] tokens others apart none = ([], rw none refl, refl)
stated_so (Is (Word word) ∷ parts) tokens others apart (front, rest, whole, means, spelled) =
    let both = and_parts (not (is_sign word)) (signs_apart parts) apart in
    alone_then (Is (Word word)) parts front rest tokens others whole means
    (alone_one _ front (λ bytes same. rw same (not-true (is_sign word) both.0)) means)
    (stated_so parts rest others both.1 spelled)
stated_so (Is (Mark mark) ∷ parts) tokens others apart (front, rest, whole, means, spelled) =
    let both = and_parts (not (is_sign (mark ∷ [])) || begins_with_mark parts) (signs_apart parts) apart in
    let more = stated_so parts rest others both.1 spelled in
    elim (cases_Bool (is_sign (mark ∷ []))) [
      | inl is ↦
          let begins : begins_with_mark parts ≡ true =
          sym (ap (λ (s : Bool). not s || begins_with_mark parts) is) ∙ both.0 in
          mark_then mark parts front rest tokens others whole means begins spelled more
      | inr isnt ↦ alone_then (Is (Mark mark)) parts front rest tokens others whole means
          (alone_one _ front (λ bytes same. rw same isnt) means) more
    ]
stated_so (Is (Name name) ∷ parts) tokens others apart (front, rest, whole, means, spelled) =
    alone_then (Is (Name name)) parts front rest tokens others whole means
    (alone_one _ front (λ bytes are. rw are.0 (name_no_sign name are.1)) means)
    (stated_so parts rest others apart spelled)
stated_so (Is (Symbol word) ∷ parts) tokens others apart (front, rest, whole, means, spelled) =
    alone_then (Is (Symbol word)) parts front rest tokens others whole means
    (alone_one _ front (λ bytes are. rw are.0 (symbol_no_sign word are.1)) means)
    (stated_so parts rest others apart spelled)
stated_so (Is (Text text) ∷ parts) tokens others apart (front, rest, whole, means, spelled) =
    alone_then (Is (Text text)) parts front rest tokens others whole means
    (alone_one _ front (λ bytes are. quoted_no_sign text bytes are.0) means)
    (stated_so parts rest others apart spelled)
stated_so (Is (Whole n) ∷ parts) tokens others apart (front, rest, whole, means, spelled) =
    alone_then (Is (Whole n)) parts front rest tokens others whole means
    (alone_one _ front (λ bytes are. number_no_sign bytes are.0) means)
    (stated_so parts rest others apart spelled)
stated_so (Is (Int z) ∷ parts) tokens others apart
    (front, rest, whole, (negative, sign, number, both, is, (t, one, (n, spells, value))), spelled) =
    alone_then (Is (Int z)) parts front rest tokens others whole
    (negative, sign, number, both, is, (t, one, (n, spells, value)))
    (alone_signed negative sign front t (both ∙ ap (λ (x : List Token). sign ++ x) one) is spells.0)
    (stated_so parts rest others apart spelled)
stated_so (Is (Number d) ∷ parts) tokens others apart
    (front, rest, whole, (negative, sign, number, both, is, (t, one, spells)), spelled) =
    alone_then (Is (Number d)) parts front rest tokens others whole (negative, sign, number, both, is, (t, one, spells))
    (alone_signed negative sign front t (both ∙ ap (λ (x : List Token). sign ++ x) one) is spells.form)
    (stated_so parts rest others apart spelled)
stated_so (Is Switch ∷ parts) tokens others apart (front, rest, whole, means, spelled) =
    alone_then (Is Switch) parts front rest tokens others whole means (alone_one _ front (λ bytes same. rw same refl) means)
    (stated_so parts rest others apart spelled)
stated_so (Is (Muxed n) ∷ parts) tokens others apart (front, rest, whole, means, spelled) =
    alone_then (Is (Muxed n)) parts front rest tokens others whole means (alone_one _ front (λ bytes are. rw are.1 refl) means)
    (stated_so parts rest others apart spelled)
stated_so (Is (Both n) ∷ parts) tokens others apart (front, rest, whole, means, spelled) =
    alone_then (Is (Both n)) parts front rest tokens others whole means (alone_one _ front (λ bytes are. rw are.1 refl) means)
    (stated_so parts rest others apart spelled)
stated_so (Is (Order intel) ∷ parts) tokens others apart (front, rest, whole, means, spelled) =
    alone_then (Is (Order intel)) parts front rest tokens others whole means
    (alone_one _ front (λ bytes are. number_no_sign bytes are.0) means)
    (stated_so parts rest others apart spelled)
stated_so (Is (Piece piece) ∷ parts) tokens others apart spelled = absurd cc
stated_so (Perhaps mark ∷ parts) tokens others apart (front, rest, whole, inl none, spelled) =
    let both = and_parts (not (is_sign (mark ∷ []))) (signs_apart parts) apart in
    alone_then (Perhaps mark) parts front rest tokens others whole (inl none) (alone_none front none)
    (stated_so parts rest others both.1 spelled)
stated_so (Perhaps mark ∷ parts) tokens others apart (front, rest, whole, inr means, spelled) =
    let both = and_parts (not (is_sign (mark ∷ []))) (signs_apart parts) apart in
    alone_then (Perhaps mark) parts front rest tokens others whole (inr means)
    (alone_one _ front (λ bytes same. rw same (not-true (is_sign (mark ∷ [])) both.0)) means)
    (stated_so parts rest others both.1 spelled)
stated_so (Unsigned d ∷ parts) tokens others apart (front, rest, whole, means, spelled) =
    alone_then (Unsigned d) parts front rest tokens others whole means
    (alone_one _ front (λ bytes are. number_no_sign bytes are.form) means)
    (stated_so parts rest others apart spelled)

pub items_say_parts : ItemsSayParts
items_say_parts parts tokens others apart spelled = stated_so parts tokens others apart spelled
