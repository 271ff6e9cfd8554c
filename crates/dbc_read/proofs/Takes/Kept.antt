-- How the statements that are spelled begin: which are kept verbatim, and which aren't.
use Rattle.std.proofs.Common.{◌≡◌, ℕ, zero, suc, Bool, true, false, ◌||◌, ◌&&◌, List, [], ◌∷◌, ◌++◌, refl, sym, ap, ◌∙◌, inl, inr}
use Rattle.std.specs.Prelude.{codes, IsTrue}
use Rattle.std.specs.List.{flat_map}
use Rattle.std.specs.Str.{bytes_eq}
use Rattle.std.proofs.lemmas.Bool.{cases_Bool, and_parts}
use Rattle.dbc_values.specs.Lexical.{is_kept_word, is_text, is_word, is_name, is_number, quoted}
use Rattle.dbc_records.specs.Kept.{Kept, begins, kept_fits}
use Rattle.dbc_values.specs.Pieces.{is_piece, is_string}
use Rattle.dbc_records.specs.Layout.{Word, Mark, Text, Whole, Piece, items_of}
use Rattle.dbc_records.specs.CanonicalText.{spaced_text, spaced_number, blank, number_layout, target_layout, value_layout}
use Rattle.dbc_records.specs.declared.target.Target.{Target}
use Rattle.dbc_records.specs.declared.target.Target.TheVariants as targets
use Rattle.dbc_records.specs.declared.attribute.AttrValue.{AttrValue}
use Rattle.dbc_records.specs.declared.attribute.AttrValue.TheVariants as values
use Rattle.dbc_tokens.specs.Tokens.{Token, Cut}
use Rattle.dbc_reader.specs.Classes.{has_word, has_name, has_string, has_piece, has_kept_word}
use Rattle.dbc_reader.specs.inner.Cursors.{following}
use Rattle.dbc_reader.specs.Forms.{Part, Is, SpellsNumber, IsOne, SaysPart, Spelled, of_layout, ◌▸▸◌}
use Rattle.dbc_reader.specs.Spelling.{form, OfKept}
use Rattle.dbc_reader.specs.inner.Readers.{starts}
use Rattle.dbc_reader.specs.inner.Parts.{pieces_from}
use Rattle.dbc_reader.specs.inner.Databases.{first_tokens, begins_kept, kept_at}
use Rattle.dbc_reader.proofs.Rounds.{bind_shrinks, value_keeps}
use Rattle.dbc_reader.proofs.Rounds.Lists.{piece_shrinks}
use Rattle.dbc_reader.proofs.Facts.KeptBeginnings.{kept_by_tokens, any_of_four}
use Rattle.dbc_reader.proofs.Facts.Names.{no_digit_no_number, word_is_no_number}
use Rattle.dbc_reader.proofs.Sound.Adding.{piece_form}
use Rattle.dbc_read.proofs.Takes.{Takes, Anything, Opens, Stops, takes_value, takes_then, takes_next, takes_as, opens_one}
use Rattle.dbc_read.proofs.Takes.{allows_stop, takes_list}
use Rattle.dbc_read.proofs.Takes.Kinds.{mark_takes, piece_takes}
use Rattle.dbc_read.proofs.Takes.Rows.{mark_opens}
use Rattle.dbc_read.proofs.Takes.Notes.{word_opens, text_no_word, number_no_word}

-- ---- what is after the first token

pub second_opens : {test : Token → Bool} {passes : Bool} {parts : List Part} (part : Part) (P : List ℕ → Type 0)
    → ((tokens : List Token) → SaysPart part tokens → IsOne P tokens) → Opens test passes parts
    → (tokens : List Token) (cut : Cut) → Spelled (part ∷ parts) tokens → starts test (following (tokens ▸▸ cut)) ≡ passes
second_opens {test} {passes} {parts} part P so opens tokens cut (front, rest, same, means, others) =
    let first = so front means in
    ap (λ (t : List Token). starts test (following (t ▸▸ cut))) (same ∙ ap (λ (t : List Token). t ++ rest) first.1)
    ∙ opens.opens rest cut others

pub third_opens : {test : Token → Bool} {passes : Bool} {parts : List Part} (part other : Part) (P Q : List ℕ → Type 0)
    → ((tokens : List Token) → SaysPart part tokens → IsOne P tokens) → ((tokens : List Token) → SaysPart other tokens
    → IsOne Q tokens)
    → Opens test passes parts → (tokens : List Token) (cut : Cut) → Spelled (part ∷ other ∷ parts) tokens
    → starts test (following (following (tokens ▸▸ cut))) ≡ passes
third_opens {test} {passes} {parts} part other P Q so so_other opens tokens cut (front, rest, same, means, others) =
    let first = so front means in
    ap (λ (t : List Token). starts test (following (following (t ▸▸ cut)))) (same ∙ ap (λ (t : List Token). t ++ rest) first.1)
    ∙ second_opens other Q so_other opens rest cut others

-- ---- statements that aren't kept

-- what spells these parts begins no statement kept verbatim
pub record NotKept (parts : List Part) : Type 0 where
  pub not_kept : (tokens : List Token) (cut : Cut) → Spelled parts tokens → begins_kept (tokens ▸▸ cut) ≡ false

pub unkept_word : (word : List ℕ) {parts : List Part} → is_kept_word word ≡ false → bytes_eq word (codes "VAL_") ≡ false
    → bytes_eq word (codes "CM_") ≡ false → bytes_eq word (codes "BA_") ≡ false → NotKept (Is (Word word) ∷ parts)
unfolding has_word has_kept_word
unkept_word word {parts} kept value comment attribute = record {
  not_kept = λ tokens cut spelled. (
      let one = (word_opens is_kept_word word {parts = parts} kept).opens tokens cut spelled in
      let two = (word_opens (λ bytes. bytes_eq bytes (codes "VAL_")) word {parts = parts} value).opens tokens cut spelled in
      let three = (word_opens (λ bytes. bytes_eq bytes (codes "CM_")) word {parts = parts} comment).opens tokens cut spelled in
      let four = (word_opens (λ bytes. bytes_eq bytes (codes "BA_")) word {parts = parts} attribute).opens tokens cut spelled in
      kept_by_tokens (tokens ▸▸ cut) ∙ rw (one, two, three, four) refl);
}

number_no_name : (bytes : List ℕ) → IsTrue (is_number bytes) → is_name bytes ≡ false
unfolding is_name
number_no_name bytes is = elim (cases_Bool (is_word bytes)) [
  | inr other ↦ rw other refl
  | inl word ↦ (let both : true ≡ false = sym is ∙ word_is_no_number bytes word in absurd cc)
]

pub unkept_values : {n : ℕ} {parts : List Part} → NotKept (Is (Word (codes "VAL_")) ∷ Is (Whole n) ∷ parts)
unfolding has_word has_kept_word has_name
unkept_values {n} {parts} = record {
  not_kept = λ tokens cut spelled. (
      let one = (word_opens is_kept_word (codes "VAL_") {parts = Is (Whole n) ∷ parts} refl).opens tokens cut spelled in
      let name = second_opens (Is (Word (codes "VAL_"))) (λ bytes. bytes ≡ codes "VAL_") (λ tokens means. means) (whole_opens n)
      tokens cut spelled in
      let three = (word_opens (λ bytes. bytes_eq bytes (codes "CM_")) (codes "VAL_") {parts = Is (Whole n) ∷ parts} refl).opens
      tokens cut spelled in
      let four = (word_opens (λ bytes. bytes_eq bytes (codes "BA_")) (codes "VAL_") {parts = Is (Whole n) ∷ parts} refl).opens
      tokens cut spelled in
      kept_by_tokens (tokens ▸▸ cut) ∙ rw (one, name, three, four) (none (starts (has_word (codes "VAL_")) (tokens ▸▸ cut))));
}
  where
    whole_opens : (n : ℕ) {parts : List Part} → Opens (λ t. is_name t.bytes) false (Is (Whole n) ∷ parts)
    whole_opens n {parts} = opens_one (Is (Whole n)) (λ bytes. SpellsNumber bytes n) (λ tokens means. means)
        (λ t e. number_no_name t.bytes e.0)

    none : (b : Bool) → (false || ((b && false) || (false || false))) ≡ false
    none true = refl
    none false = refl

-- neither an object nor a text is an environment variable
target_no_variable : (target : Target) (text : List ℕ) (parts : List Part)
    → Opens (has_word (codes "EV_")) false (of_layout (target_layout target) ++ Is (Text text) ∷ parts)
unfolding target_layout items_of has_word
target_no_variable targets.Whole text parts = text_no_word (codes "EV_") refl
target_no_variable (targets.Node name) text parts = word_opens (λ bytes. bytes_eq bytes (codes "EV_")) (codes "BU_") refl
target_no_variable (targets.Message number) text parts = word_opens (λ bytes. bytes_eq bytes (codes "EV_")) (codes "BO_") refl
target_no_variable (targets.Signal number name) text parts = word_opens (λ bytes. bytes_eq bytes (codes "EV_")) (codes "SG_") refl

given_no_variable : (target : Target) (given : AttrValue) (parts : List Part)
    → Opens (has_word (codes "EV_")) false (of_layout (target_layout target) ++ (of_layout (value_layout given) ++ parts))
unfolding target_layout value_layout spaced_text spaced_number blank number_layout items_of has_word
given_no_variable targets.Whole (values.Text text) parts = text_no_word (codes "EV_") refl
given_no_variable targets.Whole (values.Decimal number) parts = number_no_word (codes "EV_") number refl refl
    (no_digit_no_number 69 (codes "V_") refl refl)
given_no_variable (targets.Node name) given parts = word_opens (λ bytes. bytes_eq bytes (codes "EV_")) (codes "BU_") refl
given_no_variable (targets.Message number) given parts = word_opens (λ bytes. bytes_eq bytes (codes "EV_")) (codes "BO_") refl
given_no_variable (targets.Signal number name) given parts = word_opens (λ bytes. bytes_eq bytes (codes "EV_")) (codes "SG_") refl

pub unkept_comment : (target : Target) (text : List ℕ) (parts : List Part)
    → NotKept (Is (Word (codes "CM_")) ∷ (of_layout (target_layout target) ++ Is (Text text) ∷ parts))
unfolding has_word has_kept_word
unkept_comment target text parts = record {
  not_kept = λ tokens cut spelled. (
      let all = of_layout (target_layout target) ++ Is (Text text) ∷ parts in
      let one = (word_opens is_kept_word (codes "CM_") {parts = all} refl).opens tokens cut spelled in
      let two = (word_opens (λ bytes. bytes_eq bytes (codes "VAL_")) (codes "CM_") {parts = all} refl).opens tokens cut spelled in
      let variable = second_opens (Is (Word (codes "CM_"))) (λ bytes. bytes ≡ codes "CM_") (λ tokens means. means)
      (target_no_variable target text parts) tokens cut spelled in
      let four = (word_opens (λ bytes. bytes_eq bytes (codes "BA_")) (codes "CM_") {parts = all} refl).opens tokens cut spelled in
      kept_by_tokens (tokens ▸▸ cut) ∙ rw (one, two, variable, four) (none (starts (has_word (codes "CM_")) (tokens ▸▸ cut))));
}
  where
    none : (b : Bool) → (false || (false || ((b && false) || false))) ≡ false
    none true = refl
    none false = refl

pub unkept_attribute : (name : List ℕ) (target : Target) (given : AttrValue) (parts : List Part)
    → NotKept (Is (Word (codes "BA_")) ∷ Is (Text name) ∷ (of_layout (target_layout target) ++ (of_layout (value_layout given)
    ++ parts)))
unfolding has_word has_kept_word
unkept_attribute name target given parts = record {
  not_kept = λ tokens cut spelled. (
      let all = Is (Text name) ∷ (of_layout (target_layout target) ++ (of_layout (value_layout given) ++ parts)) in
      let one = (word_opens is_kept_word (codes "BA_") {parts = all} refl).opens tokens cut spelled in
      let two = (word_opens (λ bytes. bytes_eq bytes (codes "VAL_")) (codes "BA_") {parts = all} refl).opens tokens cut spelled in
      let three = (word_opens (λ bytes. bytes_eq bytes (codes "CM_")) (codes "BA_") {parts = all} refl).opens tokens cut spelled in
      let variable = third_opens (Is (Word (codes "BA_"))) (Is (Text name)) (λ bytes. bytes ≡ codes "BA_")
      (λ bytes. (bytes ≡ quoted name) × IsTrue (is_text name)) (λ tokens means. means) (λ tokens means. means)
      (given_no_variable target given parts) tokens cut spelled in
      kept_by_tokens (tokens ▸▸ cut) ∙ rw (one, two, three, variable) (none (starts (has_word (codes "BA_")) (tokens ▸▸ cut))
      (starts has_string (following (tokens ▸▸ cut)))));
}
  where
    none : (b s : Bool) → (false || (false || (false || (b && (s && false))))) ≡ false
    none true true = refl
    none true false = refl
    none false s = refl

-- ---- statements that are

abbrev fewer : List (List ℕ → Bool) → ℕ → Bool
fewer [] n = true
fewer (test ∷ tests) zero = false
fewer (test ∷ tests) (suc n) = fewer tests n

-- the first tokens are the first pieces
begins_so : (n : ℕ) (tests : List (List ℕ → Bool)) (pieces : List (List ℕ)) (parts : List Part) (tokens : List Token) (cut : Cut)
    → Spelled (flat_map (λ bytes. Is (Piece bytes) ∷ []) pieces ++ parts) tokens
    → IsTrue (fewer tests n) → begins tests pieces ≡ true → begins tests (first_tokens n (tokens ▸▸ cut)) ≡ true
begins_so n [] pieces parts tokens cut spelled few e = refl
begins_so n (test ∷ tests) [] parts tokens cut spelled few e = absurd cc
begins_so zero (test ∷ tests) (piece ∷ pieces) parts tokens cut spelled few e = absurd cc
begins_so (suc n) (test ∷ tests) (piece ∷ pieces) parts tokens cut (front, rest, same, (t, one, is), others) few e =
    let both = and_parts (test piece) (begins tests pieces) e in
    ap (λ (ts : List Token). begins (test ∷ tests) (first_tokens (suc n) (ts ▸▸ cut))) (same
    ∙ ap (λ (ts : List Token). ts ++ rest) one)
    ∙ rw (is.0, both.0) (begins_so n tests pieces parts rest cut others few both.1)

pub begins_as_kept : (row : Kept) (parts : List Part) (tokens : List Token) (cut : Cut) → IsTrue (kept_fits row.tokens)
    → Spelled (flat_map (λ bytes. Is (Piece bytes) ∷ []) row.tokens ++ parts) tokens → begins_kept (tokens ▸▸ cut) ≡ true
unfolding begins_kept kept_fits
begins_as_kept row parts tokens cut fits spelled =
    any_of_four _ _ _ _ _ _ _ _
    (begins_so 3 (is_kept_word ∷ []) row.tokens parts tokens cut spelled refl)
    (begins_so 3 (bytes_eq (codes "VAL_") ∷ is_name ∷ []) row.tokens parts tokens cut spelled refl)
    (begins_so 3 (bytes_eq (codes "CM_") ∷ bytes_eq (codes "EV_") ∷ []) row.tokens parts tokens cut spelled refl)
    (begins_so 3 (bytes_eq (codes "BA_") ∷ is_string ∷ bytes_eq (codes "EV_") ∷ []) row.tokens parts tokens cut spelled refl) fits

Anyhow : List ℕ → Type 0
Anyhow bytes = Unit {0}

piece_opens : (bytes : List ℕ) {parts : List Part} → Opens has_piece true (Is (Piece bytes) ∷ parts)
unfolding has_piece
piece_opens bytes {parts} = opens_one (Is (Piece bytes)) (λ b. (b ≡ bytes) × IsTrue (is_piece bytes)) (λ tokens means. means)
    (λ t is. ap is_piece is.0 ∙ is.1)

pieces_take : (pieces : List (List ℕ)) → Takes (pieces_from []) pieces (flat_map (λ bytes. Is (Piece bytes) ∷ []) pieces)
    (Stops has_piece)
unfolding pieces_from Anyhow
pieces_take pieces =
    takes_list has_piece _ (λ list. bind_shrinks piece_shrinks λ piece. value_keeps _) (λ bytes. Is (Piece bytes) ∷ []) Anyhow
    (λ list bytes is. takes_next _ (piece_takes bytes) takes_value) (λ bytes is. piece_opens bytes) [] pieces (λ i bytes less. tt)

semicolon_is_no_piece : Opens has_piece false (Is (Mark 59) ∷ [])
unfolding has_piece is_piece is_string is_number
semicolon_is_no_piece = mark_opens is_piece 59 refl

pub kept_takes : (row : Kept) → Takes kept_at row (form (OfKept row)) Anything
unfolding kept_at
kept_takes row = takes_as (piece_form row) (takes_then _ (pieces_take row.tokens) (allows_stop semicolon_is_no_piece)
    (takes_next _ (mark_takes 59) takes_value))
