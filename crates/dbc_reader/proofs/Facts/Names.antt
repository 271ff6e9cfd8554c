-- A name is a token, and no number.
use Rattle.std.proofs.Common.{◌≡◌, ℕ, suc, ◌+◌, Bool, true, false, ◌||◌, ◌&&◌, List, [], ◌∷◌, take, refl, ap, ◌∙◌, arith, inl, inr}
use Rattle.std.specs.Prelude.{not}
use Rattle.std.specs.List.{list_any, list_all, before_first, after_first, prefix_len}
use Rattle.std.proofs.lemmas.Bool.{cases_Bool}
use Rattle.std.proofs.lemmas.Grind.{common_steps}
use Rattle.dbc_values.specs.Lexical.{is_letter, is_digit, is_point, is_exponent_mark, is_word, is_word_byte, is_name, is_keyword}
use Rattle.dbc_values.specs.Lexical.{is_mantissa, is_number}
use Rattle.dbc_values.specs.Numbers.{whole_of_number}
use Rattle.dbc_values.specs.Pieces.{is_piece, is_string, is_mark_but_semicolon}
use Rattle.dbc_tokens.specs.Tokens.{Token}
use Rattle.dbc_reader.specs.Classes.{has_name, has_string, has_piece, has_whole}

-- the bytes before the first that passes, if the first byte doesn't
keeps_first : (test : ℕ → Bool) (b : ℕ) (bytes : List ℕ) → test b ≡ false → (rest : List ℕ)
    × (before_first test (b ∷ bytes) ≡ b ∷ rest)
keeps_first test b bytes e =
    let count = prefix_len (λ x. not (test x)) bytes in
    let next : 1 + count ≡ suc count = omega arith in
    (take count bytes, rw e (ap (λ n. take n (b ∷ bytes)) next))

none_first : (test : ℕ → Bool) (b : ℕ) (bytes : List ℕ) → test b ≡ true → before_first test (b ∷ bytes) ≡ []
none_first test b bytes e = rw e refl

-- what begins neither with a digit nor with a point is no number
pub no_digit_no_number : (b : ℕ) (bytes : List ℕ) → is_digit b ≡ false → is_point b ≡ false → is_number (b ∷ bytes) ≡ false
unfolding is_number
no_digit_no_number b bytes no_digit no_point = rw no_mantissa refl
  where
    before : (rest : List ℕ) → is_mantissa (b ∷ rest) ≡ false
    before rest = let front = keeps_first is_point b rest no_point in
        ap (λ front. list_all is_digit front && list_all is_digit (after_first is_point (b ∷ rest)) && list_any is_digit (b ∷ rest))
        front.1 ∙ rw no_digit refl

    no_mantissa : is_mantissa (before_first is_exponent_mark (b ∷ bytes)) ≡ false
    no_mantissa = elim (cases_Bool (is_exponent_mark b)) [
      | inl mark ↦ ap is_mantissa (none_first is_exponent_mark b bytes mark)
      | inr other ↦ (let front = keeps_first is_exponent_mark b bytes other in ap is_mantissa front.1 ∙ before front.0)
    ]

letter_is_no_digit : (b : ℕ) → is_letter b ≡ true → is_digit b ≡ false
letter_is_no_digit b e = grind (arith, common_steps)

letter_is_no_point : (b : ℕ) → is_letter b ≡ true → is_point b ≡ false
letter_is_no_point b e = grind (arith, common_steps)

-- a list whose first byte is a letter is no mantissa
letters_are_no_mantissa : (b : ℕ) (bytes : List ℕ) → is_letter b ≡ true → is_mantissa (b ∷ bytes) ≡ false
letters_are_no_mantissa b bytes e =
    let front = keeps_first is_point b bytes (letter_is_no_point b e) in
    ap (λ front. list_all is_digit front && list_all is_digit (after_first is_point (b ∷ bytes)) && list_any is_digit (b ∷ bytes))
    front.1 ∙ rw (letter_is_no_digit b e) refl

no_mantissa : (b : ℕ) (bytes : List ℕ) → is_letter b ≡ true → is_mantissa (before_first is_exponent_mark (b ∷ bytes)) ≡ false
no_mantissa b bytes e = elim (cases_Bool (is_exponent_mark b)) [
  | inl mark ↦ ap is_mantissa (none_first is_exponent_mark b bytes mark)
  | inr other ↦ (let front = keeps_first is_exponent_mark b bytes other in ap is_mantissa front.1
      ∙ letters_are_no_mantissa b front.0 e)
]

name_word : (bytes : List ℕ) → is_name bytes ≡ true → is_word bytes ≡ true
unfolding is_name
name_word bytes e = both (is_word bytes) (not (is_keyword bytes)) e
  where
    both : (x y : Bool) → (x && y) ≡ true → x ≡ true
    both true y e = refl
    both false y e = absurd cc

first_letter : (b : ℕ) (bytes : List ℕ) → is_word (b ∷ bytes) ≡ true → is_letter b ≡ true
first_letter b bytes e = both (is_letter b) (list_all is_word_byte bytes) e
  where
    both : (x y : Bool) → (x && y) ≡ true → x ≡ true
    both true y e = refl
    both false y e = absurd cc

pub word_is_no_number : (bytes : List ℕ) → is_word bytes ≡ true → is_number bytes ≡ false
unfolding is_number
word_is_no_number [] e = absurd cc
word_is_no_number (b ∷ bytes) e = rw (no_mantissa b bytes (first_letter b bytes e)) refl

pub name_is_no_number : (t : Token) → has_name t ≡ true → has_whole t ≡ false
unfolding has_name has_whole whole_of_number
name_is_no_number t e = rw (word_is_no_number t.bytes (name_word t.bytes e)) refl

pub name_is_piece : (t : Token) → has_name t ≡ true → has_piece t ≡ true
unfolding has_name has_piece is_piece
name_is_piece t e = any (is_string t.bytes) (is_word t.bytes) (is_number t.bytes) (is_mark_but_semicolon t.bytes)
    (name_word t.bytes e)
  where
    any : (x y z w : Bool) → y ≡ true → (x || y || z || w) ≡ true
    any true y z w e = refl
    any false y z w e = rw e refl

pub string_is_piece : (t : Token) → has_string t ≡ true → has_piece t ≡ true
unfolding has_string has_piece is_piece
string_is_piece t e = any (is_string t.bytes) (is_word t.bytes) (is_number t.bytes) (is_mark_but_semicolon t.bytes) e
  where
    any : (x y z w : Bool) → x ≡ true → (x || y || z || w) ≡ true
    any true y z w e = refl
    any false y z w e = absurd cc
