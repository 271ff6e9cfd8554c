-- If something is after a token that can't be part of it, the token is the longest at its position.
use Rattle.std.proofs.Common.{◌≡◌, ℕ, suc, ◌+◌, ◌<◌, true, false, ◌||◌, ◌==◌, List, [], ◌∷◌, ◌++◌, length, drop, Some, refl, sym}
use Rattle.std.proofs.Common.{ap, subst, ◌∙◌, append_assoc, arith, ◌⊎◌, inl, inr}
use Rattle.std.specs.List.{list_all, prefix_len}
use Rattle.std.proofs.lemmas.Bool.{cases_Bool, and_parts, ne_eqb}
use Rattle.std.proofs.lemmas.Bool.Decides.{nat_tests}
use Rattle.std.proofs.lemmas.List.{drop_at, length-append}
use Rattle.dbc_tokens.specs.declared.token.Kind.{Kind}
use Rattle.dbc_tokens.specs.declared.token.Kind.TheVariants as kinds
use Rattle.dbc_values.specs.Lexical.{quote, point, is_point, is_sign, is_digit, is_letter, is_word_byte, is_mark, is_exponent_mark}
use Rattle.dbc_values.specs.Lexical.{is_text, quoted, is_number}
use Rattle.dbc_tokens.specs.Tokens.{IsToken, IsLongest}
use Rattle.dbc_tokens.specs.inner.Scanner.{fraction_len, mantissa_len, sign_len, power_len, exponent_len, number_len, token_at}
use Rattle.dbc_tokens.proofs.Runs.{Stops, all_stop}
use Rattle.dbc_tokens.proofs.NumberParts.{IsMantissa, IsSign, IsExponent, number_parts, is_mantissa_byte}
use Rattle.dbc_tokens.proofs.Strings.{text_found}
use Rattle.dbc_tokens.proofs.Longest.{no_other, token_begins, IsFound, token_found}

-- ---- what ends a word or a number

-- the bytes begin with none of a word or a number
abbrev pub EndsToken : List ℕ → Type 0
EndsToken [] = Unit {0}
EndsToken (b ∷ bytes) = (is_word_byte b || is_point b) ≡ false

no_word : (b : ℕ) → (is_word_byte b || is_point b) ≡ false → is_word_byte b ≡ false
no_word b e = grind (arith, nat_tests)

no_digit : (b : ℕ) → (is_word_byte b || is_point b) ≡ false → is_digit b ≡ false
no_digit b e = grind (arith, nat_tests)

no_point : (b : ℕ) → (is_word_byte b || is_point b) ≡ false → (b == point) ≡ false
no_point b e = grind (arith, nat_tests)

no_exponent : (b : ℕ) → (is_word_byte b || is_point b) ≡ false → is_exponent_mark b ≡ false
no_exponent b e = grind (arith, nat_tests)

-- ---- the token at the front

-- what is found at the front is the longest
found : (kind : Kind) (bytes rest : List ℕ) → IsToken kind bytes → token_at (bytes ++ rest) ≡ Some (kind, length bytes)
    → IsLongest kind bytes rest
found kind bytes rest is e =
    let there : IsFound (bytes ++ rest) (Some (kind, length bytes)) =
    subst (IsFound (bytes ++ rest)) e (token_found (bytes ++ rest)) in
    record { token = is; longest = λ k front others whole h. there.2 k front others whole h }

text_there : (text rest : List ℕ) → is_text text ≡ true → token_at (quoted text ++ rest) ≡ Some (kinds.Text, length (quoted text))
unfolding token_at is_text
text_there text rest is =
    let regrouped : (text ++ quote ∷ []) ++ rest ≡ text ++ quote ∷ rest = append_assoc text (quote ∷ []) rest in
    let long : 2 + length text ≡ length (quoted text) = omega (arith, length-append text (quote ∷ [])) in
    rw (regrouped, text_found false text rest is) (ap (λ (n : ℕ). Some (kinds.Text, n)) long)

letter_no_quote : (b : ℕ) → is_letter b ≡ true → (b == quote) ≡ false
letter_no_quote b e = grind (arith, nat_tests)

word_stops : (rest : List ℕ) → EndsToken rest → Stops is_word_byte rest
word_stops [] ends = tt
word_stops (b ∷ rest) ends = no_word b ends

word_there : (b : ℕ) (bytes rest : List ℕ) → is_letter b ≡ true → list_all is_word_byte bytes ≡ true → EndsToken rest
    → token_at ((b ∷ bytes) ++ rest) ≡ Some (kinds.Word, length (b ∷ bytes))
unfolding token_at
word_there b bytes rest letter all ends =
    let long : 1 + length bytes ≡ suc (length bytes) = omega arith in
    rw (letter_no_quote b letter, letter, all_stop is_word_byte bytes rest all (word_stops rest ends))
    (ap (λ (n : ℕ). Some (kinds.Word, n)) long)

mark_no_quote : (b : ℕ) → is_mark b ≡ true → (b == quote) ≡ false
mark_no_quote b is = elim (cases_Bool (b == quote)) [ inr e ↦ e | inl e ↦ absurd (no_other b kinds.Text is refl e) ]

mark_no_letter : (b : ℕ) → is_mark b ≡ true → is_letter b ≡ false
mark_no_letter b is = elim (cases_Bool (is_letter b)) [ inr e ↦ e | inl e ↦ absurd (no_other b kinds.Word is refl e) ]

mark_there : (mark : ℕ) (rest : List ℕ) → is_mark mark ≡ true → token_at (mark ∷ rest) ≡ Some (kinds.Mark, 1)
unfolding token_at
mark_there mark rest is = rw (mark_no_quote mark is, mark_no_letter mark is, is) refl

-- ---- numbers

-- neither a digit nor a point is here
abbrev EndsMantissa : List ℕ → Type 0
EndsMantissa [] = Unit {0}
EndsMantissa (b ∷ bytes) = (is_digit b ≡ false) × ((b == point) ≡ false)

digits_stop : (rest : List ℕ) → EndsMantissa rest → Stops is_digit rest
digits_stop [] ends = tt
digits_stop (b ∷ rest) ends = ends.0

point_is_no_digit : is_digit point ≡ false
point_is_no_digit = refl

fraction_none : (n : ℕ) (rest : List ℕ) → EndsMantissa rest → fraction_len n rest ≡ n
fraction_none n [] ends = refl
fraction_none n (b ∷ rest) ends = rw ends.1 refl

fraction_some : (n k : ℕ) (rest : List ℕ) → prefix_len is_digit rest ≡ k → 0 < n + k → fraction_len n (point ∷ rest) ≡ 1 + (n + k)
fraction_some n k rest e some = rw (e, ne_eqb (n + k) 0 (omega (arith, some))) refl

mantissa_there : (m rest : List ℕ) → IsMantissa m → EndsMantissa rest → mantissa_len (m ++ rest) ≡ length m
mantissa_there m rest (whole, fraction, w, f, some, inl e) ends =
    let regrouped : m ++ rest ≡ whole ++ (point ∷ (fraction ++ rest)) = ap (λ (l : List ℕ). l ++ rest) e
    ∙ append_assoc whole (point ∷ fraction) rest in
    let first : prefix_len is_digit (whole ++ (point ∷ (fraction ++ rest))) ≡ length whole =
    all_stop is_digit whole (point ∷ (fraction ++ rest)) w point_is_no_digit in
    let second : prefix_len is_digit (fraction ++ rest) ≡ length fraction =
    all_stop is_digit fraction rest f (digits_stop rest ends) in
    let long : 1 + (length whole + length fraction) ≡ length m =
    omega (arith, ap length e, length-append whole (point ∷ fraction)) in
    rw (regrouped, first, drop_at whole (point ∷ (fraction ++ rest)) (length whole) refl)
    (fraction_some (length whole) (length fraction) (fraction ++ rest) second some ∙ long)
mantissa_there m rest (whole, fraction, w, f, some, inr e) ends =
    let first : prefix_len is_digit (whole ++ rest) ≡ length whole = all_stop is_digit whole rest w (digits_stop rest ends) in
    rw (e.0, first, drop_at whole rest (length whole) refl) (fraction_none (length whole) rest ends)

mark_ends : (b : ℕ) (rest : List ℕ) → is_exponent_mark b ≡ true → EndsMantissa (b ∷ rest)
mark_ends b rest is = (no b is, none b is)
  where
    no : (b : ℕ) → is_exponent_mark b ≡ true → is_digit b ≡ false
    no b e = grind (arith, nat_tests)

    none : (b : ℕ) → is_exponent_mark b ≡ true → (b == point) ≡ false
    none b e = grind (arith, nat_tests)

token_ends : (rest : List ℕ) → EndsToken rest → EndsMantissa rest
token_ends [] ends = tt
token_ends (b ∷ rest) ends = (no_digit b ends, no_point b ends)

exponent_ends : (x rest : List ℕ) → IsExponent x → EndsToken rest → EndsMantissa (x ++ rest)
exponent_ends [] rest is ends = token_ends rest ends
exponent_ends (b ∷ x) rest is ends = mark_ends b (x ++ rest) is.0

ends_digits : (rest : List ℕ) → EndsToken rest → Stops is_digit rest
ends_digits rest ends = digits_stop rest (token_ends rest ends)

digit_no_sign : (b : ℕ) → is_digit b ≡ true → is_sign b ≡ false
digit_no_sign b e = grind (arith, nat_tests)

power_there : (sign digits rest : List ℕ) → IsSign sign → 0 < length digits → list_all is_digit digits ≡ true → EndsToken rest
    → power_len (sign_len (sign ++ (digits ++ rest))) (sign ++ (digits ++ rest)) ≡ 1 + length (sign ++ digits)
power_there [] [] rest s some d ends = absurd (omega (arith, some))
power_there [] (b ∷ digits) rest s some d ends =
    let digits_end : prefix_len is_digit ((b ∷ digits) ++ rest) ≡ length (b ∷ digits) =
    all_stop is_digit (b ∷ digits) rest d (ends_digits rest ends) in
    let first = digit_no_sign b (and_parts (is_digit b) (list_all is_digit digits) d).0 in
    ap (λ (n : ℕ). power_len n ((b ∷ digits) ++ rest)) (no_sign b (digits ++ rest) first)
    ∙ power_is 0 (length (b ∷ digits)) ((b ∷ digits) ++ rest) ((b ∷ digits) ++ rest) refl digits_end some
    ∙ none_more (length (b ∷ digits))
  where
    none_more : (n : ℕ) → 1 + (0 + n) ≡ 1 + n
    none_more n = omega arith

    no_sign : (b : ℕ) (bytes : List ℕ) → is_sign b ≡ false → sign_len (b ∷ bytes) ≡ 0
    no_sign b bytes e = rw e refl

    power_is : (sign k : ℕ) (bytes following : List ℕ) → drop sign bytes ≡ following → prefix_len is_digit following ≡ k → 0 < k
        → power_len sign bytes ≡ 1 + (sign + k)
    power_is sign k bytes following same e some = rw (same, e, ne_eqb k 0 (omega (arith, some))) refl
power_there (c ∷ []) digits rest s some d ends =
    let digits_end : prefix_len is_digit (digits ++ rest) ≡ length digits =
    all_stop is_digit digits rest d (ends_digits rest ends) in
    ap (λ (n : ℕ). power_len n (c ∷ (digits ++ rest))) (one_sign c (digits ++ rest) s) ∙ power_one (length digits) (digits ++ rest)
    digits_end some ∙ one_more (length digits)
  where
    one_sign : (c : ℕ) (bytes : List ℕ) → is_sign c ≡ true → sign_len (c ∷ bytes) ≡ 1
    one_sign c bytes e = rw e refl

    one_more : (n : ℕ) → 1 + (1 + n) ≡ 1 + suc n
    one_more n = omega arith

    power_one : (k : ℕ) (following : List ℕ) → prefix_len is_digit following ≡ k → 0 < k → power_len 1 (c ∷ following) ≡ 1 + (1 + k)
    power_one k following e some = rw (e, ne_eqb k 0 (omega (arith, some))) refl
power_there (b ∷ c ∷ sign) digits rest s some d ends = elim s [ ]

exponent_there : (x rest : List ℕ) → IsExponent x → EndsToken rest → exponent_len (x ++ rest) ≡ length x
exponent_there [] [] is ends = refl
exponent_there [] (b ∷ rest) is ends = rw (no_exponent b ends) refl
exponent_there (e ∷ x) rest (is, sign, digits, parts, s, some, d) ends =
    let regrouped : x ++ rest ≡ sign ++ (digits ++ rest) = ap (λ (l : List ℕ). l ++ rest) parts ∙ append_assoc sign digits rest in
    rw (is, regrouped) (power_there sign digits rest s some d ends ∙ rw parts (omega arith))

some_mantissa : (m : List ℕ) → IsMantissa m → 0 < length m
some_mantissa m (whole, fraction, w, f, some, inl e) = omega (arith, ap length e, length-append whole (point ∷ fraction))
some_mantissa m (whole, fraction, w, f, some, inr e) = omega (arith, some, ap length e.0, ap length e.1)

number_long : (m x rest : List ℕ) → IsMantissa m → IsExponent x → EndsToken rest → number_len ((m ++ x) ++ rest) ≡ length (m ++ x)
number_long m x rest hm hx ends =
    let regrouped : (m ++ x) ++ rest ≡ m ++ (x ++ rest) = append_assoc m x rest in
    let mantissa : mantissa_len (m ++ (x ++ rest)) ≡ length m = mantissa_there m (x ++ rest) hm (exponent_ends x rest hx ends) in
    let exponent : exponent_len (x ++ rest) ≡ length x = exponent_there x rest hx ends in
    rw (
      regrouped,
      mantissa,
      ne_eqb (length m) 0 (omega (arith, some_mantissa m hm)),
      drop_at m (x ++ rest) (length m) refl,
      exponent,
    ) (sym (length-append m x))

number_len_is : (bytes rest : List ℕ) → is_number bytes ≡ true → EndsToken rest → number_len (bytes ++ rest) ≡ length bytes
number_len_is bytes rest is ends =
    let parts = number_parts bytes is in
    rw parts.2 (number_long parts.0 parts.1 rest parts.3 parts.4 ends)

digit_first : (b : ℕ) → is_mantissa_byte b ≡ true → ((b == quote) ≡ false) × (is_letter b ≡ false)
digit_first b e = (no_quote b e, no_letter b e)
  where
    no_quote : (b : ℕ) → is_mantissa_byte b ≡ true → (b == quote) ≡ false
    no_quote b e = grind (arith, nat_tests)

    no_letter : (b : ℕ) → is_mantissa_byte b ≡ true → is_letter b ≡ false
    no_letter b e = grind (arith, nat_tests)

digit_no_mark : (b : ℕ) → is_mantissa_byte b ≡ true → is_mark b ≡ false
digit_no_mark b is = elim (cases_Bool (is_mark b)) [ inr e ↦ e | inl e ↦ absurd (no_other b kinds.Number e refl is) ]

number_found : (b : ℕ) (following : List ℕ) (n : ℕ) → number_len (b ∷ following) ≡ suc n → is_mantissa_byte b ≡ true
    → token_at (b ∷ following) ≡ Some (kinds.Number, suc n)
unfolding token_at
number_found b following n long byte =
    let first = digit_first b byte in
    rw (first.0, first.1, digit_no_mark b byte, long) (rw (ne_eqb (suc n) 0 (omega arith)) refl)

number_there : (bytes rest : List ℕ) → is_number bytes ≡ true → EndsToken rest → token_at (bytes ++ rest) ≡ Some (
  kinds.Number,
  length bytes,
)
number_there bytes rest is ends =
    let first = token_begins kinds.Number bytes is in
    rw first.2 (by_first first.0 first.1 (subst (λ (l : List ℕ). is_number l ≡ true) first.2 is) first.3)
  where
    by_first : (b : ℕ) (following : List ℕ) → is_number (b ∷ following) ≡ true → is_mantissa_byte b ≡ true
        → token_at ((b ∷ following) ++ rest) ≡ Some (kinds.Number, length (b ∷ following))
    by_first b following is byte = number_found b (following ++ rest) (length following) (number_len_is (b ∷ following) rest is
        ends) byte

-- ---- each kind

-- a mark or a text ends where it ends
pub closed_longest : (kind : Kind) (bytes rest : List ℕ) → (kind ≡ kinds.Mark) ⊎ (kind ≡ kinds.Text) → IsToken kind bytes
    → IsLongest kind bytes rest
closed_longest kind bytes rest (inl mark) is = subst (λ (k : Kind). IsToken k bytes → IsLongest k bytes rest) (sym mark)
    (λ h. found kinds.Mark bytes rest h (one_mark h)) is
  where
    one_mark : IsToken kinds.Mark bytes → token_at (bytes ++ rest) ≡ Some (kinds.Mark, length bytes)
    one_mark (mark, same, is) = rw same (mark_there mark rest is)
closed_longest kind bytes rest (inr text) is = subst (λ (k : Kind). IsToken k bytes → IsLongest k bytes rest) (sym text)
    (λ h. found kinds.Text bytes rest h (one_text h)) is
  where
    one_text : IsToken kinds.Text bytes → token_at (bytes ++ rest) ≡ Some (kinds.Text, length bytes)
    one_text (text, same, is) = rw same (text_there text rest is)

-- any token, if something that ends it is after it
pub open_longest : (kind : Kind) (bytes rest : List ℕ) → EndsToken rest → IsToken kind bytes → IsLongest kind bytes rest
open_longest kinds.Text bytes rest ends is = closed_longest kinds.Text bytes rest (inr refl) is
open_longest kinds.Mark bytes rest ends is = closed_longest kinds.Mark bytes rest (inl refl) is
open_longest kinds.Number bytes rest ends is = found kinds.Number bytes rest is (number_there bytes rest is ends)
open_longest kinds.Word [] rest ends is = absurd cc
open_longest kinds.Word (b ∷ bytes) rest ends is =
    let parts = and_parts (is_letter b) (list_all is_word_byte bytes) is in
    found kinds.Word (b ∷ bytes) rest is (word_there b bytes rest parts.0 parts.1 ends)
