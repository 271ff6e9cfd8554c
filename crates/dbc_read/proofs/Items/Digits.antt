-- Whole numbers are printed as digits that spell them, also after an `m` and with a sign.
use Rattle.std.proofs.Common.{◌≡◌, ℕ, ◌<◌, ◌≤◌, ◌^◌, true, List, [], ◌∷◌, ◌++◌, length, refl, subst, arith}
use Rattle.std.specs.Prelude.{codes, decimal}
use Rattle.std.specs.List.{list_all}
use Rattle.std.specs.Char.{digit_value}
use Rattle.std.specs.Str.Parse.{AllDigits, digits_value}
use Rattle.std.proofs.lemmas.Bool.{and_from}
use Rattle.std.proofs.lemmas.Bool.Decides.{nat_tests}
use Rattle.std.proofs.lemmas.Fmt.{decimal_is_IsNumeral_wide}
use Rattle.std.proofs.lemmas.Str.Parse.{digit_from_value}
use Rattle.dbc_values.specs.Lexical.{is_digit, is_digits, is_word_byte, is_word}
use Rattle.dbc_reader.specs.Forms.{SpellsNumber, SpellsTag}
use Rattle.dbc_tokens.proofs.Runs.{all_append, all_weaker}
use Rattle.dbc_read.proofs.Takes.Tags.{spells_digits}

-- ---- digits

digit_by_bounds : (c : ℕ) → 48 ≤ c → c ≤ 57 → is_digit c ≡ true
digit_by_bounds c low high = grind (arith, nat_tests)

digit_of_value : (c : ℕ) → digit_value c < 10 → is_digit c ≡ true
digit_of_value c small = let bounds = digit_from_value c small in digit_by_bounds c bounds.0 bounds.1

all_of_values : (digits : List ℕ) → AllDigits 10 digits → list_all is_digit digits ≡ true
all_of_values [] all = refl
all_of_values (c ∷ digits) all = and_from _ _ (digit_of_value c all.0) (all_of_values digits all.1)

pub digits_from_all : (digits : List ℕ) → 0 < length digits → list_all is_digit digits ≡ true → is_digits digits ≡ true
digits_from_all [] some all = absurd (omega arith)
digits_from_all (c ∷ digits) some all = all

pub all_decimal : (n : ℕ) → n < 10 ^ 64 → list_all is_digit (decimal n) ≡ true
all_decimal n short = all_of_values (decimal n) (decimal_is_IsNumeral_wide n short).0.1

pub some_decimal : (n : ℕ) → n < 10 ^ 64 → 0 < length (decimal n)
some_decimal n short = (decimal_is_IsNumeral_wide n short).0.0

pub digits_decimal : (n : ℕ) → n < 10 ^ 64 → is_digits (decimal n) ≡ true
digits_decimal n short = digits_from_all (decimal n) (some_decimal n short) (all_decimal n short)

pub value_decimal : (n : ℕ) → n < 10 ^ 64 → digits_value 10 (decimal n) ≡ n
value_decimal n short = (decimal_is_IsNumeral_wide n short).1

-- ---- whole numbers

pub decimal_spells : (n : ℕ) → n < 10 ^ 64 → SpellsNumber (decimal n) n
decimal_spells n short = subst (SpellsNumber (decimal n)) (value_decimal n short)
    (spells_digits (decimal n) (digits_decimal n short))

-- ---- multiplexer indicators

pub tag_spells : (n : ℕ) (following : List ℕ) → n < 10 ^ 64 → SpellsTag (codes "m" ++ (decimal n ++ following)) n following
tag_spells n following short = (decimal n, refl, digits_decimal n short, value_decimal n short)

digit_in_word : (b : ℕ) → is_digit b ≡ true → is_word_byte b ≡ true
digit_in_word b is = grind (arith, nat_tests)

pub tag_is_word : (n : ℕ) (following : List ℕ) → n < 10 ^ 64 → list_all is_word_byte following ≡ true
    → is_word (codes "m" ++ (decimal n ++ following)) ≡ true
tag_is_word n following short word = all_append is_word_byte (decimal n) following (all_weaker is_digit is_word_byte (decimal n)
    digit_in_word (all_decimal n short)) word
