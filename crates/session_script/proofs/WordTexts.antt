-- Numbers, names and strings: what the tests state about a text, and that it has no blank.
use Rattle.std.proofs.Common.{◌≡◌, ℕ, ◌-◌, ◌<◌, ◌^◌, ◌&&◌, Bool, true, false, not, true≢false, cond, List, []}
use Rattle.std.proofs.Common.{◌∷◌, length, Some, None, refl, sym, ap, arith, length-append}
use Rattle.std.specs.Prelude.{nat_le}
use Rattle.std.specs.List.{AllByRecursion, list_all}
use Rattle.std.specs.Str.{bytes_eq}
use Rattle.std.specs.Str.Parse.{digits_value}
use Rattle.std.proofs.lemmas.Bool.{and_parts, and_from}
use Rattle.std.proofs.lemmas.Slice.Eq.{bytes_eq-Decides}
use Rattle.std.proofs.Math.Seq.{take-append_seam}
use Rattle.dbc_values.specs.Lexical.{quote, is_digit, is_digits, is_word, is_word_byte, is_letter, is_keyword, is_name, is_text}
use Rattle.dbc_values.specs.Lexical.{quoted}
use Rattle.dbc_values.specs.Names.{IsText}
use Rattle.dbc_values.specs.Pieces.{is_string, inside}
use Rattle.session_script.specs.Words.{number_of, greatest_number}
use Rattle.session_script.specs.ScriptGrammar.{SpellsNumber}
use Rattle.session_script.proofs.Spaces.{in_word, IsUnbroken, some_same}

-- ---- all bytes

all_pass : (p : ℕ → Bool) (text : List ℕ) → list_all p text ≡ true → AllByRecursion (λ b. p b ≡ true) text
all_pass p [] all = tt
all_pass p (b ∷ text) all = let both = and_parts (p b) (list_all p text) all in (both.0, all_pass p text both.1)

passes_all : (p : ℕ → Bool) (text : List ℕ) → AllByRecursion (λ b. p b ≡ true) text → list_all p text ≡ true
passes_all p [] all = refl
passes_all p (b ∷ text) all = and_from (p b) (list_all p text) all.0 (passes_all p text all.1)

all_since : {P Q : ℕ → Type 0} → ((b : ℕ) → P b → Q b) → (xs : List ℕ) → AllByRecursion P xs → AllByRecursion Q xs
all_since since [] all = tt
all_since since (b ∷ xs) all = (since b all.0, all_since since xs all.1)

-- ---- numbers

digits_are : (text : List ℕ) → is_digits text ≡ true → AllByRecursion (λ b. is_digit b ≡ true) text
digits_are [] is = absurd (true≢false (sym is))
digits_are (b ∷ text) is = all_pass is_digit (b ∷ text) is

some_digit : (text : List ℕ) → is_digits text ≡ true → 0 < length text
some_digit [] is = absurd (true≢false (sym is))
some_digit (b ∷ text) is = omega arith

are_digits : (text : List ℕ) → 0 < length text → AllByRecursion (λ b. is_digit b ≡ true) text → is_digits text ≡ true
are_digits [] some all = let no : ⊥ = omega (arith, some) in absurd no
are_digits (b ∷ text) some all = passes_all is_digit (b ∷ text) all

number_by : (text : List ℕ) (number : ℕ) (test : Bool) → is_digits text && nat_le (digits_value 10 text) greatest_number ≡ test
    → cond test (Some (digits_value 10 text)) None ≡ Some number → SpellsNumber text number
number_by text number true is found =
    let both = and_parts (is_digits text) (nat_le (digits_value 10 text) greatest_number) is in
    let worth : digits_value 10 text ≡ number = some_same (digits_value 10 text) number found in
    record {
      some = some_digit text both.0;
      digit = digits_are text both.0;
      worth = worth;
      fits = grind (arith, both.1, worth);
    }
number_by text number false is found = absurd (let no : None ≡ Some number = found in cc)

pub number_found : (text : List ℕ) (number : ℕ) → number_of text ≡ Some number → SpellsNumber text number
unfolding number_of
number_found text number found = number_by text number (is_digits text && nat_le (digits_value 10 text) greatest_number) refl found

fits_test : (number : ℕ) → number < 2 ^ 32 → nat_le number greatest_number ≡ true
fits_test number fits = grind arith

pub number_there : (text : List ℕ) (number : ℕ) → SpellsNumber text number → number_of text ≡ Some number
unfolding number_of
number_there text number is =
    let fits : nat_le (digits_value 10 text) greatest_number ≡ true = rw is.worth (fits_test number is.fits) in
    let test : is_digits text && nat_le (digits_value 10 text) greatest_number ≡ true =
    and_from (is_digits text) (nat_le (digits_value 10 text) greatest_number) (are_digits text is.some is.digit) fits in
    rw test (ap Some is.worth)

digit_in_word : (b : ℕ) → is_digit b ≡ true → in_word b ≡ true
digit_in_word b is = grind arith

pub number_unbroken : (text : List ℕ) (number : ℕ) → SpellsNumber text number → IsUnbroken text
number_unbroken text number is = all_since digit_in_word text is.digit

-- ---- names

byte_in_word : (b : ℕ) → is_word_byte b ≡ true → in_word b ≡ true
byte_in_word b is = grind arith

letter_in_word : (b : ℕ) → is_letter b ≡ true → in_word b ≡ true
letter_in_word b is = grind arith

word_unbroken : (text : List ℕ) → is_word text ≡ true → IsUnbroken text
word_unbroken [] is = absurd (true≢false (sym is))
word_unbroken (b ∷ text) is =
    let both = and_parts (is_letter b) (list_all is_word_byte text) is in
    (letter_in_word b both.0, all_since byte_in_word text (all_pass is_word_byte text both.1))

pub name_unbroken : (name : List ℕ) → is_name name ≡ true → IsUnbroken name
unfolding is_name
name_unbroken name is = word_unbroken name (and_parts (is_word name) (not (is_keyword name)) is).0

-- ---- strings

pub string_found : (text : List ℕ) → is_string text ≡ true → (text ≡ quoted (inside text)) × IsText (inside text)
unfolding is_string
string_found text is =
    let both = and_parts (bytes_eq text (quoted (inside text))) (is_text (inside text)) is in
    ((bytes_eq-Decides text (quoted (inside text))).0 both.0, both.1)

pub inside_quoted : (inner : List ℕ) → inside (quoted inner) ≡ inner
inside_quoted inner =
    let long : length (quoted inner) - 2 ≡ length inner = omega (arith, length-append inner (quote ∷ [])) in
    rw long (take-append_seam inner (quote ∷ []))

pub string_there : (inner : List ℕ) → IsText inner → is_string (quoted inner) ≡ true
unfolding is_string
string_there inner is =
    let same : bytes_eq (quoted inner) (quoted inner) ≡ true = (bytes_eq-Decides (quoted inner) (quoted inner)).1 refl in
    rw (inside_quoted inner) (and_from (bytes_eq (quoted inner) (quoted inner)) (is_text inner) same is)
