-- Identifiers by their digits.
use Rattle.std.proofs.Common.{◌≡◌, ℕ, ◌+◌, ◌*◌, ◌/◌, ◌%◌, ◌^◌, ◌<◌, ◌==◌, inl, inr, nat_le, Bool, true, false, cond, List, [], ◌∷◌}
use Rattle.std.proofs.Common.{length, Option, Some, None, refl, sym, ap, subst, ◌∙◌, ⊎_elim, arith}
use Rattle.std.specs.Prelude.{option_and_then, option_map, if◌then◌else◌}
use Rattle.std.specs.Int.{from_be_bytes, w16, w32}
use Rattle.std.specs.Result.{result_ok}
use Rattle.std.proofs.lemmas.Bool.{eqb-true, eqb-false, eq-eqb, ne_eqb, leb-true, le-leb}
use Rattle.hex.specs.Hex.{decode_of}
use Rattle.dbc_values.specs.Lexical.{digit_zero}
use Rattle.can_frames.specs.Frames.{Identifier, greatest_standard, standard_identifier, extended_identifier, of_three_digits}
use Rattle.can_frames.specs.Frames.{of_eight_digits, identifier_of}
use Rattle.can_frames.specs.LogGrammar.{HasNoBlank, SpellsFurther, SpellsNumber, SpellsBytes, IsStandard, IsExtended}
use Rattle.can_frames.specs.LogGrammar.{IsIdentifierText}
use Rattle.can_frames.proofs.Hexadecimals.{some_same, number_unbroken, length-SpellsBytes, bytes_found, bytes_there, bytes_number}
use Rattle.can_frames.proofs.Hexadecimals.{number_of_pairs, PairsOf, pairs_of_number}

-- ---- numbers of two and of four bytes

two_bytes : (bytes : List ℕ) → length bytes ≡ 2 → from_be_bytes w16 bytes ≡ bytes_number 0 bytes
two_bytes [] two = let no : ⊥ = omega (arith, two) in absurd no
two_bytes (a ∷ []) two = let no : ⊥ = omega (arith, two) in absurd no
two_bytes (a ∷ b ∷ []) two = omega arith
two_bytes (a ∷ b ∷ c ∷ bytes) two = let no : ⊥ = omega (arith, two) in absurd no

four_bytes : (bytes : List ℕ) → length bytes ≡ 4 → from_be_bytes w32 bytes ≡ bytes_number 0 bytes
four_bytes [] four = let no : ⊥ = omega (arith, four) in absurd no
four_bytes (a ∷ []) four = let no : ⊥ = omega (arith, four) in absurd no
four_bytes (a ∷ b ∷ []) four = let no : ⊥ = omega (arith, four) in absurd no
four_bytes (a ∷ b ∷ c ∷ []) four = let no : ⊥ = omega (arith, four) in absurd no
four_bytes (a ∷ b ∷ c ∷ d ∷ []) four = omega arith
four_bytes (a ∷ b ∷ c ∷ d ∷ e ∷ bytes) four = let no : ⊥ = omega (arith, four) in absurd no

abbrev plain : Bool → Bool → ℕ → Identifier
plain extended marks_error number = record { extended = extended; marks_error = marks_error; number = number }

identifier_of_parts : (extended marks_error : Bool) (number : ℕ) (identifier : Identifier) → identifier.extended ≡ extended
    → identifier.marks_error ≡ marks_error → identifier.number ≡ number
    → plain extended marks_error number ≡ identifier
identifier_of_parts extended marks_error number identifier width marks worth =
    let step_one : plain extended marks_error number ≡ plain identifier.extended marks_error number =
    ap (λ (e : Bool). plain e marks_error number) (sym width) in
    let step_two : plain identifier.extended marks_error number ≡ plain identifier.extended identifier.marks_error number =
    ap (λ (e : Bool). plain identifier.extended e number) (sym marks) in
    let step_three : plain identifier.extended identifier.marks_error number ≡ plain identifier.extended identifier.marks_error
    identifier.number = ap (λ (n : ℕ). plain identifier.extended identifier.marks_error n) (sym worth) in
    step_one ∙ step_two ∙ step_three

-- ---- three digits

-- a 0 in front changes nothing
after_zero : (text : List ℕ) (number : ℕ) → SpellsNumber (digit_zero ∷ text) number → SpellsNumber text number
after_zero text number spelled =
    let zero_is : 0 ≡ spelled.0 = some_same 0 spelled.0 spelled.1 in
    subst (λ (value : ℕ). SpellsFurther (0 * 16 + value) text number) (sym zero_is) spelled.2

standard_by : (text : List ℕ) (n : ℕ) (identifier : Identifier) (fits : Bool) → nat_le n greatest_standard ≡ fits → length text ≡ 3
    → SpellsNumber text n
    → cond fits (Some (record { extended = false; marks_error = false; number = n })) None ≡ Some identifier
    → IsStandard text identifier
standard_by text n identifier false fits three spelled is = absurd (let no : None ≡ Some identifier = is in cc)
standard_by text n identifier true fits three spelled is =
    let plain : Identifier = record { extended = false; marks_error = false; number = n } in
    let same : plain ≡ identifier = some_same plain identifier is in
    subst (IsStandard text) same (record {
      three = three;
      spelled = spelled;
      fits = leb-true n greatest_standard fits;
      width = refl;
      plain = refl;
    })

three_found : (text : List ℕ) (identifier : Identifier) (decoded : Option (List ℕ)) → length text ≡ 3
    → result_ok (decode_of (digit_zero ∷ text)) ≡ decoded
    → option_and_then (λ bytes. standard_identifier (from_be_bytes w16 bytes)) decoded ≡ Some identifier
    → IsStandard text identifier
three_found text identifier None three decodes is = absurd (let no : None ≡ Some identifier = is in cc)
three_found text identifier (Some bytes) three decodes is =
    let spelled : SpellsBytes (digit_zero ∷ text) bytes = bytes_found (digit_zero ∷ text) bytes decodes in
    let two : length bytes ≡ 2 = let pairs = length-SpellsBytes (digit_zero ∷ text) bytes spelled in omega (arith, three, pairs) in
    let worth : SpellsNumber text (from_be_bytes w16 bytes) = subst (SpellsNumber text) (sym (two_bytes bytes two))
    (after_zero text (bytes_number 0 bytes) (number_of_pairs 0 (digit_zero ∷ text) bytes spelled)) in
    standard_by text (from_be_bytes w16 bytes) identifier (nat_le (from_be_bytes w16 bytes) greatest_standard) refl three worth is

three_there : (text : List ℕ) (identifier : Identifier) → IsStandard text identifier → of_three_digits text ≡ Some identifier
unfolding of_three_digits
three_there text identifier is =
    let even : length (digit_zero ∷ text) ≡ 2 * 2 = let three = is.three in omega (arith, three) in
    let pairs : PairsOf 0 (digit_zero ∷ text) identifier.number = pairs_of_number 2 0 (digit_zero ∷ text) identifier.number even (
      0,
      refl,
      is.spelled,
    ) in
    let two : length pairs.bytes ≡ 2 = let same = length-SpellsBytes (digit_zero ∷ text) pairs.bytes pairs.spelled in
    omega (arith, even, same) in
    let worth : from_be_bytes w16 pairs.bytes ≡ identifier.number = two_bytes pairs.bytes two ∙ pairs.worth in
    ap (option_and_then (λ bytes. standard_identifier (from_be_bytes w16 bytes))) (bytes_there (digit_zero ∷ text) pairs.bytes
    pairs.spelled)
    ∙ ap standard_identifier worth
    ∙ rw (le-leb identifier.number greatest_standard is.fits) (ap Some (identifier_of_parts false false identifier.number identifier
    is.width is.plain refl))

-- ---- eight digits

extended_parts : (n : ℕ) (marks : Bool) → (n / 2 ^ 29 % 2 == 1) ≡ marks
    → n ≡ n / 2 ^ 29 / 2 * 2 ^ 30 + (if marks then 2 ^ 29 else 0) + n % 2 ^ 29
extended_parts n true is = let one : n / 2 ^ 29 % 2 ≡ 1 = eqb-true (n / 2 ^ 29 % 2) 1 is in omega (arith, one)
extended_parts n false is = let other : n / 2 ^ 29 % 2 ≡ 1 → ⊥ = eqb-false (n / 2 ^ 29 % 2) 1 is in omega (arith, other)

eight_found : (text : List ℕ) (identifier : Identifier) (decoded : Option (List ℕ)) → length text ≡ 8 → result_ok (decode_of text)
    ≡ decoded
    → option_map (λ bytes. extended_identifier (from_be_bytes w32 bytes)) decoded ≡ Some identifier → IsExtended text identifier
eight_found text identifier None eight decodes is = absurd (let no : None ≡ Some identifier = is in cc)
eight_found text identifier (Some bytes) eight decodes is =
    let spelled : SpellsBytes text bytes = bytes_found text bytes decodes in
    let four : length bytes ≡ 4 = let pairs = length-SpellsBytes text bytes spelled in omega (arith, eight, pairs) in
    let n : ℕ = from_be_bytes w32 bytes in
    let worth : SpellsNumber text n = subst (SpellsNumber text) (sym (four_bytes bytes four))
    (number_of_pairs 0 text bytes spelled) in
    let same : extended_identifier n ≡ identifier = some_same (extended_identifier n) identifier is in
    subst (IsExtended text) same (record {
      number = n;
      above = n / 2 ^ 29 / 2;
      eight = eight;
      spelled = worth;
      parts = extended_parts n (n / 2 ^ 29 % 2 == 1) refl;
      fits = omega arith;
      width = refl;
    })

marks_are : (n above low : ℕ) (marks : Bool) → n ≡ above * 2 ^ 30 + (if marks then 2 ^ 29 else 0) + low → low < 2 ^ 29
    → (n / 2 ^ 29 % 2 == 1) ≡ marks
marks_are n above low true parts fits = eq-eqb (n / 2 ^ 29 % 2) 1 (omega (arith, parts, fits))
marks_are n above low false parts fits = ne_eqb (n / 2 ^ 29 % 2) 1 (λ one. omega (arith, parts, fits, one))

low_is : (n above low : ℕ) (marks : Bool) → n ≡ above * 2 ^ 30 + (if marks then 2 ^ 29 else 0) + low → low < 2 ^ 29
    → n % 2 ^ 29 ≡ low
low_is n above low true parts fits = omega (arith, parts, fits)
low_is n above low false parts fits = omega (arith, parts, fits)

eight_there : (text : List ℕ) (identifier : Identifier) → IsExtended text identifier → of_eight_digits text ≡ Some identifier
unfolding of_eight_digits
eight_there text identifier is =
    let even : length text ≡ 2 * 4 = let eight = is.eight in omega (arith, eight) in
    let pairs : PairsOf 0 text is.number = pairs_of_number 4 0 text is.number even is.spelled in
    let four : length pairs.bytes ≡ 4 = let same = length-SpellsBytes text pairs.bytes pairs.spelled in omega (arith, even, same) in
    let worth : from_be_bytes w32 pairs.bytes ≡ is.number = four_bytes pairs.bytes four ∙ pairs.worth in
    ap (option_map (λ bytes. extended_identifier (from_be_bytes w32 bytes))) (bytes_there text pairs.bytes pairs.spelled)
    ∙ ap (λ (n : ℕ). Some (extended_identifier n)) worth
    ∙ ap Some (identifier_of_parts true (is.number / 2 ^ 29 % 2 == 1) (is.number % 2 ^ 29) identifier is.width
    (sym (marks_are is.number is.above identifier.number identifier.marks_error is.parts is.fits))
    (sym (low_is is.number is.above identifier.number identifier.marks_error is.parts is.fits)))

-- ---- identifiers

identified_by : (text : List ℕ) (identifier : Identifier) (three eight : Bool) → (length text == 3) ≡ three → (length text == 8)
    ≡ eight
    → cond three (of_three_digits text) (cond eight (of_eight_digits text) None) ≡ Some identifier
    → IsIdentifierText text identifier
unfolding of_three_digits of_eight_digits
identified_by text identifier true eight is_three is_eight is =
    inl (three_found text identifier (result_ok (decode_of (digit_zero ∷ text))) (eqb-true (length text) 3 is_three) refl is)
identified_by text identifier false true is_three is_eight is =
    inr (eight_found text identifier (result_ok (decode_of text)) (eqb-true (length text) 8 is_eight) refl is)
identified_by text identifier false false is_three is_eight is = absurd (let no : None ≡ Some identifier = is in cc)

pub identifier_found : (text : List ℕ) (identifier : Identifier) → identifier_of text ≡ Some identifier
    → IsIdentifierText text identifier
unfolding identifier_of
identifier_found text identifier is = identified_by text identifier (length text == 3) (length text == 8) refl refl is

standard_there : (text : List ℕ) (identifier : Identifier) → IsStandard text identifier → identifier_of text ≡ Some identifier
unfolding identifier_of
standard_there text identifier is = rw (eq-eqb (length text) 3 is.three) (three_there text identifier is)

extended_there : (text : List ℕ) (identifier : Identifier) → IsExtended text identifier → identifier_of text ≡ Some identifier
unfolding identifier_of
extended_there text identifier is =
    let other : (length text == 3) ≡ false = ne_eqb (length text) 3 (λ three. let eight = is.eight in
    omega (arith, three, eight)) in
    rw (other, eq-eqb (length text) 8 is.eight) (eight_there text identifier is)

pub identifier_there : (text : List ℕ) (identifier : Identifier) → IsIdentifierText text identifier → identifier_of text
    ≡ Some identifier
identifier_there text identifier is = ⊎_elim (standard_there text identifier) (extended_there text identifier) is

pub identifier_unbroken : (text : List ℕ) (identifier : Identifier) → IsIdentifierText text identifier → HasNoBlank text
identifier_unbroken text identifier (inl is) = number_unbroken 0 text identifier.number is.spelled
identifier_unbroken text identifier (inr is) = number_unbroken 0 text is.number is.spelled
