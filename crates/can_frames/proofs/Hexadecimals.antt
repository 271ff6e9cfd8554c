-- Hexadecimal digits and the numbers and bytes that they spell.
use Rattle.std.proofs.Common.{◌≡◌, ℕ, ◌+◌, ◌*◌, ◌%◌, ◌-◌, ◌==◌, Bool, true, false, cond, List, [], ◌∷◌, length, Option, Some, None}
use Rattle.std.proofs.Common.{Result, Ok, Err, refl, sym, ap, subst, ◌∙◌, arith}
use Rattle.std.specs.Result.{result_ok}
use Rattle.hex.specs.Hex.{hex_digit_value, digit_or_error, decode_pairs, decode_of, ◌>>=◌}
use Rattle.hex.specs.declared.error.FromHexError.{FromHexError}
use Rattle.hex.specs.declared.error.FromHexError.TheVariants.{InvalidHexCharacter, OddLength}
use Rattle.std.proofs.lemmas.Bool.{ne_eqb, or_from}
use Rattle.dbc_values.specs.Lexical.{space, tab}
use Rattle.can_frames.specs.LogLines.{is_log_blank}
use Rattle.can_frames.specs.LogGrammar.{HasNoBlank, SpellsFurther, SpellsBytes}

pub some_same : {A : Type 0} (a b : A) → Some a ≡ Some b → a ≡ b
some_same a b is = cc

-- ---- digits

-- a byte that is no digit is none of them
pub no_digit : (mark b value : ℕ) → hex_digit_value mark ≡ None → hex_digit_value b ≡ Some value → (b == mark) ≡ false
no_digit mark b value none worth = ne_eqb b mark (λ same. let no : None ≡ Some value = sym none
    ∙ subst (λ (b : ℕ). hex_digit_value b ≡ Some value) same worth in absurd (let never : None ≡ Some value = no in cc))

pub digit_unbroken : (b value : ℕ) → hex_digit_value b ≡ Some value → is_log_blank b ≡ false
digit_unbroken b value worth = or_from (b == space) (b == tab) (no_digit space b value refl worth) (no_digit tab b value refl worth)

pub number_unbroken : (before : ℕ) (text : List ℕ) (number : ℕ) → SpellsFurther before text number → HasNoBlank text
number_unbroken before [] number spelled = tt
number_unbroken before (digit ∷ text) number spelled = (
  digit_unbroken digit spelled.0 spelled.1,
  number_unbroken (before * 16 + spelled.0) text number spelled.2,
)

pub pairs_unbroken : (text bytes : List ℕ) → SpellsBytes text bytes → HasNoBlank text
pairs_unbroken [] [] spelled = tt
pairs_unbroken [] (byte ∷ bytes) spelled = absurd spelled
pairs_unbroken (digit ∷ []) bytes spelled = absurd spelled
pairs_unbroken (high ∷ low ∷ text) [] spelled = absurd spelled
pairs_unbroken (high ∷ low ∷ text) (byte ∷ bytes) spelled = (
  digit_unbroken high spelled.0.0 spelled.0.1,
  (
    digit_unbroken low spelled.0.2.0 spelled.0.2.1,
    pairs_unbroken text bytes spelled.1,
  ),
)

-- ---- bytes of pairs

pub length-SpellsBytes : (text bytes : List ℕ) → SpellsBytes text bytes → length text ≡ 2 * length bytes
length-SpellsBytes [] [] spelled = refl
length-SpellsBytes [] (byte ∷ bytes) spelled = absurd spelled
length-SpellsBytes (digit ∷ []) bytes spelled = absurd spelled
length-SpellsBytes (high ∷ low ∷ text) [] spelled = absurd spelled
length-SpellsBytes (high ∷ low ∷ text) (byte ∷ bytes) spelled = let same = length-SpellsBytes text bytes spelled.1 in
    omega (arith, same)

pub pairs_there : (i : ℕ) (text bytes : List ℕ) → SpellsBytes text bytes → decode_pairs i text ≡ Ok bytes
unfolding decode_pairs
pairs_there i [] [] spelled = refl
pairs_there i [] (byte ∷ bytes) spelled = absurd spelled
pairs_there i (digit ∷ []) bytes spelled = absurd spelled
pairs_there i (high ∷ low ∷ text) [] spelled = absurd spelled
pairs_there i (high ∷ low ∷ text) (byte ∷ bytes) spelled =
    let high_is = spelled.0.1 in
    let low_is = spelled.0.2.1 in
    let byte_is : spelled.0.0 * 16 + spelled.0.2.0 ≡ byte = let is = spelled.0.2.2 in omega (arith, is) in
    rw (high_is, low_is, pairs_there (i + 2) text bytes spelled.1, byte_is) refl

pair_found : (i high low : ℕ) (text bytes : List ℕ) (h l : Option ℕ) (r : Result (List ℕ) FromHexError) → hex_digit_value high ≡ h
    → hex_digit_value low ≡ l
    → ((rest : List ℕ) → r ≡ Ok rest → SpellsBytes text rest)
    → ((digit_or_error high i h >>= (λ h. digit_or_error low (i + 1) l >>= (λ l. Ok (h * 16 + l)))) >>=
    (λ byte. r >>= (λ bytes. Ok (byte ∷ bytes)))) ≡ Ok bytes
    → SpellsBytes (high ∷ low ∷ text) bytes
pair_found i high low text bytes None l r high_is low_is later is =
    absurd (let no : Err (InvalidHexCharacter high i) ≡ Ok bytes = is in cc)
pair_found i high low text bytes (Some h) None r high_is low_is later is = absurd (let no : Err (InvalidHexCharacter low (i + 1))
    ≡ Ok bytes = is in cc)
pair_found i high low text bytes (Some h) (Some l) (Err e) high_is low_is later is = absurd (let no : Err e ≡ Ok bytes = is in cc)
pair_found i high low text bytes (Some h) (Some l) (Ok rest) high_is low_is later is =
    let same : (h * 16 + l) ∷ rest ≡ bytes = let found : Ok ((h * 16 + l) ∷ rest) ≡ Ok bytes = is in cc in
    let worth : (0 * 16 + h) * 16 + l ≡ h * 16 + l = omega arith in
    subst (SpellsBytes (high ∷ low ∷ text)) same ((h, high_is, (l, low_is, worth)), later rest refl)

pub pairs_found : (i : ℕ) (text bytes : List ℕ) → decode_pairs i text ≡ Ok bytes → SpellsBytes text bytes
unfolding decode_pairs
pairs_found i [] [] is = tt
pairs_found i [] (byte ∷ bytes) is = absurd (let no : Ok [] ≡ Ok (byte ∷ bytes) = is in cc)
pairs_found i (digit ∷ []) bytes is = absurd (let no : Err OddLength ≡ Ok bytes = is in cc)
pairs_found i (high ∷ low ∷ text) bytes is =
    pair_found i high low text bytes (hex_digit_value high) (hex_digit_value low) (decode_pairs (i + 2) text) refl refl
    (pairs_found (i + 2) text) is

decoded_by : (text bytes : List ℕ) (odd : Bool) (r : Result (List ℕ) FromHexError) → decode_pairs 0 text ≡ r
    → result_ok (cond odd (Err OddLength) r) ≡ Some bytes → SpellsBytes text bytes
decoded_by text bytes true r pairs is = absurd (let no : None ≡ Some bytes = is in cc)
decoded_by text bytes false (Err e) pairs is = absurd (let no : None ≡ Some bytes = is in cc)
decoded_by text bytes false (Ok rest) pairs is = pairs_found 0 text bytes (pairs ∙ ap Ok (some_same rest bytes is))

-- what decodes spells its bytes
pub bytes_found : (text bytes : List ℕ) → result_ok (decode_of text) ≡ Some bytes → SpellsBytes text bytes
bytes_found text bytes is = decoded_by text bytes (length text % 2 == 1) (decode_pairs 0 text) refl is

-- and what spells bytes decodes to them
pub bytes_there : (text bytes : List ℕ) → SpellsBytes text bytes → result_ok (decode_of text) ≡ Some bytes
bytes_there text bytes spelled =
    let even : (length text % 2 == 1) ≡ false = ne_eqb (length text % 2) 1 (λ odd. let same = length-SpellsBytes text bytes
    spelled in omega (arith, odd, same)) in
    rw (even, pairs_there 0 text bytes spelled) refl

-- ---- numbers made of bytes

-- the number of base 256 whose digits are bytes
abbrev pub bytes_number : ℕ → List ℕ → ℕ
bytes_number before [] = before
bytes_number before (byte ∷ bytes) = bytes_number (before * 256 + byte) bytes

pub number_of_pairs : (before : ℕ) (text bytes : List ℕ) → SpellsBytes text bytes
    → SpellsFurther before text (bytes_number before bytes)
number_of_pairs before [] [] spelled = refl
number_of_pairs before [] (byte ∷ bytes) spelled = absurd spelled
number_of_pairs before (digit ∷ []) bytes spelled = absurd spelled
number_of_pairs before (high ∷ low ∷ text) [] spelled = absurd spelled
number_of_pairs before (high ∷ low ∷ text) (byte ∷ bytes) spelled =
    let high_value : ℕ = spelled.0.0 in
    let low_value : ℕ = spelled.0.2.0 in
    let byte_is : (0 * 16 + high_value) * 16 + low_value ≡ byte = spelled.0.2.2 in
    let same : before * 256 + byte ≡ (before * 16 + high_value) * 16 + low_value = omega (arith, byte_is) in (
      high_value,
      spelled.0.1,
      (
        low_value,
        spelled.0.2.1,
        subst (λ (so_far : ℕ). SpellsFurther so_far text (bytes_number (before * 256 + byte) bytes)) same
            (number_of_pairs (before * 256 + byte) text bytes spelled.1),
      ),
    )

pub record PairsOf (before : ℕ) (text : List ℕ) (number : ℕ) : Type 0 where
  pub bytes : List ℕ
  pub spelled : SpellsBytes text bytes
  pub worth : bytes_number before bytes ≡ number

pub pairs_of_number : (half before : ℕ) (text : List ℕ) (number : ℕ) → length text ≡ 2 * half → SpellsFurther before text number
    → PairsOf before text number
pairs_of_number half before [] number even spelled = record { bytes = []; spelled = tt; worth = spelled }
pairs_of_number half before (digit ∷ []) number even spelled = let no : ⊥ = omega (arith, even) in absurd no
pairs_of_number half before (high ∷ low ∷ text) number even spelled =
    let high_value : ℕ = spelled.0 in
    let low_value : ℕ = spelled.2.0 in
    let same : (before * 16 + high_value) * 16 + low_value ≡ before * 256 + (high_value * 16 + low_value) = omega arith in
    let less : length text ≡ 2 * (half - 1) = omega (arith, even) in
    let rest : PairsOf (before * 256 + (high_value * 16 + low_value)) text number =
    pairs_of_number (half - 1) (before * 256 + (high_value * 16 + low_value)) text number less
    (subst (λ (so_far : ℕ). SpellsFurther so_far text number) same spelled.2.2) in
    let worth : (0 * 16 + high_value) * 16 + low_value ≡ high_value * 16 + low_value = omega arith in
    record {
      bytes = (high_value * 16 + low_value) ∷ rest.bytes;
      spelled = ((high_value, spelled.1, (low_value, spelled.2.1, worth)), rest.spelled);
      worth = rest.worth;
    }
