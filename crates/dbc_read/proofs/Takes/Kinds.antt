-- Each part of a form that is spelled is read as what it represents.
use Rattle.std.proofs.Common.{◌≡◌, ℕ, ℤ, pos, negsuc, neg_ℤ, ◌≤ℤ◌, ◌<◌, ◌≤◌, ◌^◌, ◌-◌, Bool, true, false, cond, ◌&&◌, ◌||◌, List}
use Rattle.std.proofs.Common.{[], ◌∷◌, ◌++◌, length, length-append, Some, Result, Ok, refl, sym, ap, subst, ◌∙◌, arith, inl, inr}
use Rattle.std.specs.Prelude.{int_le, codes, nat_le, IsTrue}
use Rattle.std.specs.Str.{bytes_eq}
use Rattle.std.proofs.lemmas.Slice.Eq.{bytes_eq-Decides}
use Rattle.std.proofs.lemmas.Bool.{cases_Bool, and_parts}
use Rattle.std.proofs.lemmas.Grind.{common_steps}
use Rattle.std.proofs.lemmas.Int.{ints}
use Rattle.std.proofs.lemmas.List.{take_at}
use Rattle.dbc_values.specs.Lexical.{quote, quoted, is_text, is_name, is_number}
use Rattle.dbc_values.specs.Numbers.{mantissa_of, exponent_of, whole_of_number}
use Rattle.dbc_values.specs.Decimals.{Decimal, decimal_of_number, SpellsDecimal}
use Rattle.dbc_values.specs.Names.{is_symbol}
use Rattle.dbc_records.specs.Records.{entry_fits}
use Rattle.dbc_values.specs.Pieces.{is_piece, is_string, inside}
use Rattle.dbc_records.specs.Layout.{Word, Mark, Name, Symbol, Text, Whole, Int, Number, Piece}
use Rattle.dbc_values.specs.declared.number.Whole.TheVariants.{Value}
use Rattle.dbc_values.proofs.NormalForms.{decimal_from}
use Rattle.dbc_values.proofs.WholeNumbers.{whole_from}
use Rattle.dbc_tokens.specs.declared.fault.Cause.{Cause}
use Rattle.dbc_tokens.specs.Tokens.{Token, Cut, ◌▸◌}
use Rattle.dbc_reader.specs.Classes.{has_word, has_mark, has_whole, where_true, text_of, whole_of, number_of}
use Rattle.dbc_reader.specs.Forms.{Part, Is, Unsigned, IsOne, IsSign, IsSigned, SpellsNumber, Spelled, signed, ◌▸▸◌}
use Rattle.dbc_reader.specs.inner.Readers.{Reader, and_then, ◌>>=◌, value, token_at, answered, starts, choose}
use Rattle.dbc_reader.specs.inner.Parts.{word_at, mark_at, name_at, symbol_at, text_at, piece_at, whole_at, id_at, number_at}
use Rattle.dbc_reader.specs.inner.Parts.{decimal_at, int_at, begins_int}
use Rattle.dbc_reader.proofs.Sound.{all_then_twice}
use Rattle.dbc_read.proofs.Takes.{Takes, Anything, Opens, takes_one, alone}

-- ---- tests of tokens

pub is_the_word : (word : List ℕ) (t : Token) → t.bytes ≡ word → has_word word t ≡ true
unfolding has_word
is_the_word word t e = (bytes_eq-Decides t.bytes word).1 e

pub is_the_mark : (mark : ℕ) (t : Token) → t.bytes ≡ mark ∷ [] → has_mark mark t ≡ true
unfolding has_mark
is_the_mark mark t e = (bytes_eq-Decides t.bytes (mark ∷ [])).1 e

no_bytes : (a b : List ℕ) → (a ≡ b → ⊥) → bytes_eq a b ≡ false
no_bytes a b differ = elim (cases_Bool (bytes_eq a b)) [
  | inr other ↦ other
  | inl same ↦ absurd (differ ((bytes_eq-Decides a b).0 same))
]

-- a number is no mark
pub number_is_no_mark : (mark : ℕ) (t : Token) → is_number (mark ∷ []) ≡ false → IsTrue (is_number t.bytes)
    → has_mark mark t ≡ false
unfolding has_mark
number_is_no_mark mark t none is = no_bytes t.bytes (mark ∷ []) (λ same. let both : true ≡ false = sym is ∙ ap is_number same
    ∙ none in absurd cc)

-- ---- one token

where_true-is : {A : Type 0} (b : Bool) (x : A) → b ≡ true → where_true b x ≡ Ok x
where_true-is b x e = rw e refl

pub word_takes : (word : List ℕ) → Takes (word_at word) tt (Is (Word word) ∷ []) Anything
unfolding word_at
word_takes word = takes_one _ tt (λ bytes. bytes ≡ word) (λ t e. where_true-is (has_word word t) tt (is_the_word word t e))
    (Is (Word word)) (λ tokens means. means)

pub mark_takes : (mark : ℕ) → Takes (mark_at mark) tt (Is (Mark mark) ∷ []) Anything
unfolding mark_at
mark_takes mark = takes_one _ tt (λ bytes. bytes ≡ mark ∷ []) (λ t e. where_true-is (has_mark mark t) tt (is_the_mark mark t e))
    (Is (Mark mark)) (λ tokens means. means)

by_bytes : (test : List ℕ → Bool) (bytes a : List ℕ) → bytes ≡ a → test a ≡ true → where_true (test bytes) bytes ≡ Ok a
by_bytes test bytes a same is = ap (λ (b : List ℕ). where_true (test b) b) same ∙ where_true-is (test a) a is

pub name_takes : (name : List ℕ) → Takes name_at name (Is (Name name) ∷ []) Anything
unfolding name_at
name_takes name = takes_one _ name (λ bytes. (bytes ≡ name) × IsTrue (is_name name)) (λ t e. by_bytes is_name t.bytes name e.0 e.1)
    (Is (Name name)) (λ tokens means. means)

pub symbol_takes : (word : List ℕ) → Takes symbol_at word (Is (Symbol word) ∷ []) Anything
unfolding symbol_at
symbol_takes word = takes_one _ word (λ bytes. (bytes ≡ word) × IsTrue (is_symbol word)) (λ t e. by_bytes is_symbol t.bytes word e.0
    e.1) (Is (Symbol word)) (λ tokens means. means)

pub piece_takes : (bytes : List ℕ) → Takes piece_at bytes (Is (Piece bytes) ∷ []) Anything
unfolding piece_at
piece_takes piece = takes_one _ piece (λ bytes. (bytes ≡ piece) × IsTrue (is_piece piece)) (λ t e. by_bytes is_piece t.bytes piece
    e.0 e.1) (Is (Piece piece)) (λ tokens means. means)

inside_quoted : (text : List ℕ) → inside (quoted text) ≡ text
inside_quoted text = take_at text (quote ∷ []) (length (quoted text) - 2) (omega (arith, length-append text (quote ∷ [])))

pub quoted_is_string : (text : List ℕ) → IsTrue (is_text text) → is_string (quoted text) ≡ true
unfolding is_string
quoted_is_string text is =
    rw (inside_quoted text, is, (bytes_eq-Decides (quoted text) (quoted text)).1 refl) refl

pub text_takes : (text : List ℕ) → Takes text_at text (Is (Text text) ∷ []) Anything
unfolding text_at text_of
text_takes text =
    takes_one _ text (λ bytes. (bytes ≡ quoted text) × IsTrue (is_text text))
    (λ t e. ap (λ (b : List ℕ). where_true (is_string b) (inside b)) e.0 ∙ where_true-is (is_string (quoted text))
    (inside (quoted text)) (quoted_is_string text e.1) ∙ ap (λ (b : List ℕ). Ok b) (inside_quoted text))
    (Is (Text text)) (λ tokens means. means)

-- ---- numbers

pub number_whole : (bytes : List ℕ) (n : ℕ) → n < 2 ^ 64 → SpellsNumber bytes n → whole_of_number bytes ≡ Some (Value n)
unfolding whole_of_number
number_whole bytes n small spells = rw (spells.0, whole_from (mantissa_of bytes) (exponent_of bytes) (Value n) (small, spells.1))
    refl

-- the number is within the bounds of its field, and those are numbers of 64 bits
pub record Within (least most n : ℕ) : Type 0 where
  pub bounds : (nat_le least n && nat_le n most) ≡ true
  pub small : n < 2 ^ 64

pub within : (least most n : ℕ) → least ≤ n → n ≤ most → n < 2 ^ 64 → Within least most n
within least most n low high small = record { bounds = grind (arith, common_steps); small = small }

pub whole_is : (least most n : ℕ) (bytes : List ℕ) → Within least most n → SpellsNumber bytes n → whole_of least most bytes ≡ Ok n
unfolding whole_of
whole_is least most n bytes within spells = rw (number_whole bytes n within.small spells) (rw within.bounds refl)

pub whole_takes : (least most n : ℕ) → Within least most n → Takes (whole_at least most) n (Is (Whole n) ∷ []) Anything
unfolding whole_at
whole_takes least most n within = takes_one _ n (λ bytes. SpellsNumber bytes n) (λ t e. whole_is least most n t.bytes within e)
    (Is (Whole n)) (λ tokens means. means)

pub id_takes : (n : ℕ) → n < 2 ^ 32 → Takes id_at n (Is (Whole n) ∷ []) Anything
unfolding id_at
id_takes n small = whole_takes 0 (2 ^ 32 - 1) n (within 0 (2 ^ 32 - 1) n (omega arith) (omega (arith, small))
    (omega (arith, small)))

pub decimal_from_number : (negative : Bool) (bytes : List ℕ) (d : Decimal) → SpellsDecimal negative bytes d
    → decimal_of_number negative bytes ≡ Some d
unfolding decimal_of_number
decimal_from_number negative bytes d spells = rw (
  spells.form,
  decimal_from negative (mantissa_of bytes) (exponent_of bytes) d
      spells.is,
) refl

decimal_is : (negative : Bool) (bytes : List ℕ) (d : Decimal) → SpellsDecimal negative bytes d → number_of negative bytes ≡ Ok d
unfolding number_of decimal_of_number
decimal_is negative bytes d spells = rw (spells.form, decimal_from negative (mantissa_of bytes) (exponent_of bytes) d spells.is)
    refl

pub unsigned_takes : (d : Decimal) → Takes (number_at false) d (Unsigned d ∷ []) Anything
unfolding number_at
unsigned_takes d = takes_one _ d (λ bytes. SpellsDecimal false bytes d) (λ t e. decimal_is false t.bytes d e) (Unsigned d)
    (λ tokens means. means)

-- ---- numbers with a sign

minus_no_number : is_number (45 ∷ []) ≡ false
unfolding is_number
minus_no_number = refl

plus_no_number : is_number (43 ∷ []) ≡ false
unfolding is_number
plus_no_number = refl

plus_no_minus : (t : Token) → t.bytes ≡ codes "+" → has_mark 45 t ≡ false
unfolding has_mark
plus_no_minus t e = ap (λ (b : List ℕ). bytes_eq b (45 ∷ [])) e

module _ {A : Type 0} (following_minus after_plus : Reader A) (a : A) (AreSo : Bool → List ℕ → Type 0)
    (minus : (t : Token) (cut : Cut) → AreSo true t.bytes → following_minus (t ▸ cut) ≡ Ok (a, cut))
    (plus : (t : Token) (cut : Cut) → AreSo false t.bytes → after_plus (t ▸ cut) ≡ Ok (a, cut))
    (number : (bytes : List ℕ) → AreSo false bytes → IsTrue (is_number bytes)) where
  abbrev signed_at : Reader A
  signed_at = choose (has_mark 45) (mark_at 45 >>= λ _. following_minus) (choose (has_mark 43) (mark_at 43 >>= λ _. after_plus)
      after_plus)

  signed_is : (negative : Bool) (sign rest : List Token) (cut : Cut) → IsSign negative sign → IsOne (AreSo negative) rest
      → signed_at ((sign ++ rest) ▸▸ cut) ≡ Ok (a, cut)
  unfolding starts mark_at token_at
  signed_is true sign rest cut (s, same, minus_is) (t, same_rest, so) =
      rw (same, same_rest) (rw (is_the_mark 45 s minus_is) (minus t cut so))
  signed_is false sign rest cut (inl none) (t, same_rest, so) =
      rw (none, same_rest) (rw (
        number_is_no_mark 45 t minus_no_number (number t.bytes so),
        number_is_no_mark 43 t plus_no_number (number t.bytes so),
      ) (plus t cut so))
  signed_is false sign rest cut (inr (s, same, plus_is)) (t, same_rest, so) =
      rw (same, same_rest) (rw (plus_no_minus s plus_is, is_the_mark 43 s plus_is) (plus t cut so))

  pub takes_signed : (part : Part) → ((tokens : List Token) → Spelled (part ∷ []) tokens → IsSigned AreSo tokens)
      → Takes signed_at a (part ∷ []) Anything
  takes_signed part so = record {
    takes = λ tokens cut spelled may. (let y = so tokens spelled in ap (λ (t : List Token). signed_at (t ▸▸ cut)) y.3
        ∙ signed_is y.0 y.1 y.2 cut y.4 y.5);
  }

number_after : (negative : Bool) (d : Decimal) (t : Token) (cut : Cut) → SpellsDecimal negative t.bytes d
    → number_at negative (t ▸ cut) ≡ Ok (d, cut)
unfolding number_at token_at
number_after negative d t cut e = ap (λ (o : Result Decimal Cause). answered t o cut) (decimal_is negative t.bytes d e)

pub decimal_takes : (d : Decimal) → Takes decimal_at d (Is (Number d) ∷ []) Anything
unfolding decimal_at
decimal_takes d =
    takes_signed (number_at true) (number_at false) d (λ negative bytes. SpellsDecimal negative bytes d) (number_after true d)
    (number_after false d) (λ bytes e. e.form)
    (Is (Number d)) (alone (Is (Number d)))

-- ---- whole numbers with a sign

pub within_ints : (a b : ℤ) → int_le a b ≡ true → a ≤ℤ b
within_ints a b h = grind (arith, ints)

entry_sign : (negative : Bool) (n : ℕ) → entry_fits (signed negative n) ≡ true → Within 0 (cond negative (2 ^ 63) (2 ^ 64 - 1)) n
entry_sign false n fits =
    let bounds = and_parts (int_le (negsuc (2 ^ 63 - 1)) (pos n)) (int_le (pos n) (pos (2 ^ 64 - 1))) fits in
    let most = within_ints (pos n) (pos (2 ^ 64 - 1)) bounds.1 in
    within 0 (2 ^ 64 - 1) n (omega arith) (omega (arith, ints, most)) (omega (arith, ints, most))
entry_sign true n fits =
    let bounds = and_parts (int_le (negsuc (2 ^ 63 - 1)) (neg_ℤ (pos n))) (int_le (neg_ℤ (pos n)) (pos (2 ^ 64 - 1))) fits in
    let least = within_ints (negsuc (2 ^ 63 - 1)) (neg_ℤ (pos n)) bounds.0 in
    within 0 (2 ^ 63) n (omega arith) (omega (arith, ints, least)) (omega (arith, ints, least))

abbrev SpellsInt : ℤ → Bool → List ℕ → Type 0
SpellsInt z negative bytes = (n : ℕ) × SpellsNumber bytes n × (z ≡ signed negative n)

whole_after : (least most : ℕ) (make : ℕ → ℤ) (z : ℤ) (n : ℕ) (t : Token) (cut : Cut) → Within least most n
    → SpellsNumber t.bytes n → z ≡ make n → (whole_at least most >>= λ n. value (make n)) (t ▸ cut) ≡ Ok (z, cut)
unfolding whole_at token_at
whole_after least most make z n t cut within e same =
    ap (λ (o : Result ℕ Cause). and_then (answered t o cut) (λ n. value (make n))) (whole_is least most n t.bytes within e)
    ∙ ap (λ (z : ℤ). value z cut) (sym same)

minus_after : (z : ℤ) (t : Token) (cut : Cut) → IsTrue (entry_fits z) → SpellsInt z true t.bytes
    → (whole_at 0 (2 ^ 63) >>= λ n. value (neg_ℤ (pos n))) (t ▸ cut) ≡ Ok (z, cut)
minus_after z t cut fits (n, e, same) =
    whole_after 0 (2 ^ 63) (λ n. neg_ℤ (pos n)) z n t cut (entry_sign true n (subst (λ (z : ℤ). entry_fits z ≡ true) same fits)) e
    same

plus_after : (z : ℤ) (t : Token) (cut : Cut) → IsTrue (entry_fits z) → SpellsInt z false t.bytes
    → (whole_at 0 (2 ^ 64 - 1) >>= λ n. value (pos n)) (t ▸ cut) ≡ Ok (z, cut)
plus_after z t cut fits (n, e, same) =
    whole_after 0 (2 ^ 64 - 1) (λ n. pos n) z n t cut (entry_sign false n (subst (λ (z : ℤ). entry_fits z ≡ true) same fits)) e
    same

pub int_takes : (z : ℤ) → IsTrue (entry_fits z) → Takes int_at z (Is (Int z) ∷ []) Anything
unfolding int_at
int_takes z fits =
    takes_signed (whole_at 0 (2 ^ 63) >>= λ n. value (neg_ℤ (pos n))) (whole_at 0 (2 ^ 64 - 1) >>= λ n. value (pos n)) z
    (SpellsInt z)
    (λ t cut e. minus_after z t cut fits e) (λ t cut e. plus_after z t cut fits e) (λ bytes e. e.1.0)
    (Is (Int z)) (alone (Is (Int z)))

or_second : (a b c : Bool) → b ≡ true → (a || (b || c)) ≡ true
or_second true b c e = refl
or_second false b c e = rw e refl

or_third : (a b c : Bool) → c ≡ true → (a || (b || c)) ≡ true
or_third true b c e = refl
or_third false true c e = refl
or_third false false c e = e

a_whole : (t : Token) (n : ℕ) → SpellsNumber t.bytes n → n < 2 ^ 64 → has_whole t ≡ true
unfolding has_whole
a_whole t n spells small = rw (number_whole t.bytes n small spells) refl

pub int_opens : {parts : List Part} (z : ℤ) → IsTrue (entry_fits z) → Opens begins_int true (Is (Int z) ∷ parts)
unfolding begins_int starts
int_opens {parts} z fits = record { opens = begins }
  where
    first_is : (negative : Bool) (sign number : List Token) (cut : Cut) → IsSign negative sign → IsOne (SpellsInt z negative) number
        → starts begins_int ((sign ++ number) ▸▸ cut) ≡ true
    first_is true sign number cut (s, same, is) n = rw same (rw (is_the_mark 45 s is) refl)
    first_is false sign number cut (inr (s, same, is)) n =
        rw same (or_second (has_mark 45 s) (has_mark 43 s) (has_whole s) (is_the_mark 43 s is))
    first_is false sign number cut (inl none) (t, same, (n, spells, is)) =
        rw (none, same) (or_third (has_mark 45 t) (has_mark 43 t) (has_whole t)
        (a_whole t n spells (entry_sign false n (subst (λ (z : ℤ). entry_fits z ≡ true) is fits)).small))

    begins : (tokens : List Token) (cut : Cut) → Spelled (Is (Int z) ∷ parts) tokens → starts begins_int (tokens ▸▸ cut) ≡ true
    begins tokens cut (front, rest, same, (negative, sign, number, both, is_sign, is_number), others) =
        ap (λ (t : List Token). starts begins_int (t ▸▸ cut)) (same ∙ ap (λ (t : List Token). t ++ rest) both)
        ∙ ap (starts begins_int) (all_then_twice (sign ++ number) rest cut) ∙ first_is negative sign number (rest ▸▸ cut) is_sign
        is_number
