-- What each part's reader reads is proper.
use Rattle.std.proofs.Common.{◌≡◌, ℕ, ℤ, pos, neg_ℤ, ◌<◌, ◌^◌, ◌-◌, zero, suc, Bool, true, false, cond, ◌&&◌, not, List, [], ◌∷◌}
use Rattle.std.proofs.Common.{All, length, Option, Some, None, Ok, Err, refl, subst, arith, inl, inr}
use Rattle.std.specs.Prelude.{nat_le, IsTrue}
use Rattle.std.specs.Ordering.{int_eq}
use Rattle.std.proofs.lemmas.List.Elements.{All-nil, All-push}
use Rattle.std.specs.Str.{bytes_eq}
use Rattle.std.proofs.lemmas.Bool.{and_parts, eq-eqb, not-true}
use Rattle.std.proofs.lemmas.Int.{ints}
use Rattle.dbc_values.specs.Lexical.{quoted, is_text, is_name}
use Rattle.dbc_values.specs.Numbers.{mantissa_of, exponent_of, whole_of_number}
use Rattle.dbc_values.specs.Decimals.{Decimal, IsDecimal, IsDecimalOf, decimal_fits}
use Rattle.dbc_values.specs.Names.{IsName, IsText, IsSymbol, is_symbol}
use Rattle.dbc_records.specs.Records.{IsNumber, IsEntry, entry_fits}
use Rattle.dbc_values.specs.Pieces.{IsPiece, is_piece, is_string, inside}
use Rattle.dbc_values.specs.declared.number.Whole.{Whole as WholeNumber}
use Rattle.dbc_values.specs.declared.number.Whole.TheVariants.{Fraction, TooLarge, Value}
use Rattle.dbc_tokens.specs.declared.fault.Cause.TheVariants as causes
use Rattle.dbc_reader.specs.Classes.{where_true, bounded, text_of, whole_of}
use Rattle.dbc_reader.specs.inner.Parts.{name_at, symbol_at, text_at, piece_at, whole_at, id_at, number_at, decimal_at, int_at}
use Rattle.dbc_reader.specs.inner.Parts.{pair_at, names_from, symbols_from, pieces_from, receivers_from, receivers_at, texts_from}
use Rattle.dbc_reader.specs.inner.Parts.{entry_at, entries_from}
use Rattle.dbc_reader.proofs.Rounds.Lists.{some_texts}
use Rattle.dbc_reader.proofs.Sound.Kinds.{number_spelled_by}
use Rattle.dbc_reader.proofs.Yields.{Yields, Both, yields_both, yields_one, yields_then, yields_after, yields_value, yields_as}
use Rattle.dbc_reader.proofs.Yields.{yields_choose, yields_repeated, yields_more}

-- ---- one token

where_true_ok : {A : Type 0} (b : Bool) (x a : A) → where_true b x ≡ Ok a → (b ≡ true) × (x ≡ a)
where_true_ok true x a e = (refl, cc)
where_true_ok false x a e = absurd cc

pub name_proper : Yields name_at IsName
unfolding name_at
name_proper = yields_one _ IsName (λ t a e. (let ok = where_true_ok (is_name t.bytes) t.bytes a e in
    subst (λ bytes. is_name bytes ≡ true) ok.1 ok.0))

pub symbol_proper : Yields symbol_at IsSymbol
unfolding symbol_at
symbol_proper = yields_one _ IsSymbol (λ t a e. (let ok = where_true_ok (is_symbol t.bytes) t.bytes a e in
    subst (λ bytes. is_symbol bytes ≡ true) ok.1 ok.0))

pub piece_proper : Yields piece_at IsPiece
unfolding piece_at
piece_proper = yields_one _ IsPiece (λ t a e. (let ok = where_true_ok (is_piece t.bytes) t.bytes a e in
    subst (λ bytes. is_piece bytes ≡ true) ok.1 ok.0))

inside_text : (bytes text : List ℕ) → is_string bytes ≡ true → inside bytes ≡ text → is_text text ≡ true
unfolding is_string
inside_text bytes text e is = subst (λ (t : List ℕ). is_text t ≡ true) is (and_parts (bytes_eq bytes (quoted (inside bytes)))
    (is_text (inside bytes)) e).1

pub text_proper : Yields text_at IsText
unfolding text_at text_of
text_proper = yields_one _ IsText (λ t a e. (let ok = where_true_ok (is_string t.bytes) (inside t.bytes) a e in
    inside_text t.bytes a ok.0 ok.1))

-- ---- whole numbers

pub record Between (least most n : ℕ) : Type 0 where
  pub low : nat_le least n ≡ true
  pub high : nat_le n most ≡ true

within_ok : (least most n m : ℕ) (b : Bool) → (nat_le least n && nat_le n most) ≡ b → cond b (Ok n) (Err causes.Limit) ≡ Ok m
    → Between least most m
within_ok least most n m true is e =
    let same : n ≡ m = cc in
    let parts = and_parts (nat_le least n) (nat_le n most) is in
    subst (λ k. Between least most k) same (record { low = parts.0; high = parts.1 })
within_ok least most n m false is e = absurd cc

pub bounded_between : (least most : ℕ) (o : Option WholeNumber) (n : ℕ) → bounded least most o ≡ Ok n → Between least most n
bounded_between least most None n e = absurd cc
bounded_between least most (Some Fraction) n e = absurd cc
bounded_between least most (Some TooLarge) n e = absurd cc
bounded_between least most (Some (Value m)) n e = within_ok least most m n (nat_le least m && nat_le m most) refl e

pub whole_proper : (least most : ℕ) → Yields (whole_at least most) (λ n. Between least most n)
unfolding whole_at whole_of
whole_proper least most = yields_one _ (λ n. Between least most n) (λ t n e. bounded_between least most (whole_of_number t.bytes)
    n e)

pub below_32 : (n : ℕ) → Between 0 (2 ^ 32 - 1) n → n < 2 ^ 32
below_32 n h = let high = h.high in grind (arith, high)

pub below_64 : (n : ℕ) → Between 0 (2 ^ 64 - 1) n → n < 2 ^ 64
below_64 n h = let high = h.high in grind (arith, high)

pub below_16 : (n : ℕ) → Between 0 65535 n → n < 2 ^ 16
below_16 n h = let high = h.high in grind (arith, high)

pub id_proper : Yields id_at IsNumber
unfolding id_at
id_proper = yields_as (whole_proper 0 (2 ^ 32 - 1)) below_32

-- ---- decimals

pub number_proper : (negative : Bool) → Yields (number_at negative) IsDecimal
unfolding number_at
number_proper negative = yields_one _ IsDecimal (λ t d e. record { fits = (number_spelled_by negative t d e).is.fits })

pub decimal_proper : Yields decimal_at IsDecimal
unfolding decimal_at
decimal_proper = yields_choose _ (yields_after _ λ _. number_proper true) (yields_choose _ (yields_after _ λ _. number_proper false)
    (number_proper false))

pub record AreDecimals (pair : Decimal × Decimal) : Type 0 where
  pub first : IsDecimal pair.0
  pub second : IsDecimal pair.1

pub pair_proper : (opening between closing : ℕ) → Yields (pair_at opening between closing) (λ pair. AreDecimals pair)
unfolding pair_at
pair_proper opening between closing =
    yields_after _ λ _. yields_then decimal_proper λ first is_first. yields_after _ λ _. yields_then decimal_proper λ second
    is_second. yields_after _ λ _.
    yields_value (record { first = is_first; second = is_second })

-- a number without a sign
pub record IsUnsigned (d : Decimal) : Type 0 where
  pub decimal : IsDecimal d
  pub positive : d.negative ≡ false

of_zero : (negative : Bool) (mantissa : ℕ) (exponent : ℤ) → mantissa ≡ 0 → IsTrue (decimal_fits negative mantissa exponent)
    → negative ≡ false
unfolding decimal_fits
of_zero negative mantissa exponent none fits =
    let parts : (not negative && int_eq exponent (pos 0)) ≡ true = rw (eq-eqb mantissa 0 none) at fits in
    not-true negative (and_parts (not negative) (int_eq exponent (pos 0)) parts).0

not_negative : (m : ℕ) (e : ℤ) (d : Decimal) → IsDecimalOf false m e d → d.negative ≡ false
not_negative m e d is = elim is.value [
  | inl none ↦ of_zero d.negative d.mantissa d.exponent none.1 is.fits
  | inr some ↦ some.3
]

pub unsigned_proper : Yields (number_at false) (λ d. IsUnsigned d)
unfolding number_at
unsigned_proper =
    yields_one _ (λ d. IsUnsigned d)
    (λ t d e. (let spells = number_spelled_by false t d e in record {
      decimal = record { fits = spells.is.fits };
      positive = not_negative (mantissa_of t.bytes) (exponent_of t.bytes) d spells.is;
    }))

-- ---- whole numbers with a sign

minus_fits : (n : ℕ) → Between 0 (2 ^ 63) n → IsTrue (entry_fits (neg_ℤ (pos n)))
minus_fits zero h = refl
minus_fits (suc n) h = let high = h.high in grind (arith, ints, high)

plus_fits : (n : ℕ) → Between 0 (2 ^ 64 - 1) n → IsTrue (entry_fits (pos n))
plus_fits n h = let high = h.high in grind (arith, ints, high)

pub int_proper : Yields int_at (λ z. IsTrue (entry_fits z))
unfolding int_at
int_proper =
    yields_choose _ (yields_after _ λ _. yields_then (whole_proper 0 (2 ^ 63)) λ n is. yields_value (minus_fits n is))
    (yields_choose _ (yields_after _ λ _. yields_then (whole_proper 0 (2 ^ 64 - 1)) λ n is. yields_value (plus_fits n is))
    (yields_then (whole_proper 0 (2 ^ 64 - 1)) λ n is. yields_value (plus_fits n is)))

-- ---- lists

pub names_proper : (names : List (List ℕ)) → All IsName names → Yields (names_from names) (All IsName)
unfolding names_from
names_proper names all = yields_repeated (All IsName) _ _ (yields_more name_proper) names all

pub symbols_proper : (symbols : List (List ℕ)) → All IsSymbol symbols → Yields (symbols_from symbols) (All IsSymbol)
unfolding symbols_from
symbols_proper symbols all = yields_repeated (All IsSymbol) _ _ (yields_more symbol_proper) symbols all

pub pieces_proper : Yields (pieces_from []) (All IsPiece)
unfolding pieces_from
pieces_proper = yields_repeated (All IsPiece) _ _ (yields_more piece_proper) [] (All-nil IsPiece)

pub receivers_proper : Yields receivers_at (All IsName)
unfolding receivers_at receivers_from
receivers_proper =
    yields_choose _ (yields_then name_proper λ name is. yields_repeated (All IsName) _ _ (λ names all. yields_after _ λ _.
    yields_more name_proper names all) (name ∷ []) (All-push IsName [] name (All-nil IsName) is))
    (yields_value (All-nil IsName))

pub texts_proper : (first : List ℕ) → IsText first
    → Yields (texts_from (first ∷ [])) (Both (All IsText) (λ texts. IsTrue (nat_le 1 (length texts))))
unfolding texts_from
texts_proper first is =
    yields_both (yields_repeated (All IsText) _ _ (λ texts all. yields_after _ λ _. yields_more text_proper texts all) (first ∷ [])
    (All-push IsText [] first (All-nil IsText) is))
    (record { holds = λ cut x e. some_texts first x.0 cut x.1 e })

entry_proper : Yields entry_at (λ entry. IsEntry entry)
unfolding entry_at
entry_proper = yields_then int_proper λ z fits. yields_then text_proper λ text is. yields_value (record { fits = fits; text = is })

pub entries_proper : Yields (entries_from []) (All IsEntry)
unfolding entries_from
entries_proper = yields_repeated (All IsEntry) _ _ (yields_more entry_proper) [] (All-nil IsEntry)
