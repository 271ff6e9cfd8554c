-- The text of a decimal is a number of JSON, and UTF-8.
use Rattle.std.proofs.Common.{◌≡◌, ℕ, zero, suc, ℤ, pos, negsuc, ◌+◌, ◌-◌, ◌^◌, ◌<◌, ◌≤◌, Bool, true, false, cond, ◌==◌, List}
use Rattle.std.proofs.Common.{[], ◌∷◌, ◌++◌, length, take, drop, get_or, Some, None, option_and_then, decimal, refl, sym}
use Rattle.std.proofs.Common.{ap, ◌∙◌, subst, arith}
use Rattle.std.proofs.Common.{append-nil, IsTrue, ◌≤ℤ◌, ◌%◌, ◌/◌, not}
use Rattle.std.proofs.lemmas.Int.{ints}
use Rattle.std.proofs.lemmas.Bool.Decides.{Decides-int_eq}
use Rattle.std.specs.Ordering.{int_eq}
use Rattle.std.proofs.lemmas.Bool.{ne_eqb, le-leb, and_from, and_parts, eqb-true}
use Rattle.std.proofs.lemmas.List.{drop_at, length-append, length-take, length-drop}
use Rattle.std.proofs.lemmas.Fmt.{decimal_is_IsNumeral_wide, decimal_by_steps_wide, IsAscii-from_digits}
use Rattle.std.proofs.lemmas.Str.{IsUtf8-from_ascii, IsAscii-append}
use Rattle.std.proofs.lemmas.Str.Ascii.{IsAscii-nil}
use Rattle.std.specs.Prelude.{codes, nat_le, int_le, ◌&&◌, unsigned_abs}
use Rattle.std.specs.List.{prefix_len}
use Rattle.std.specs.Char.{is_ascii_digit, digit_value}
use Rattle.std.specs.Fmt.{signed_decimal}
use Rattle.std.specs.Str.{IsAscii, IsUtf8}
use Rattle.std.specs.Str.Parse.{AllDigits, IsNumeral}
use Rattle.json.specs.Word.{head, after_digits, after_sign, after_whole, after_fraction, after_exponent, after_number}
use Rattle.json.specs.Print.{IsNumber}
use Rattle.dbc_values.specs.Decimals.{Decimal, IsDecimal, decimal_fits}
use Rattle.dbc_values.proofs.NormalForms.{bounds_of}
use Rattle.dbc_records.specs.Records.{entry_fits}
use Rattle.dbc_records.specs.Layout.{plain_digits, zeros, filled, point_before_last, with_exponent, sign_text, magnitude_text}
use Rattle.dbc_records.specs.Layout.{decimal_text}

-- ---- digits

digit_range : (d : ℕ) → digit_value d < 10 → (48 ≤ d) × (d ≤ 57)
digit_range d h = grind arith

run : (ds r : List ℕ) → AllDigits 10 ds → prefix_len is_ascii_digit r ≡ 0 → prefix_len is_ascii_digit (ds ++ r) ≡ length ds
run [] r h none = none
run (d ∷ ds) r h none =
    let range = digit_range d h.0 in
    ap (λ b. cond b (1 + prefix_len is_ascii_digit (ds ++ r)) 0)
    (and_from _ _ (le-leb 48 d range.0) (le-leb d 57 range.1)) ∙ omega (arith, run ds r h.1 none)

digits_then : (ds r : List ℕ) → AllDigits 10 ds → 0 < length ds → prefix_len is_ascii_digit r ≡ 0
    → after_digits (ds ++ r) ≡ Some r
digits_then ds r h some none =
    ap (λ n. cond (n == 0) None (Some (drop n (ds ++ r)))) (run ds r h none)
    ∙ ap (λ b. cond b None (Some (drop (length ds) (ds ++ r)))) (ne_eqb (length ds) 0 (λ e. omega arith))
    ∙ ap Some (drop_at ds r _ refl)

digits_alone : (ds : List ℕ) → IsNumeral 10 ds → after_digits ds ≡ Some []
digits_alone ds h = ap after_digits (sym (append-nil ds)) ∙ digits_then ds [] h.1 h.0 refl

all_appended : (xs ys : List ℕ) → AllDigits 10 xs → AllDigits 10 ys → AllDigits 10 (xs ++ ys)
all_appended [] ys first second = second
all_appended (x ∷ xs) ys first second = (first.0, all_appended xs ys first.1 second)

all_zeros : (count : ℕ) → AllDigits 10 (zeros count)
all_zeros zero = tt
all_zeros (suc count) = (omega arith, all_zeros count)

all_taken : (k : ℕ) (xs : List ℕ) → AllDigits 10 xs → AllDigits 10 (take k xs)
all_taken zero xs all = tt
all_taken (suc k) [] all = tt
all_taken (suc k) (x ∷ xs) all = (all.0, all_taken k xs all.1)

all_dropped : (k : ℕ) (xs : List ℕ) → AllDigits 10 xs → AllDigits 10 (drop k xs)
all_dropped zero xs all = all
all_dropped (suc k) [] all = tt
all_dropped (suc k) (x ∷ xs) all = all_dropped k xs all.1

-- no zero comes first, except alone
abbrev NoZeroFirst : List ℕ → Type 0
NoZeroFirst ds = (rest : List ℕ) → ds ≡ 48 ∷ rest → rest ≡ []

-- a zero is one digit, and no other number begins with a zero
abbrev StartsWell : ℕ → List ℕ → Type 0
StartsWell n ds = (0 < length ds) × (n ≡ 0 → length ds ≡ 1) × (1 ≤ n → (rest : List ℕ) → ds ≡ 48 ∷ rest → ⊥)

first_of : (ds r rest : List ℕ) → 0 < length ds → ds ++ r ≡ 48 ∷ rest → ((rest : List ℕ) → ds ≡ 48 ∷ rest → ⊥) → ⊥
first_of [] r rest some is other = absurd (omega (arith, some))
first_of (d ∷ ds) r rest some is other =
    other ds (ap (λ k. k ∷ ds) (let same : d ≡ 48 = ap (λ (xs : List ℕ). get_or xs 0 0) is in same))

starts_well : (n : ℕ) → n < 10 ^ 64 → StartsWell n (decimal n)
starts_well =
    decimal_by_steps_wide StartsWell
    (λ n small. (omega arith, (λ none. refl), (λ some rest is. omega (arith, ap (λ (xs : List ℕ). get_or xs 0 0) is))))
    (λ n ds large front. (
      omega (arith, length_pushed ds (48 + n % 10)),
      (λ none. absurd (omega (arith, none, large))),
      (λ some rest is. first_of ds ((48 + n % 10) ∷ []) rest front.0 is (front.2 (omega (arith, large)))),
    ))
  where
    length_pushed : (ds : List ℕ) (last : ℕ) → length (ds ++ last ∷ []) ≡ length ds + 1
    length_pushed [] last = refl
    length_pushed (d ∷ ds) last = omega (arith, length_pushed ds last)

length_one : (ds rest : List ℕ) → length ds ≡ 1 → ds ≡ 48 ∷ rest → rest ≡ []
length_one ds [] one is = refl
length_one ds (x ∷ rest) one is = absurd (omega (arith, one, ap (λ (xs : List ℕ). length xs) is))

no_zero_first : (n : ℕ) → n < 10 ^ 64 → NoZeroFirst (decimal n)
no_zero_first zero small rest is = length_one (decimal 0) rest ((starts_well 0 small).1 refl) is
no_zero_first (suc n) small rest is = absurd ((starts_well (suc n) small).2 (omega arith) rest is)

-- ---- numbers by their parts

-- what may follow the digits before a point
pub record IsTail (t : List ℕ) : Type 0 where
  pub ends : option_and_then after_exponent (after_fraction t) ≡ Some []
  pub other : prefix_len is_ascii_digit t ≡ 0

nothing_follows : IsTail []
nothing_follows = record { ends = refl; other = refl }

fraction_follows : (ds : List ℕ) → IsNumeral 10 ds → IsTail (46 ∷ ds)
fraction_follows ds h = record { ends = ap (option_and_then after_exponent) (digits_alone ds h); other = refl }

unsigned_sign : (ds : List ℕ) → IsNumeral 10 ds → after_sign ds ≡ ds
unsigned_sign [] h = absurd (omega (arith, h.0))
unsigned_sign (d ∷ ds) h =
    let range = digit_range d h.1.0 in
    rw (ne_eqb d 45 (λ e. omega (arith, range)), ne_eqb d 43 (λ e. omega (arith, range))) refl

exponent_follows : (e : ℤ) → IsNumeral 10 (decimal (unsigned_abs e)) → IsTail (69 ∷ signed_decimal e)
exponent_follows (pos n) h = record {
  ends = ap after_digits (unsigned_sign (decimal n) h) ∙ digits_alone (decimal n) h;
  other = refl;
}
exponent_follows (negsuc n) h = record { ends = digits_alone (decimal (suc n)) h; other = refl }

first_of_whole : (z : Bool) (ds r : List ℕ) (d : ℕ) → (z ≡ true → ds ≡ []) → after_digits (d ∷ ds ++ r) ≡ Some r
    → cond z (Some (ds ++ r)) (after_digits (d ∷ ds ++ r)) ≡ Some r
first_of_whole true ds r d alone more = ap (λ rest. Some (rest ++ r)) (alone refl)
first_of_whole false ds r d alone more = more

whole_then : (w r : List ℕ) → IsNumeral 10 w → NoZeroFirst w → prefix_len is_ascii_digit r ≡ 0
    → (after_whole (w ++ r) ≡ Some r) × ((head (w ++ r) == 45) ≡ false)
whole_then [] r h first none = absurd (omega (arith, h.0))
whole_then (d ∷ ds) r h first none = (
  first_of_whole (d == 48) ds r d (λ e. first ds (ap (λ x. x ∷ ds) (eqb-true d 48 e))) (digits_then (d ∷ ds) r h.1 h.0 none),
  ne_eqb d 45 (λ e. omega (arith, digit_range d h.1.0)),
)

unsigned_parts : (w t : List ℕ) → IsNumeral 10 w → NoZeroFirst w → IsTail t
    → (option_and_then after_exponent (option_and_then after_fraction (after_whole (w ++ t))) ≡ Some [])
    × ((head (w ++ t) == 45) ≡ false)
unsigned_parts w t whole first tail =
    let front = whole_then w t whole first tail.other in
    (ap (λ o. option_and_then after_exponent (option_and_then after_fraction o)) front.0 ∙ tail.ends, front.1)

-- perhaps a sign, digits, and what may follow them
number_of_parts : (negative : Bool) (w t : List ℕ) → IsNumeral 10 w → NoZeroFirst w → IsTail t
    → IsNumber (sign_text negative ++ (w ++ t))
unfolding after_number sign_text
number_of_parts true w t whole first tail = (unsigned_parts w t whole first tail).0
number_of_parts false w t whole first tail =
    let u = unsigned_parts w t whole first tail in
    ap (λ b. option_and_then after_exponent (option_and_then after_fraction
    (after_whole (cond b (drop 1 (w ++ t)) (w ++ t))))) u.1 ∙ u.0

-- ---- decimals

length_zeros : (count : ℕ) → length (zeros count) ≡ count
length_zeros zero = refl
length_zeros (suc count) = omega (arith, length_zeros count)

zeros_after : (m count : ℕ) → m < 10 ^ 64 → (m ≡ 0 → count ≡ 0) → NoZeroFirst (decimal m ++ zeros count)
zeros_after zero count small none rest is =
    length_one (decimal 0 ++ zeros count) rest
    (length-append (decimal 0) (zeros count) ∙ omega (arith, (starts_well 0 small).1 refl, length_zeros count, none refl)) is
zeros_after (suc m) count small none rest is =
    let well = starts_well (suc m) small in
    absurd (first_of (decimal (suc m)) (zeros count) rest well.0 is (well.2 (omega arith)))

some_digits : (m : ℕ) → m < 10 ^ 64 → IsNumeral 10 (decimal m)
some_digits m small = (decimal_is_IsNumeral_wide m small).0

whole_digits : (m count : ℕ) → m < 10 ^ 64 → IsNumeral 10 (decimal m ++ zeros count)
whole_digits m count small = (
  omega (arith, (some_digits m small).0, length-append (decimal m) (zeros count)),
  all_appended (decimal m) (zeros count) (some_digits m small).1 (all_zeros count),
)

front_first : (ds rest : List ℕ) (k : ℕ) → ((rest : List ℕ) → ds ≡ 48 ∷ rest → ⊥) → take k ds ≡ 48 ∷ rest → ⊥
front_first ds rest zero other is = absurd (omega (arith, ap (λ (xs : List ℕ). length xs) is))
front_first [] rest (suc k) other is = absurd (omega (arith, ap (λ (xs : List ℕ). length xs) is))
front_first (d ∷ ds) rest (suc k) other is =
    other ds (ap (λ k. k ∷ ds) (let same : d ≡ 48 = ap (λ (xs : List ℕ). get_or xs 0 0) is in same))

module _ (m after : ℕ) (small : m < 10 ^ 64) (some : 1 ≤ m) where
  abbrev digits : List ℕ
  digits = decimal m

  abbrev before : ℕ → ℕ
  before z = length (zeros z ++ digits) - after

  length_filled : (z : ℕ) → length (zeros z ++ digits) ≡ z + length digits
  length_filled z = length-append (zeros z) digits ∙ omega (arith, length_zeros z)

  all_filled : (z : ℕ) → AllDigits 10 (zeros z ++ digits)
  all_filled z = all_appended (zeros z) digits (all_zeros z) (some_digits m small).1

  first_filled : (z : ℕ) → z ≡ after + 1 - length digits → NoZeroFirst (take (before z) (zeros z ++ digits))
  first_filled zero is rest first = absurd (front_first digits rest (before 0) ((starts_well m small).2 some) first)
  first_filled (suc z) is rest first =
      length_one (take (before (suc z)) (zeros (suc z) ++ digits)) rest
      (omega (arith, length-take (before (suc z)) (zeros (suc z) ++ digits), length_filled (suc z), is)) first

  numeral_before : (z : ℕ) → z ≡ after + 1 - length digits → IsNumeral 10 (take (before z) (zeros z ++ digits))
  numeral_before z is = (
    omega (arith, length-take (before z) (zeros z ++ digits), length_filled z, is),
    all_taken (before z) (zeros z ++ digits) (all_filled z),
  )

  numeral_after : (z : ℕ) → z ≡ after + 1 - length digits → 1 ≤ after → IsNumeral 10 (drop (before z) (zeros z ++ digits))
  numeral_after z is many = (
    omega (arith, length-drop (before z) (zeros z ++ digits), length_filled z, is, many),
    all_dropped (before z) (zeros z ++ digits) (all_filled z),
  )

-- sign, digits, and what follows them
pub record HasParts (text : List ℕ) : Type 0 where
  pub negative : Bool
  pub whole : List ℕ
  pub tail : List ℕ
  pub is : text ≡ sign_text negative ++ (whole ++ tail)
  pub digits : IsNumeral 10 whole
  pub first : NoZeroFirst whole
  pub follows : IsTail tail
  pub ascii : IsAscii tail

ascii_then : (b : ℕ) (bs : List ℕ) → b < 128 → IsAscii bs → IsAscii (b ∷ bs)
ascii_then b bs below rest = IsAscii-append (b ∷ []) bs one rest
  where
    one : IsAscii (b ∷ [])
    one zero = below
    one (suc i) = omega arith

ascii_signed : (e : ℤ) → IsNumeral 10 (decimal (unsigned_abs e)) → IsAscii (signed_decimal e)
ascii_signed (pos n) h = IsAscii-from_digits (decimal n) h.1
ascii_signed (negsuc n) h = ascii_then 45 (decimal (suc n)) (omega arith) (IsAscii-from_digits (decimal (suc n)) h.1)

pub number_by_parts : (text : List ℕ) → HasParts text → IsNumber text
number_by_parts text parts =
    subst IsNumber (sym parts.is) (number_of_parts parts.negative parts.whole parts.tail parts.digits parts.first parts.follows)

pub utf8_by_parts : (text : List ℕ) → HasParts text → IsUtf8 text
unfolding sign_text
utf8_by_parts text parts =
    subst IsUtf8 (sym parts.is)
    (IsUtf8-from_ascii (sign_text parts.negative ++ (parts.whole ++ parts.tail))
    (IsAscii-append (sign_text parts.negative) (parts.whole ++ parts.tail) (sign parts.negative)
    (IsAscii-append parts.whole parts.tail (IsAscii-from_digits parts.whole parts.digits.1) parts.ascii)))
  where
    sign : (negative : Bool) → IsAscii (sign_text negative)
    sign true = ascii_then 45 [] (omega arith) IsAscii-nil
    sign false = IsAscii-nil

module _ (negative : Bool) (m : ℕ) (small : m < 10 ^ 64) where
  plain_parts : (count : ℕ) → (m ≡ 0 → count ≡ 0) → HasParts (sign_text negative ++ (decimal m ++ zeros count))
  plain_parts count none = record {
    negative = negative;
    whole = decimal m ++ zeros count;
    tail = [];
    is = ap (λ text. sign_text negative ++ text) (sym (append-nil (decimal m ++ zeros count)));
    digits = whole_digits m count small;
    first = zeros_after m count small none;
    follows = nothing_follows;
    ascii = IsAscii-nil;
  }

  exponent_parts : (e : ℤ) → IsNumeral 10 (decimal (unsigned_abs e)) → HasParts (sign_text negative ++ with_exponent (decimal m) e)
  exponent_parts e h = record {
    negative = negative;
    whole = decimal m;
    tail = 69 ∷ signed_decimal e;
    is = refl;
    digits = some_digits m small;
    first = no_zero_first m small;
    follows = exponent_follows e h;
    ascii = ascii_then 69 (signed_decimal e) (omega arith) (ascii_signed e h);
  }

  point_parts : (n : ℕ) → 1 ≤ m → HasParts (sign_text negative ++ point_before_last (suc n) (filled (suc n) (decimal m)))
  point_parts n some =
      let z = suc n + 1 - length (decimal m) in
      let after = drop (before m (suc n) small some z) (zeros z ++ decimal m) in
      let fraction = numeral_after m (suc n) small some z refl (omega arith) in
      record {
        negative = negative;
        whole = take (before m (suc n) small some z) (zeros z ++ decimal m);
        tail = 46 ∷ after;
        is = refl;
        digits = numeral_before m (suc n) small some z refl;
        first = first_filled m (suc n) small some z refl;
        follows = fraction_follows after fraction;
        ascii = ascii_then 46 after (omega arith) (IsAscii-from_digits after fraction.1);
      }

  either : (b : Bool) (x y : List ℕ) → HasParts (sign_text negative ++ x) → HasParts (sign_text negative ++ y)
      → HasParts (sign_text negative ++ cond b x y)
  either true x y first second = first
  either false x y first second = second

  magnitude_parts : (e : ℤ) → unsigned_abs e < 10 ^ 64 → (m ≡ 0 → e ≡ pos 0)
      → HasParts (sign_text negative ++ magnitude_text (decimal m) e)
  unfolding magnitude_text
  magnitude_parts (pos count) low none =
      either (nat_le (length (decimal m) + count) plain_digits) (decimal m ++ zeros count) (with_exponent (decimal m) (pos count))
      (plain_parts count (λ is. omega (arith, ap unsigned_abs (none is)))) (exponent_parts (pos count) (some_digits count low))
  magnitude_parts (negsuc n) low none =
      either (nat_le (suc n) plain_digits && nat_le (length (decimal m)) (plain_digits + suc n))
      (point_before_last (suc n) (filled (suc n) (decimal m))) (with_exponent (decimal m) (negsuc n))
      (point_parts n (by m none)) (exponent_parts (negsuc n) (some_digits (suc n) low))
    where
      by : (m : ℕ) → (m ≡ 0 → negsuc n ≡ pos 0) → 1 ≤ m
      by zero none = absurd (omega (arith, ap unsigned_abs (none refl)))
      by (suc m) none = omega arith

-- the bounds of a decimal
abbrev HasBounds : ℕ → ℤ → Type 0
HasBounds m e = (m < 10 ^ 64) × (unsigned_abs e < 10 ^ 64) × (m ≡ 0 → e ≡ pos 0)

decimal_parts : (d : Decimal) → HasBounds d.mantissa d.exponent → HasParts (decimal_text d)
unfolding decimal_text
decimal_parts d bounds = magnitude_parts d.negative d.mantissa bounds.0 d.exponent bounds.1 bounds.2

zero_exponent : (negative : Bool) (e : ℤ) → IsTrue (decimal_fits negative 0 e) → e ≡ pos 0
unfolding decimal_fits
zero_exponent negative e fits = (Decides-int_eq e (pos 0)).0 (and_parts (not negative) (int_eq e (pos 0)) fits).1

has_bounds : (negative : Bool) (m : ℕ) (e : ℤ) → IsTrue (decimal_fits negative m e) → HasBounds m e
has_bounds negative zero e fits =
    let none : e ≡ pos 0 = zero_exponent negative e fits in
    (omega arith, subst (λ e. unsigned_abs e < 10 ^ 64) (sym none) (omega arith), (λ is. none))
has_bounds negative (suc m) e fits =
    let bounds = bounds_of negative (suc m) e (λ is. omega (arith, is)) fits in
    (omega (arith, bounds.digits), small e bounds.least bounds.greatest, (λ is. absurd (omega (arith, is))))
  where
    small : (e : ℤ) → negsuc 399 ≤ℤ e → e ≤ℤ pos 400 → unsigned_abs e < 10 ^ 64
    small (pos n) least greatest = omega (arith, ints, greatest)
    small (negsuc n) least greatest = omega (arith, ints, least)

pub decimal_is_number : (d : Decimal) → IsDecimal d → IsNumber (decimal_text d)
decimal_is_number d is =
    number_by_parts (decimal_text d) (decimal_parts d (has_bounds d.negative d.mantissa d.exponent is.fits))

pub decimal_is_utf8 : (d : Decimal) → IsDecimal d → IsUtf8 (decimal_text d)
decimal_is_utf8 d is = utf8_by_parts (decimal_text d) (decimal_parts d (has_bounds d.negative d.mantissa d.exponent is.fits))

-- ---- whole numbers

pub whole_is_number : (n : ℕ) → n < 10 ^ 64 → IsNumber (decimal n)
unfolding sign_text
whole_is_number n small = number_by_parts (decimal n) (record {
  negative = false;
  whole = decimal n;
  tail = [];
  is = sym (append-nil (decimal n));
  digits = some_digits n small;
  first = no_zero_first n small;
  follows = nothing_follows;
  ascii = IsAscii-nil;
})

pub signed_is_number : (z : ℤ) → unsigned_abs z < 10 ^ 64 → IsNumber (signed_decimal z)
unfolding sign_text
signed_is_number (pos n) small = whole_is_number n small
signed_is_number (negsuc n) small = number_by_parts (signed_decimal (negsuc n)) (record {
  negative = true;
  whole = decimal (suc n);
  tail = [];
  is = ap (λ text. 45 ∷ text) (sym (append-nil (decimal (suc n))));
  digits = some_digits (suc n) small;
  first = no_zero_first (suc n) small;
  follows = nothing_follows;
  ascii = IsAscii-nil;
})

entry_small : (z : ℤ) → IsTrue (entry_fits z) → unsigned_abs z < 10 ^ 64
entry_small z fits =
    let parts = and_parts (int_le (negsuc (2 ^ 63 - 1)) z) (int_le z (pos (2 ^ 64 - 1))) fits in
    within z parts.0 parts.1
  where
    within : (z : ℤ) → int_le (negsuc (2 ^ 63 - 1)) z ≡ true → int_le z (pos (2 ^ 64 - 1)) ≡ true → unsigned_abs z < 10 ^ 64
    within z least greatest = grind (arith, ints, least, greatest)

pub entry_is_number : (z : ℤ) → IsTrue (entry_fits z) → IsNumber (signed_decimal z)
entry_is_number z fits = signed_is_number z (entry_small z fits)
