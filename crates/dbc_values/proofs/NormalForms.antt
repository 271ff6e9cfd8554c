-- A number has one normal form, and it exists if the digits and the exponent are within the bounds.
use Rattle.std.proofs.Common.{List, MatchOption, ◌≡◌, ◌≢◌, ℕ, ℤ, pos, negsuc, zero, suc, ◌+◌, ◌*◌, ◌^◌, ◌/◌, ◌%◌, ◌<◌, ◌≤◌, ◌+ℤ◌}
use Rattle.std.proofs.Common.{◌-ℤ◌, ◌≤ℤ◌, inl, inr, nat_lt, Option, Some, None, refl, sym, ap, subst, ◌∙◌, arith, true, false, Bool}
use Rattle.std.proofs.Common.{IsTrue, not, ◌&&◌, eqb}
use Rattle.std.specs.Prelude.{int_le}
use Rattle.std.specs.Ordering.{int_eq}
use Rattle.std.proofs.Math.Nat.{zero-mul}
use Rattle.std.proofs.lemmas.Bool.{and_parts, and_from, eqb-false, ne_eqb, eq-eqb, ltb-true, lt-ltb, not-true, cases_eq, cases_Bool}
use Rattle.std.proofs.lemmas.Bool.Decides.{Decides-int_eq}
use Rattle.std.proofs.lemmas.Int.{ints}
use Rattle.std.proofs.lemmas.Nat.{div-add-mod'}
use Rattle.dbc_values.specs.Decimals.{Decimal, decimal_fits, IsDecimalOf, without_zeros, where_fits, decimal_of, decimal_of_number}
use Rattle.dbc_values.specs.Decimals.{SpellsDecimal}
use Rattle.dbc_values.specs.Lexical.{is_number}
use Rattle.dbc_values.specs.Numbers.{IsReduced, OccursFor, mantissa_of, exponent_of}
use Rattle.dbc_values.proofs.Powers.{one_way, SameTens, at_least_itself, tens_more, tens_none}
use Rattle.dbc_values.proofs.Digits.{kept_is, kept_small, dropped_is}

-- the bounds of a decimal that is not zero
pub record WithinBounds (mantissa : ℕ) (exponent : ℤ) : Type 0 where
  pub digits : mantissa < 10 ^ 36
  pub last : mantissa % 10 ≢ 0
  pub least : (pos 0 -ℤ pos 400) ≤ℤ exponent
  pub greatest : exponent ≤ℤ pos 400

int_le-true : (a b : ℤ) → int_le a b ≡ true → a ≤ℤ b
int_le-true a b h = grind (arith, ints)

le-int_le : (a b : ℤ) → a ≤ℤ b → int_le a b ≡ true
le-int_le a b h = grind (arith, ints)

pub bounds_of : (negative : Bool) (mantissa : ℕ) (exponent : ℤ) → mantissa ≢ 0 → IsTrue (decimal_fits negative mantissa exponent)
    → WithinBounds mantissa exponent
unfolding decimal_fits
bounds_of negative mantissa exponent some fits =
    let within : (nat_lt mantissa (10 ^ 36) && not (eqb (mantissa % 10) 0) && int_le (negsuc 399) exponent && int_le exponent
    (pos 400)) ≡ true = rw (ne_eqb mantissa 0 some) at fits in
    let a = and_parts (nat_lt mantissa (10 ^ 36) && not (eqb (mantissa % 10) 0) && int_le (negsuc 399) exponent)
    (int_le exponent (pos 400)) within in
    let b = and_parts (nat_lt mantissa (10 ^ 36) && not (eqb (mantissa % 10) 0)) (int_le (negsuc 399) exponent) a.0 in
    let d = and_parts (nat_lt mantissa (10 ^ 36)) (not (eqb (mantissa % 10) 0)) b.0 in
    record {
      digits = ltb-true mantissa (10 ^ 36) d.0;
      last = eqb-false (mantissa % 10) 0 (not-true (eqb (mantissa % 10) 0) d.1);
      least = omega (arith, ints, int_le-true (negsuc 399) exponent b.1);
      greatest = int_le-true exponent (pos 400) a.1;
    }

pub fits_within : (negative : Bool) (mantissa : ℕ) (exponent : ℤ) → WithinBounds mantissa exponent
    → IsTrue (decimal_fits negative mantissa exponent)
unfolding decimal_fits
fits_within negative mantissa exponent w =
    let some : mantissa ≢ 0 = λ at_zero. w.last (ap (λ (n : ℕ). n % 10) at_zero) in
    rw (ne_eqb mantissa 0 some)
    (and_from (nat_lt mantissa (10 ^ 36) && not (eqb (mantissa % 10) 0) && int_le (negsuc 399) exponent) (int_le exponent (pos 400))
    (and_from (nat_lt mantissa (10 ^ 36) && not (eqb (mantissa % 10) 0)) (int_le (negsuc 399) exponent)
    (and_from (nat_lt mantissa (10 ^ 36)) (not (eqb (mantissa % 10) 0)) (lt-ltb mantissa (10 ^ 36) w.digits)
    (rw (ne_eqb (mantissa % 10) 0 w.last) refl))
    (le-int_le (negsuc 399) exponent (omega (arith, ints, w.least))))
    (le-int_le exponent (pos 400) w.greatest))

-- a decimal of a number of which the digits are known has these, and their exponent and sign
pub record SameParts (negative : Bool) (n : ℕ) (e : ℤ) (d : Decimal) : Type 0 where
  pub mantissa : n ≡ d.mantissa
  pub exponent : d.exponent ≡ e
  pub sign : d.negative ≡ negative
  pub within : WithinBounds n e

nothing : (n z : ℕ) → n * 10 ^ z ≡ 0 → n ≡ 0
nothing n z e = omega (arith, at_least_itself n z)

pub same_parts : (negative : Bool) (m n z : ℕ) (e : ℤ) (d : Decimal) → m ≡ n * 10 ^ z → n % 10 ≢ 0 → IsDecimalOf negative m e d
    → SameParts negative n (e +ℤ pos z) d
same_parts negative m n z e d value last is = elim is.value [
  | inl at_zero ↦ absurd (last (ap (λ (i : ℕ). i % 10) (nothing n z (sym value ∙ at_zero.0))))
  | inr some ↦
      let not_zero : d.mantissa ≢ 0 = λ none.
      let gone : m ≡ 0 = some.1 ∙ ap (λ (i : ℕ). i * 10 ^ some.0) none ∙ zero-mul (10 ^ some.0) in
      last (ap (λ (i : ℕ). i % 10) (nothing n z (sym value ∙ gone))) in
      let bounds = bounds_of d.negative d.mantissa d.exponent not_zero is.fits in
      let same : SameTens n d.mantissa z some.0 = one_way n d.mantissa z some.0 (sym value ∙ some.1) last bounds.last in
      let exponent : d.exponent ≡ (e +ℤ pos z) = some.2 ∙ ap (λ (i : ℕ). e +ℤ pos i) (sym same.zeros) in
      record {
        mantissa = same.number;
        exponent = exponent;
        sign = some.3;
        within = record {
          digits = omega (arith, same.number, bounds.digits);
          last = last;
          least = rw exponent at bounds.least;
          greatest = rw exponent at bounds.greatest;
        };
      }
]

pub no_decimal_long : (negative : Bool) (m : ℕ) (e x : ℤ) (r : IsReduced m e None x) (d : Decimal) → IsDecimalOf negative m e d → ⊥
no_decimal_long negative m e x r d is =
    let long : 10 ^ 36 ≤ r.front.front = dropped_is r.front.front r.front.kept in
    let last : r.front.front % 10 ≢ 0 = λ at_zero. absurd (omega (arith, r.front.last at_zero)) in
    let same = same_parts negative m r.front.front r.zeros e d r.front.value last is in
    absurd (omega (arith, same.within.digits))

-- the last digit is not zero if the digits are not 0
last_of : (m n : ℕ) (e x : ℤ) (r : IsReduced m e (Some n) x) → n ≢ 0 → n % 10 ≢ 0
last_of m n e x r some at_zero =
    let front : n ≡ r.front.front = kept_is n r.front.front r.front.kept in
    some (front ∙ r.front.last (ap (λ (i : ℕ). i % 10) (sym front) ∙ at_zero))

value_of : (m n : ℕ) (e x : ℤ) (r : IsReduced m e (Some n) x) → m ≡ n * 10 ^ r.zeros
value_of m n e x r = r.front.value ∙ ap (λ (i : ℕ). i * 10 ^ r.zeros) (sym (kept_is n r.front.front r.front.kept))

near_is : (e x : ℤ) → OccursFor 1000 e x → (pos 0 -ℤ pos 400) ≤ℤ e → e ≤ℤ pos 400 → x ≡ e
near_is e x (inl same) low high = same
near_is e x (inr (inl above)) low high = absurd (omega (arith, ints, above.1))
near_is e x (inr (inr below)) low high = absurd (omega (arith, ints, below.1))

is_near : (e x : ℤ) → OccursFor 1000 e x → (pos 0 -ℤ pos 400) ≤ℤ x → x ≤ℤ pos 400 → x ≡ e
is_near e x (inl same) low high = same
is_near e x (inr (inl above)) low high = absurd (omega (arith, ints, above.0))
is_near e x (inr (inr below)) low high = absurd (omega (arith, ints, below.0))

pub no_decimal_far : (negative : Bool) (m n : ℕ) (e x : ℤ) (r : IsReduced m e (Some n) x) → n ≢ 0
    → ((pos 0 -ℤ pos 400) ≤ℤ x → x ≤ℤ pos 400 → ⊥) → (d : Decimal) → IsDecimalOf negative m e d → ⊥
no_decimal_far negative m n e x r some far d is =
    let same = same_parts negative m n r.zeros e d (value_of m n e x r) (last_of m n e x r some) is in
    let exponent : x ≡ (e +ℤ pos r.zeros) = near_is (e +ℤ pos r.zeros) x r.power same.within.least same.within.greatest in
    far (omega (arith, ints, same.within.least)) (omega (arith, ints, same.within.greatest))

pub within_bounds : (m n : ℕ) (e x : ℤ) (r : IsReduced m e (Some n) x) → n ≢ 0 → (pos 0 -ℤ pos 400) ≤ℤ x → x ≤ℤ pos 400
    → WithinBounds n x
within_bounds m n e x r some low high = record {
  digits = kept_small n r.front.front r.front.kept;
  last = last_of m n e x r some;
  least = low;
  greatest = high;
}

pub decimal_is : (negative : Bool) (m n : ℕ) (e x : ℤ) (r : IsReduced m e (Some n) x) → n ≢ 0 → (pos 0 -ℤ pos 400) ≤ℤ x
    → x ≤ℤ pos 400
    → IsDecimalOf negative m e (record { negative = negative; mantissa = n; exponent = x })
decimal_is negative m n e x r some low high = record {
  fits = fits_within negative n x (within_bounds m n e x r some low high);
  value = inr (r.zeros, value_of m n e x r, is_near (e +ℤ pos r.zeros) x r.power low high, refl);
}

pub zero_is : (negative : Bool) (m : ℕ) (e x : ℤ) → IsReduced m e (Some 0) x
    → IsDecimalOf negative m e (record { negative = false; mantissa = 0; exponent = pos 0 })
unfolding decimal_fits
zero_is negative m e x r = record { fits = refl; value = inl (value_of m 0 e x r ∙ zero-mul (10 ^ r.zeros), refl) }

-- ---- one decimal

same_decimal : (a b : Decimal) → a.negative ≡ b.negative → a.mantissa ≡ b.mantissa → a.exponent ≡ b.exponent → a ≡ b
same_decimal a b negative mantissa exponent = λ i. record { negative = negative i; mantissa = mantissa i; exponent = exponent i }

record IsZero (d : Decimal) : Type 0 where
  negative : d.negative ≡ false
  mantissa : d.mantissa ≡ 0
  exponent : d.exponent ≡ pos 0

zero_parts : (d : Decimal) → d.mantissa ≡ 0 → IsTrue (decimal_fits d.negative d.mantissa d.exponent) → IsZero d
unfolding decimal_fits
zero_parts d none fits =
    let parts : (not d.negative && int_eq d.exponent (pos 0)) ≡ true = rw (eq-eqb d.mantissa 0 none) at fits in
    let both = and_parts (not d.negative) (int_eq d.exponent (pos 0)) parts in
    record { negative = not-true d.negative both.0; mantissa = none; exponent = (Decides-int_eq d.exponent (pos 0)).0 both.1 }

-- a number is 0 exactly when its decimal is
zero_from : (negative : Bool) (m : ℕ) (e : ℤ) (d : Decimal) → d.mantissa ≡ 0 → IsDecimalOf negative m e d → m ≡ 0
zero_from negative m e d none is = elim is.value [
  | inl at_zero ↦ at_zero.0
  | inr some ↦ some.1 ∙ ap (λ (i : ℕ). i * 10 ^ some.0) none ∙ zero-mul (10 ^ some.0)
]

zero_to : (negative : Bool) (m : ℕ) (e : ℤ) (d : Decimal) → m ≡ 0 → IsDecimalOf negative m e d → IsZero d
zero_to negative m e d none is = elim is.value [
  | inl at_zero ↦ zero_parts d at_zero.1 is.fits
  | inr some ↦ zero_parts d (nothing d.mantissa some.0 (sym some.1 ∙ none)) is.fits
]

pub one_decimal : (negative : Bool) (m : ℕ) (e : ℤ) (a b : Decimal) → IsDecimalOf negative m e a → IsDecimalOf negative m e b
    → a ≡ b
one_decimal negative m e a b is-a is-b = elim (cases_eq a.mantissa 0) [
  | inl none ↦
      let m-none = zero_from negative m e a none is-a in
      let p = zero_to negative m e a m-none is-a in
      let q = zero_to negative m e b m-none is-b in
      same_decimal a b (p.negative ∙ sym q.negative) (p.mantissa ∙ sym q.mantissa) (p.exponent ∙ sym q.exponent)
  | inr some ↦ elim is-a.value [
    | inl at_zero ↦ absurd (some at_zero.1)
    | inr at ↦
        let parts = same_parts negative m a.mantissa at.0 e b at.1 (bounds_of a.negative a.mantissa a.exponent some is-a.fits).last
        is-b in
        same_decimal a b (at.3 ∙ sym parts.sign) parts.mantissa (at.2 ∙ sym parts.exponent)
  ]
]

-- ---- the decimal as a function

record IsReducedOf (negative : Bool) (m : ℕ) (e : ℤ) (d : Decimal) : Type 0 where
  zeros : ℕ
  value : m ≡ d.mantissa * 10 ^ zeros
  last : d.mantissa % 10 ≢ 0
  exponent : d.exponent ≡ (e +ℤ pos zeros)
  sign : d.negative ≡ negative

one_zero_more : (n z : ℕ) (e x : ℤ) → x ≡ ((e +ℤ pos 1) +ℤ pos z) → x ≡ (e +ℤ pos (z + 1))
one_zero_more n z e x is = omega (arith, ints)

reduces : (steps : ℕ) (negative : Bool) (m : ℕ) (e : ℤ) → m ≢ 0 → m ≤ steps
    → IsReducedOf negative m e (without_zeros steps negative m e)
reduces zero negative m e some few = absurd (some (omega arith))
reduces (suc steps) negative m e some few = elim (cases_eq (m % 10) 0) [
  | inl none ↦
      let product : m ≡ m / 10 * 10 = omega (arith, div-add-mod' m 10) in
      let r : IsReducedOf negative (m / 10) (e +ℤ pos 1) (without_zeros steps negative (m / 10) (e +ℤ pos 1)) =
      reduces steps negative (m / 10) (e +ℤ pos 1) (λ at_zero. some (product ∙ ap (λ (i : ℕ). i * 10) at_zero)) (omega arith) in
      rw (eq-eqb (m % 10) 0 none) (record {
        zeros = r.zeros + 1;
        value = product ∙ ap (λ (i : ℕ). i * 10) r.value ∙ tens_more (without_zeros steps negative (m / 10) (e +ℤ pos 1)).mantissa
            r.zeros;
        last = r.last;
        exponent = one_zero_more m r.zeros e (without_zeros steps negative (m / 10) (e +ℤ pos 1)).exponent r.exponent;
        sign = r.sign;
      })
  | inr last ↦ rw (ne_eqb (m % 10) 0 last) (record {
    zeros = 0;
    value = sym (tens_none m);
    last = last;
    exponent = omega (arith, ints);
    sign = refl;
  })
]

zero_spelled : (negative : Bool) (m : ℕ) (e : ℤ) → m ≡ 0 → IsDecimalOf negative m e (record {
  negative = false;
  mantissa = 0;
  exponent = pos 0;
})
unfolding decimal_fits
zero_spelled negative m e none = record { fits = refl; value = inl (none, refl) }

pub decimal_from : (negative : Bool) (m : ℕ) (e : ℤ) (d : Decimal) → IsDecimalOf negative m e d → decimal_of negative m e ≡ Some d
unfolding decimal_of
decimal_from negative m e d is = elim (cases_eq m 0) [
  | inl none ↦ rw (eq-eqb m 0 none) (ap Some (one_decimal negative m e _ d (zero_spelled negative m e none) is))
  | inr some ↦
      let r : IsReducedOf negative m e (without_zeros m negative m e) = reduces m negative m e some (omega arith) in
      let parts = same_parts negative m (without_zeros m negative m e).mantissa r.zeros e d r.value r.last is in
      let same : without_zeros m negative m e ≡ d = same_decimal (without_zeros m negative m e) d (r.sign ∙ sym parts.sign)
      parts.mantissa (r.exponent ∙ sym parts.exponent) in
      rw (ne_eqb m 0 some, same, is.fits) refl
]

fitting : (negative : Bool) (m : ℕ) (e : ℤ) (d n : Decimal) → IsReducedOf negative m e n → where_fits n ≡ Some d
    → IsDecimalOf negative m e d
fitting negative m e d n r made = elim (cases_Bool (decimal_fits n.negative n.mantissa n.exponent)) [
  | inl fits ↦
      let there : Some n ≡ Some d = rw fits at made in
      let same : n ≡ d = cc in
      subst (IsDecimalOf negative m e) same (record { fits = fits; value = inr (r.zeros, r.value, r.exponent, r.sign) })
  | inr none ↦
      let gone : None ≡ Some d = rw none at made in
      absurd (cc)
]

pub decimal_to : (negative : Bool) (m : ℕ) (e : ℤ) (d : Decimal) → decimal_of negative m e ≡ Some d → IsDecimalOf negative m e d
unfolding decimal_of
decimal_to negative m e d is = elim (cases_eq m 0) [
  | inl none ↦
      let made : Some (record { negative = false; mantissa = 0; exponent = pos 0 }) ≡ Some d = rw (eq-eqb m 0 none) at is in
      let same : record { negative = false; mantissa = 0; exponent = pos 0 } ≡ d = cc in
      subst (IsDecimalOf negative m e) same (zero_spelled negative m e none)
  | inr some ↦
      let r : IsReducedOf negative m e (without_zeros m negative m e) = reduces m negative m e some (omega arith) in
      let made : where_fits (without_zeros m negative m e) ≡ Some d = rw (ne_eqb m 0 some) at is in
      let reduced : Decimal = without_zeros m negative m e in
      fitting negative m e d reduced r made
]

none_from : (made : Option Decimal) → ((d : Decimal) → made ≡ Some d → ⊥) → None ≡ made
none_from None no_such = refl
none_from (Some d) no_such = absurd (no_such d refl)

-- what a number's decimal is defined to be is what the function gives
pub decimal_is_made : (negative : Bool) (number : List ℕ) (made : Option Decimal)
    → MatchOption made ((d : Decimal) → SpellsDecimal negative number d → ⊥) (SpellsDecimal negative number)
    → made ≡ decimal_of_number negative number
unfolding decimal_of_number
decimal_is_made negative number (Some d) spells =
    rw spells.form (sym (decimal_from negative (mantissa_of number) (exponent_of number) d spells.is))
decimal_is_made negative number None none = elim (cases_Bool (is_number number)) [
  | inl form ↦
      rw form (none_from (decimal_of negative (mantissa_of number) (exponent_of number))
      (λ d is. none d (record { form = form; is = decimal_to negative (mantissa_of number) (exponent_of number) d is })))
  | inr other ↦ rw other refl
]
