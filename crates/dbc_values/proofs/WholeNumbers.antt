-- Whether a number is whole, by the zeros at its end and its exponent.
use Rattle.std.proofs.Common.{List, MatchOption, ◌≡◌, ◌≢◌, ℕ, ℤ, pos, negsuc, ◌+◌, ◌*◌, ◌^◌, ◌/◌, ◌%◌, ◌≤◌, ◌+ℤ◌, ◌≤ℤ◌, ◌<ℤ◌, inl}
use Rattle.std.proofs.Common.{inr, Option, Some, None, refl, sym, ap, subst, ◌∙◌, arith, false}
use Rattle.std.specs.Prelude.{unsigned_abs}
use Rattle.std.proofs.lemmas.Bool.{cases_lt, cases_eq, lt-ltb, le-ltb, eq-eqb, ne_eqb}
use Rattle.std.proofs.lemmas.Int.{ints}
use Rattle.std.proofs.Math.Nat.{zero-mul, mul-mod_left}
use Rattle.std.proofs.lemmas.Nat.{div-add-mod'}
use Rattle.dbc_values.specs.declared.number.Whole.{Whole}
use Rattle.dbc_values.specs.declared.number.Whole.TheVariants.{Fraction, TooLarge, Value}
use Rattle.dbc_values.specs.Numbers.{IsWholeNumber, IsWhole, IsReduced, OccursFor, as_whole, whole_value, whole_of_number}
use Rattle.dbc_values.specs.Numbers.{mantissa_of, exponent_of, SpellsWhole}
use Rattle.dbc_values.specs.Lexical.{is_number}
use Rattle.dbc_values.proofs.Powers.{same_tens, tens_apart, ends_in_zero, at_least_itself, tens_at_least}
use Rattle.dbc_values.proofs.Digits.{kept_is, dropped_is}

-- the digits of the front with fewer zeros, if the exponent takes some away, or with more
with_exponent : (n zeros t : ℕ) (e : ℤ) → (e +ℤ pos zeros) ≡ pos t → IsWholeNumber (n * 10 ^ zeros) e (n * 10 ^ t)
unfolding IsWholeNumber
with_exponent n zeros t (pos a) h =
    let e : t ≡ zeros + a = omega (arith, ints) in
    ap (λ (i : ℕ). n * 10 ^ i) e ∙ tens_apart n zeros a
with_exponent n zeros t (negsuc k) h =
    let e : zeros ≡ t + (k + 1) = omega (arith, ints) in
    ap (λ (i : ℕ). n * 10 ^ i) e ∙ tens_apart n t (k + 1)

same_number : (m n k : ℕ) (e : ℤ) → m ≡ n → IsWholeNumber n e k → IsWholeNumber m e k
same_number m n k e h w = let P : ℕ → Type 0 = λ i. IsWholeNumber i e k in subst P (sym h) w

-- no whole number, if the exponent takes away more zeros than there are
no_whole : (n m zeros : ℕ) (e : ℤ) → n % 10 ≢ 0 → (e +ℤ pos zeros) <ℤ pos 0 → IsWholeNumber (n * 10 ^ zeros) e m → ⊥
unfolding IsWholeNumber
no_whole n m z (pos a) last less w = absurd (omega (arith, ints))
no_whole n m z (negsuc k) last less w = last (ends_in_zero n m z (k + 1) w (omega (arith, ints)))

below_zero : (e x : ℤ) → OccursFor 1000 e x → x <ℤ pos 0 → e <ℤ pos 0
below_zero e x (inl same) less = omega (arith, ints)
below_zero e x (inr (inl above)) less = omega (arith, ints, above.0)
below_zero e x (inr (inr below)) less = omega (arith, ints, below.1)

not_below_zero : (e x : ℤ) → OccursFor 1000 e x → pos 0 ≤ℤ x → pos 0 ≤ℤ e
not_below_zero e x (inl same) more = omega (arith, ints)
not_below_zero e x (inr (inl above)) more = omega (arith, ints, above.1)
not_below_zero e x (inr (inr below)) more = absurd (omega (arith, ints, below.0))

at_or_above : (e : ℤ) → pos 0 ≤ℤ e → (t : ℕ) × (e ≡ pos t)
at_or_above (pos t) h = (t, refl)
at_or_above (negsuc k) h = absurd (omega (arith, ints))

pub fraction : (m : ℕ) (e x : ℤ) (digits : Option ℕ) (r : IsReduced m e digits x) → r.front.front ≢ 0 → x <ℤ pos 0 → (n : ℕ)
    → IsWholeNumber m e n → ⊥
fraction m e x digits r some less n w =
    no_whole r.front.front n r.zeros e (λ zero. some (r.front.last zero)) (below_zero (e +ℤ pos r.zeros) x r.power less)
    (same_number (r.front.front * 10 ^ r.zeros) m n e (sym r.front.value) w)

whole_front : (m t : ℕ) (e x : ℤ) (digits : Option ℕ) (r : IsReduced m e digits x) → (e +ℤ pos r.zeros) ≡ pos t
    → IsWholeNumber m e (r.front.front * 10 ^ t)
whole_front m t e x digits r at = same_number m (r.front.front * 10 ^ r.zeros) (r.front.front * 10 ^ t) e r.front.value
    (with_exponent r.front.front r.zeros t e at)

pub too_long : (m : ℕ) (e x : ℤ) (r : IsReduced m e None x) → pos 0 ≤ℤ x → IsWhole m e TooLarge
too_long m e x r more =
    let some = at_or_above (e +ℤ pos r.zeros) (not_below_zero (e +ℤ pos r.zeros) x r.power more) in (
      r.front.front * 10 ^ some.0,
      omega (arith, dropped_is r.front.front r.front.kept, at_least_itself r.front.front some.0),
      whole_front m some.0 e x None r some.1,
    )

zero_is_whole : (e : ℤ) → IsWholeNumber 0 e 0
unfolding IsWholeNumber
zero_is_whole (pos a) = sym (zero-mul (10 ^ a))
zero_is_whole (negsuc k) = sym (zero-mul (10 ^ (k + 1)))

pub whole_zero : (m : ℕ) (e x : ℤ) (r : IsReduced m e (Some 0) x) → IsWhole m e (Value 0)
whole_zero m e x r =
    let front : 0 ≡ r.front.front = kept_is 0 r.front.front r.front.kept in
    let none : m ≡ 0 = r.front.value ∙ ap (λ (i : ℕ). i * 10 ^ r.zeros) (sym front) ∙ zero-mul (10 ^ r.zeros) in
    (omega arith, same_number m 0 0 e none (zero_is_whole e))

exact_whole : (m n : ℕ) (e : ℤ) → IsWholeNumber m e n → IsWhole m e (as_whole n)
exact_whole m n e w = elim (cases_lt n (2 ^ 64)) [
  | inl less ↦ rw (lt-ltb n (2 ^ 64) less) (less, w)
  | inr more ↦ rw (le-ltb n (2 ^ 64) more) (n, more, w)
]

pub with_zeros_after : (m d : ℕ) (e : ℤ) (y : ℕ) (r : IsReduced m e (Some d) (pos y)) → d ≢ 0 → IsWhole m e (as_whole (d * 10 ^ y))
with_zeros_after m d e y r some =
    let front : d ≡ r.front.front = kept_is d r.front.front r.front.kept in
    elim r.power [
      | inl same ↦
          let w : IsWholeNumber m e (d * 10 ^ y) = rw front (whole_front m y e (pos y) (Some d) r (sym same)) in
          exact_whole m (d * 10 ^ y) e w
      | inr far ↦ elim far [
        | inl above ↦
            let reached = at_or_above (e +ℤ pos r.zeros) (omega (arith, ints, above.1)) in
            let w : IsWholeNumber m e (d * 10 ^ reached.0) = rw front (whole_front m reached.0 e (pos y) (Some d) r reached.1) in
            let t : 1000 ≤ reached.0 = omega (arith, ints, above.1, reached.1) in
            let long : 10 ^ 38 ≤ d * 10 ^ reached.0 = tens_at_least d 38 reached.0 (omega arith) (omega arith) in
            let long' : 10 ^ 38 ≤ d * 10 ^ y = tens_at_least d 38 y (omega arith) (omega (arith, ints, above.0)) in
            rw (le-ltb (d * 10 ^ y) (2 ^ 64) (omega arith)) (d * 10 ^ reached.0, omega arith, w)
        | inr below ↦ absurd (omega (arith, ints, below.0))
      ]
    ]

-- the same for an exponent that is cast to a count of zeros
at_sign : (m d : ℕ) (e x : ℤ) (r : IsReduced m e (Some d) x) → d ≢ 0 → pos 0 ≤ℤ x → IsWhole m e (as_whole (d * 10 ^ unsigned_abs x))
at_sign m d e (pos y) r some more = with_zeros_after m d e y r some
at_sign m d e (negsuc k) r some more = absurd (omega (arith, ints))

pub with_zeros_at : (m d : ℕ) (e x z : ℤ) → z ≡ x → (r : IsReduced m e (Some d) x) → d ≢ 0 → pos 0 ≤ℤ x
    → IsWhole m e (as_whole (d * 10 ^ unsigned_abs z))
with_zeros_at m d e x z same r some more = rw same (at_sign m d e x r some more)

-- ---- one whole number

same_whole : (m : ℕ) (e : ℤ) (a b : ℕ) → IsWholeNumber m e a → IsWholeNumber m e b → a ≡ b
unfolding IsWholeNumber
same_whole m (pos k) a b p q = p ∙ sym q
same_whole m (negsuc k) a b p q = same_tens a b (k + 1) (sym p ∙ q)

pub one_whole : (m : ℕ) (e : ℤ) (a b : Whole) → IsWhole m e a → IsWhole m e b → a ≡ b
one_whole m e Fraction Fraction p q = refl
one_whole m e Fraction TooLarge p q = absurd (p q.0 q.2)
one_whole m e Fraction (Value b) p q = absurd (p b q.1)
one_whole m e TooLarge Fraction p q = absurd (q p.0 p.2)
one_whole m e TooLarge TooLarge p q = refl
one_whole m e TooLarge (Value b) p q = absurd (omega (arith, p.1, q.0, same_whole m e p.0 b p.2 q.1))
one_whole m e (Value a) Fraction p q = absurd (q a p.1)
one_whole m e (Value a) TooLarge p q = absurd (omega (arith, p.0, q.1, same_whole m e a q.0 p.1 q.2))
one_whole m e (Value a) (Value b) p q = ap Value (same_whole m e a b p.1 q.1)

whole_value_is : (m : ℕ) (e : ℤ) → IsWhole m e (whole_value m e)
unfolding whole_value IsWholeNumber
whole_value_is m (pos k) = exact_whole m (m * 10 ^ k) (pos k) refl
whole_value_is m (negsuc k) = elim (cases_eq (m % 10 ^ (k + 1)) 0) [
  | inl none ↦
      let product : m ≡ m / 10 ^ (k + 1) * 10 ^ (k + 1) = omega (arith, div-add-mod' m (10 ^ (k + 1))) in
      rw (eq-eqb (m % 10 ^ (k + 1)) 0 none) (exact_whole m (m / 10 ^ (k + 1)) (negsuc k) product)
  | inr some ↦ rw (ne_eqb (m % 10 ^ (k + 1)) 0 some) (λ n w. some (ap (λ (i : ℕ). i % 10 ^ (k + 1)) w
      ∙ mul-mod_left n (10 ^ (k + 1))))
]

pub whole_from : (m : ℕ) (e : ℤ) (whole : Whole) → IsWhole m e whole → whole_value m e ≡ whole
whole_from m e whole is = one_whole m e (whole_value m e) whole (whole_value_is m e) is

pub whole_to : (m : ℕ) (e : ℤ) (whole : Whole) → whole_value m e ≡ whole → IsWhole m e whole
whole_to m e whole same = subst (IsWhole m e) same (whole_value_is m e)

-- what a number is defined to be as a whole number is what the function gives
pub whole_is_made : (number : List ℕ) (made : Option Whole) → MatchOption made (is_number number ≡ false) (SpellsWhole number)
    → made ≡ whole_of_number number
unfolding whole_of_number
whole_is_made number (Some whole) spells = rw (spells.form, whole_from (mantissa_of number) (exponent_of number) whole spells.is)
    refl
whole_is_made number None other = rw other refl
