-- A number without a sign is not negative.
use Rattle.std.proofs.Common.{◌≡◌, ℕ, zero, suc, ℤ, Bool, true, false, cond, List, Option, Some, None, refl, ◌%◌, ◌/◌, ◌==◌, sym}
use Rattle.std.proofs.Common.{ap, ◌∙◌}
use Rattle.std.specs.Prelude.{pos, ◌+ℤ◌}
use Rattle.dbc_values.specs.Lexical.{is_number}
use Rattle.dbc_values.specs.Numbers.{mantissa_of, exponent_of}
use Rattle.dbc_values.specs.Decimals.{Decimal, decimal_fits, without_zeros, where_fits, decimal_of, decimal_of_number}

either_sign : (b : Bool) (negative : Bool) (x y : Decimal) → x.negative ≡ negative → y.negative ≡ negative → (cond b x y).negative
    ≡ negative
either_sign true negative x y h k = h
either_sign false negative x y h k = k

same_sign : (steps : ℕ) (negative : Bool) (m : ℕ) (e : ℤ) → (without_zeros steps negative m e).negative ≡ negative
same_sign zero negative m e = refl
same_sign (suc steps) negative m e = either_sign (m % 10 == 0) negative _ _ (same_sign steps negative (m / 10) (e +ℤ pos 1)) refl

abbrev there : Decimal → Option Decimal
there d = Some d

is_it : (d x : Decimal) → there d ≡ there x → d ≡ x
is_it d x h = cc

fitting_sign : (d x : Decimal) (b : Bool) → cond b (Some d) None ≡ there x → x.negative ≡ d.negative
fitting_sign d x true h = ap (λ (y : Decimal). y.negative) (sym (is_it d x h))
fitting_sign d x false h = absurd cc

sign_of : (m : ℕ) (e : ℤ) (x : Decimal) (b : Bool) → cond b (Some (record { negative = false; mantissa = 0; exponent = pos 0 }))
    (where_fits (without_zeros m false m e)) ≡ there x → x.negative ≡ false
sign_of m e x true h = ap (λ (y : Decimal). y.negative) (sym (is_it _ x h))
sign_of m e x false h = fitting_sign (without_zeros m false m e) x (decimal_fits _ _ _) h ∙ same_sign m false m e

number_sign : (m : ℕ) (e : ℤ) (x : Decimal) (b : Bool) → cond b (decimal_of false m e) None ≡ there x → x.negative ≡ false
unfolding decimal_of
number_sign m e x true h = sign_of m e x (m == 0) h
number_sign m e x false h = absurd cc

pub no_sign : (negative : Bool) (number : List ℕ) (x : Decimal) → decimal_of_number negative number ≡ Some x → negative ≡ false
    → x.negative ≡ false
unfolding decimal_of_number
no_sign true number x h e = absurd cc
no_sign false number x h e = number_sign (mantissa_of number) (exponent_of number) x (is_number number) h
