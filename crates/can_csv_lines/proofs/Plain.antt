-- Numbers need no quotes.
use Rattle.std.proofs.Common.{◌≡◌, ℕ, ℤ, ◌<◌, ◌≤◌, ◌==◌, ◌||◌, ◌^◌, Bool, true}
use Rattle.std.proofs.Common.{false, List, [], ◌∷◌, ◌++◌, refl, sym, ap, ap₂, ◌∙◌, subst}
use Rattle.std.proofs.Common.{arith}
use Rattle.std.specs.Prelude.{codes, decimal, unsigned_abs}
use Rattle.std.specs.List.{list_any}
use Rattle.std.specs.Char.{digit_value}
use Rattle.std.specs.Str.Parse.{AllDigits}
use Rattle.std.proofs.lemmas.Bool.{ne_eqb, or_parts}
use Rattle.std.proofs.lemmas.Fmt.{decimal_is_IsNumeral}
use Rattle.csv.specs.Writing.{needs_byte, needs_quotes, field_text, default_writer}
use Rattle.dbc_records.specs.Layout.{sign_text}
use Rattle.can_decode.specs.Values.{scaled_text}
use Rattle.can_decode.specs.ScaledTexts.{after_point, IsScaledText}
use Rattle.can_decode.proofs.ScaledTexts.{scaled_text_is}
use Rattle.can_csv_lines.specs.inner.Prepared.{further_field}
use Rattle.can_csv_lines.proofs.Fields.{as_it_is}
use Rattle.can_csv_lines.proofs.Pushing.{pushed_then}

digit_range : (d : ℕ) → digit_value d < 10 → (48 ≤ d) × (d ≤ 57)
digit_range d h = grind arith

plain_byte : (b : ℕ) → (b ≡ 44 → ⊥) → (b ≡ 34 → ⊥) → (b ≡ 13 → ⊥) → (b ≡ 10 → ⊥) → needs_byte default_writer b ≡ false
plain_byte b comma mark return feed =
    rw (ne_eqb b 44 comma, ne_eqb b 34 mark, ne_eqb b 13 return, ne_eqb b 10 feed) refl

plain_digit : (d : ℕ) → digit_value d < 10 → needs_byte default_writer d ≡ false
plain_digit d is =
    let range = digit_range d is in
    plain_byte d (λ e. omega (arith, range, e)) (λ e. omega (arith, range, e)) (λ e. omega (arith, range, e))
    (λ e. omega (arith, range, e))

plain_digits : (digits : List ℕ) → AllDigits 10 digits → needs_quotes default_writer digits ≡ false
plain_digits [] all = refl
plain_digits (d ∷ digits) all =
    ap (λ (b : Bool). b || needs_quotes default_writer digits) (plain_digit d all.0) ∙ plain_digits digits all.1

plain_both : (first second : List ℕ) → needs_quotes default_writer first ≡ false → needs_quotes default_writer second ≡ false
    → needs_quotes default_writer (first ++ second) ≡ false
plain_both [] second one other = other
plain_both (b ∷ first) second one other =
    let parts = or_parts (needs_byte default_writer b) (needs_quotes default_writer first) one in
    ap (λ (needs : Bool). needs || needs_quotes default_writer (first ++ second)) parts.0
    ∙ plain_both first second parts.1 other

plain_sign : (negative : Bool) → needs_quotes default_writer (sign_text negative) ≡ false
unfolding sign_text
plain_sign true = refl
plain_sign false = refl

plain_fraction : (digits : List ℕ) → AllDigits 10 digits → needs_quotes default_writer (after_point digits) ≡ false
plain_fraction [] all = refl
plain_fraction (d ∷ digits) all = plain_digits (d ∷ digits) all

plain_scaled : (value : ℤ) (places : ℕ) (text : List ℕ) → IsScaledText value places text → needs_quotes default_writer text ≡ false
plain_scaled value places text is =
    subst (λ (text : List ℕ). needs_quotes default_writer text ≡ false) (sym is.parts.is)
    (plain_both (sign_text is.plain.negative) (is.plain.whole ++ after_point is.plain.fraction) (plain_sign is.plain.negative)
    (plain_both is.plain.whole (after_point is.plain.fraction) (plain_digits is.plain.whole is.parts.whole.1)
    (plain_fraction is.plain.fraction is.parts.fraction)))

pub decimal_field : (old mid new : List ℕ) (n : ℕ) → n < 2 ^ 64 → new ≡ mid ++ decimal n → mid ≡ old ++ codes ","
    → new ≡ old ++ further_field (decimal n)
decimal_field old mid new n fits last begun =
    pushed_then old mid new (codes ",") (decimal n) last begun
    ∙ ap (λ (text : List ℕ). old ++ (44 ∷ text)) (sym (as_it_is (decimal n)
    (plain_digits (decimal n) (decimal_is_IsNumeral n fits).0.1)))

-- a value as a field
pub scaled_field : (old new : List ℕ) (value : ℤ) (places : ℕ) → unsigned_abs value < 10 ^ 64
    → new ≡ old ++ scaled_text value places → new ≡ old ++ field_text default_writer (scaled_text value places)
scaled_field old new value places small is =
    is ∙ ap (λ (text : List ℕ). old ++ text) (sym (as_it_is (scaled_text value places)
    (plain_scaled value places (scaled_text value places) (scaled_text_is value places small))))
