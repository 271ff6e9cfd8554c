-- A plain decimal without superfluous zeros is a number of JSON.
use Rattle.std.proofs.Common.{◌≡◌, ℕ, ℤ, ◌+◌, ◌<◌, ◌≤◌, Bool, true, false, cond, ◌==◌, List, [], ◌∷◌, ◌++◌, length, drop, Some}
use Rattle.std.proofs.Common.{None}
use Rattle.std.proofs.Common.{option_and_then, refl, sym, ap, ◌∙◌, subst, arith, append-nil}
use Rattle.std.proofs.lemmas.Bool.{ne_eqb, le-leb, and_from, eqb-true}
use Rattle.std.proofs.lemmas.List.{drop_at}
use Rattle.std.specs.List.{prefix_len}
use Rattle.std.specs.Char.{is_ascii_digit, digit_value}
use Rattle.std.specs.Str.Parse.{AllDigits, IsNumeral}
use Rattle.json.specs.Word.{head, after_digits, after_whole, after_fraction, after_exponent, after_number}
use Rattle.json.specs.Print.{IsNumber}
use Rattle.dbc_records.specs.Layout.{sign_text}
use Rattle.can_decode.specs.ScaledTexts.{after_point, IsScaledText}

digit_range : (d : ℕ) → digit_value d < 10 → (48 ≤ d) × (d ≤ 57)
digit_range d h = grind arith

run : (ds r : List ℕ) → AllDigits 10 ds → prefix_len is_ascii_digit r ≡ 0 → prefix_len is_ascii_digit (ds ++ r) ≡ length ds
run [] r h none = none
run (d ∷ ds) r h none =
    let range = digit_range d h.0 in
    ap (λ b. cond b (1 + prefix_len is_ascii_digit (ds ++ r)) 0)
    (and_from _ _ (le-leb 48 d range.0) (le-leb d 57 range.1)) ∙ omega (arith, run ds r h.1 none)

digits_then : (ds r : List ℕ) → AllDigits 10 ds → 0 < length ds → prefix_len is_ascii_digit r ≡ 0
    → after_digits (ds ++ r) ≡ Some r
digits_then ds r h some none =
    ap (λ n. cond (n == 0) None (Some (drop n (ds ++ r)))) (run ds r h none)
    ∙ ap (λ b. cond b None (Some (drop (length ds) (ds ++ r)))) (ne_eqb (length ds) 0 (λ e. omega arith))
    ∙ ap Some (drop_at ds r _ refl)

-- nothing is after a first zero
first_of_whole : (z : Bool) (d : ℕ) (ds r : List ℕ) → (z ≡ true → ds ≡ []) → after_digits (d ∷ ds ++ r) ≡ Some r
    → cond z (Some (ds ++ r)) (after_digits (d ∷ ds ++ r)) ≡ Some r
first_of_whole true d ds r alone more = ap (λ rest. Some (rest ++ r)) (alone refl)
first_of_whole false d ds r alone more = more

whole_then : (w r : List ℕ) → IsNumeral 10 w → ((rest : List ℕ) → w ≡ 48 ∷ rest → rest ≡ []) → prefix_len is_ascii_digit r ≡ 0
    → (after_whole (w ++ r) ≡ Some r) × ((head (w ++ r) == 45) ≡ false)
whole_then [] r h first none = absurd (omega (arith, h.0))
whole_then (d ∷ ds) r h first none = (
  first_of_whole (d == 48) d ds r (λ e. first ds (ap (λ x. x ∷ ds) (eqb-true d 48 e))) (digits_then (d ∷ ds) r h.1 h.0 none),
  ne_eqb d 45 (λ e. omega (arith, digit_range d h.1.0)),
)

following_then : (ds : List ℕ) → AllDigits 10 ds → (option_and_then after_exponent (after_fraction (after_point ds)) ≡ Some [])
    × (prefix_len is_ascii_digit (after_point ds) ≡ 0)
following_then [] h = (refl, refl)
following_then (d ∷ ds) h = (
  ap (option_and_then after_exponent)
      (ap after_digits (sym (append-nil (d ∷ ds))) ∙ digits_then (d ∷ ds) [] h (omega arith) refl),
  refl,
)

unsigned_part : (w f : List ℕ) → IsNumeral 10 w → AllDigits 10 f → ((rest : List ℕ) → w ≡ 48 ∷ rest → rest ≡ [])
    → (option_and_then after_exponent (option_and_then after_fraction (after_whole (w ++ after_point f))) ≡ Some [])
    × ((head (w ++ after_point f) == 45) ≡ false)
unsigned_part w f whole fraction first =
    let after = following_then f fraction in
    let front = whole_then w (after_point f) whole first after.1 in
    (ap (λ o. option_and_then after_exponent (option_and_then after_fraction o)) front.0 ∙ after.0, front.1)

pub plain_number : (negative : Bool) (w f : List ℕ) → IsNumeral 10 w → AllDigits 10 f
    → ((rest : List ℕ) → w ≡ 48 ∷ rest → rest ≡ []) → IsNumber (sign_text negative ++ (w ++ after_point f))
unfolding after_number sign_text
plain_number true w f whole fraction first = (unsigned_part w f whole fraction first).0
plain_number false w f whole fraction first =
    let u = unsigned_part w f whole fraction first in
    ap (λ b. option_and_then after_exponent (option_and_then after_fraction
    (after_whole (cond b (drop 1 (w ++ after_point f)) (w ++ after_point f))))) u.1 ∙ u.0

pub scaled_number : (value : ℤ) (places : ℕ) (text : List ℕ) → IsScaledText value places text → IsNumber text
scaled_number value places text is =
    subst IsNumber (sym is.parts.is)
    (plain_number is.plain.negative is.plain.whole is.plain.fraction is.parts.whole is.parts.fraction is.shortest.first)
