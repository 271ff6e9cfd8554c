-- Texts of digits, and the numbers that they write.
use Rattle.std.proofs.Common.{◌≡◌, ◌≢◌, ℕ, suc, ◌+◌, ◌-◌, ◌*◌, ◌/◌, ◌%◌, ◌^◌, ◌<◌, ◌≤◌, List, [], ◌∷◌, ◌++◌, length, refl, sym, ap}
use Rattle.std.proofs.Common.{subst, ◌∙◌, add-one, inl, inr, arith}
use Rattle.std.specs.Char.{digit_value}
use Rattle.std.specs.Str.Parse.{AllDigits, IsNumeral, digits_value, digits_value_after}
use Rattle.std.proofs.lemmas.Bool.{cases_lt}
use Rattle.std.proofs.lemmas.Int.Digits.{digits_value-lt, digits_value_push}
use Rattle.std.proofs.lemmas.List.{append_assoc}
use Rattle.std.proofs.lemmas.Nat.{div-mul-add}
use Rattle.std.proofs.lemmas.Str.{digit_value_digit}
use Rattle.std.proofs.lemmas.Str.Parse.{digit_from_value}
use Rattle.std.proofs.Math.Nat.{pow-le-pow_right, mul-le-mul_right}
use Rattle.dbc_values.proofs.DigitTexts.{value_append}
use Rattle.dbc_values.proofs.Powers.{tens_more}

-- ---- parts of a text of digits

pub all_append : (xs ys : List ℕ) → AllDigits 10 xs → AllDigits 10 ys → AllDigits 10 (xs ++ ys)
all_append [] ys a b = b
all_append (x ∷ xs) ys a b = (a.0, all_append xs ys a.1 b)

pub all_front : (xs ys : List ℕ) → AllDigits 10 (xs ++ ys) → AllDigits 10 xs
all_front [] ys a = tt
all_front (x ∷ xs) ys a = (a.0, all_front xs ys a.1)

pub all_following : (xs ys : List ℕ) → AllDigits 10 (xs ++ ys) → AllDigits 10 ys
all_following [] ys a = a
all_following (x ∷ xs) ys a = all_following xs ys a.1

-- a list that is not empty has a last item
pub record HasLast (xs : List ℕ) : Type 0 where
  pub front : List ℕ
  pub last : ℕ
  pub is : xs ≡ front ++ (last ∷ [])

pub has_last : (x : ℕ) (xs : List ℕ) → HasLast (x ∷ xs)
has_last x [] = record { front = []; last = x; is = refl }
has_last x (y ∷ ys) = let h = has_last y ys in record { front = x ∷ h.front; last = h.last; is = ap (λ (zs : List ℕ). x ∷ zs) h.is }

-- ---- values

-- digits after a number
pub value_after : (m : ℕ) (ds : List ℕ) → digits_value_after 10 m ds ≡ m * 10 ^ length ds + digits_value 10 ds
value_after m [] = omega arith
value_after m (d ∷ ds) =
    let n : ℕ = length ds in
    let more : m * 10 ^ n * 10 ≡ m * 10 ^ suc n = tens_more m n ∙ ap (λ (k : ℕ). m * 10 ^ k) (add-one n) in
    let here : digits_value_after 10 (m * 10 + digit_value d) ds ≡ (m * 10 + digit_value d) * 10 ^ n + digits_value 10 ds =
    value_after (m * 10 + digit_value d) ds in
    let alone : digits_value_after 10 (0 * 10 + digit_value d) ds ≡ (0 * 10 + digit_value d) * 10 ^ n + digits_value 10 ds =
    value_after (0 * 10 + digit_value d) ds in
    here ∙ omega (arith, more, alone)

pub value_of_both : (xs ys : List ℕ) → digits_value 10 (xs ++ ys) ≡ digits_value 10 xs * 10 ^ length ys + digits_value 10 ys
value_of_both xs ys = value_append 0 xs ys ∙ value_after (digits_value 10 xs) ys

pub record SameParts (a b r s : ℕ) : Type 0 where
  pub above : a ≡ b
  pub below : r ≡ s

pub same_parts : (a b r s p : ℕ) → r < p → s < p → a * p + r ≡ b * p + s → SameParts a b r s
same_parts a b r s p r-small s-small same =
    let above : a ≡ b = sym (div-mul-add a p r r-small) ∙ ap (λ (n : ℕ). n / p) same ∙ div-mul-add b p s s-small in
    let product : a * p ≡ b * p = ap (λ (n : ℕ). n * p) above in
    record { above = above; below = omega (arith, product, same) }

same_digit : (c d : ℕ) → digit_value c < 10 → digit_value d < 10 → digit_value c ≡ digit_value d → c ≡ d
same_digit c d c-small d-small same = omega (
  arith,
  same,
  digit_value_digit c (digit_from_value c c-small),
  digit_value_digit d (digit_from_value d d-small),
)

-- as many digits with one value are the same
pub same_digits : (xs ys : List ℕ) → AllDigits 10 xs → AllDigits 10 ys → length xs ≡ length ys → digits_value 10 xs
    ≡ digits_value 10 ys → xs ≡ ys
same_digits [] [] a b many same = refl
same_digits [] (y ∷ ys) a b many same = absurd (omega arith)
same_digits (x ∷ xs) [] a b many same = absurd (omega arith)
same_digits (x ∷ xs) (y ∷ ys) a b many same =
    let fewer : length xs ≡ length ys = omega arith in
    let p : digits_value 10 (x ∷ xs) ≡ (0 * 10 + digit_value x) * 10 ^ length xs + digits_value 10 xs =
    value_after (0 * 10 + digit_value x) xs in
    let q : digits_value 10 (y ∷ ys) ≡ (0 * 10 + digit_value y) * 10 ^ length xs + digits_value 10 ys =
    value_after (0 * 10 + digit_value y) ys ∙ ap (λ (k : ℕ). (0 * 10 + digit_value y) * 10 ^ k + digits_value 10 ys) (sym fewer) in
    let y-small : digits_value 10 ys < 10 ^ length xs = subst (λ (k : ℕ). digits_value 10 ys < 10 ^ k) (sym fewer)
    (digits_value-lt 10 ys b.1) in
    let parts = same_parts (0 * 10 + digit_value x) (0 * 10 + digit_value y) (digits_value 10 xs) (digits_value 10 ys)
    (10 ^ length xs) (digits_value-lt 10 xs a.1) y-small (sym p ∙ same ∙ q) in
    let first : x ≡ y = same_digit x y a.0 b.0 (omega (arith, parts.above)) in
    let rest : xs ≡ ys = same_digits xs ys a.1 b.1 fewer parts.below in
    λ i. first i ∷ rest i

-- ---- zeros first and last

-- no zero comes first, except alone
abbrev pub NoZeroFirst : List ℕ → Type 0
NoZeroFirst ds = (rest : List ℕ) → ds ≡ 48 ∷ rest → rest ≡ []

digit_above_zero : (c : ℕ) → digit_value c < 10 → c ≢ 48 → 1 ≤ digit_value c
digit_above_zero c small some =
    let is : digit_value c + 48 ≡ c = digit_value_digit c (digit_from_value c small) in
    elim (cases_lt 0 (digit_value c)) [
      | inl more ↦ omega (arith, more)
      | inr none ↦ absurd (some (omega (arith, is, none)))
    ]

-- several digits without a zero first are as great as their count implies
large_by_count : (ds : List ℕ) → AllDigits 10 ds → NoZeroFirst ds → 1 < length ds → 10 ^ (length ds - 1) ≤ digits_value 10 ds
large_by_count [] all first many = absurd (omega arith)
large_by_count (c ∷ []) all first many = absurd (omega arith)
large_by_count (c ∷ d ∷ ds) all first many =
    let some : c ≢ 48 = λ at_zero.
    let none : d ∷ ds ≡ [] = first (d ∷ ds) (ap (λ (k : ℕ). k ∷ (d ∷ ds)) at_zero) in
    absurd (omega (arith, ap (λ (xs : List ℕ). length xs) none)) in
    let value : digits_value 10 (c ∷ d ∷ ds) ≡ (0 * 10 + digit_value c) * 10 ^ length (d ∷ ds) + digits_value 10 (d ∷ ds) =
    value_after (0 * 10 + digit_value c) (d ∷ ds) in
    let least : 1 * 10 ^ length (d ∷ ds) ≤ (0 * 10 + digit_value c) * 10 ^ length (d ∷ ds) =
    mul-le-mul_right (10 ^ length (d ∷ ds)) (omega (arith, digit_above_zero c all.0 some)) in
    let count : 10 ^ (length (c ∷ d ∷ ds) - 1) ≡ 10 ^ length (d ∷ ds) = ap (λ (k : ℕ). 10 ^ k) (omega arith) in
    omega (arith, value, least, count)

not_longer : (xs ys : List ℕ) → IsNumeral 10 xs → IsNumeral 10 ys → NoZeroFirst ys → digits_value 10 xs ≡ digits_value 10 ys
    → length ys ≤ length xs
not_longer xs ys a b first same = elim (cases_lt (length xs) (length ys)) [
  | inl longer ↦
      let large : 10 ^ (length ys - 1) ≤ digits_value 10 ys = large_by_count ys b.1 first (omega (arith, a.0)) in
      let small : digits_value 10 xs < 10 ^ length xs = digits_value-lt 10 xs a.1 in
      let power : 10 ^ length xs ≤ 10 ^ (length ys - 1) = pow-le-pow_right {n = 10} (omega arith) (omega arith) in
      absurd (omega (arith, large, small, power, same))
  | inr not_so ↦ omega (arith, not_so)
]

-- whole numbers without a zero first have the same digits if they are the same number
pub same_whole : (xs ys : List ℕ) → IsNumeral 10 xs → IsNumeral 10 ys → NoZeroFirst xs → NoZeroFirst ys → digits_value 10 xs
    ≡ digits_value 10 ys → xs ≡ ys
same_whole xs ys a b x-first y-first same =
    let up : length ys ≤ length xs = not_longer xs ys a b y-first same in
    let down : length xs ≤ length ys = not_longer ys xs b a x-first (sym same) in
    same_digits xs ys a.1 b.1 (omega arith) same

-- the last digit is what is left over by ten
pub last_digit : (ds : List ℕ) (c : ℕ) → digit_value c < 10 → digits_value 10 (ds ++ (c ∷ [])) % 10 ≡ digit_value c
last_digit ds c small = omega (arith, digits_value_push 10 ds c)

-- digits whose last is no zero write a number that is no multiple of ten
pub no_zero_last : (whole fraction : List ℕ) → AllDigits 10 fraction → 0 < length fraction
    → ((front : List ℕ) → fraction ≡ front ++ (48 ∷ []) → ⊥)
    → digits_value 10 (whole ++ fraction) % 10 ≢ 0
no_zero_last whole [] all some last at_zero = absurd (omega arith)
no_zero_last whole (d ∷ ds) all some last at_zero =
    let h : HasLast (d ∷ ds) = has_last d ds in
    let alone : AllDigits 10 (h.last ∷ []) = all_following h.front (h.last ∷ []) (subst (AllDigits 10) h.is all) in
    let joined : whole ++ (d ∷ ds) ≡ (whole ++ h.front) ++ (h.last ∷ []) = ap (λ (xs : List ℕ). whole ++ xs) h.is
    ∙ sym (append_assoc whole h.front (h.last ∷ [])) in
    let rest : digits_value 10 (whole ++ (d ∷ ds)) % 10 ≡ digit_value h.last = ap (λ (xs : List ℕ). digits_value 10 xs % 10) joined
    ∙ last_digit (whole ++ h.front) h.last alone.0 in
    let none : digit_value h.last ≡ 0 = sym rest ∙ at_zero in
    let is-zero : h.last ≡ 48 = omega (arith, none, digit_value_digit h.last (digit_from_value h.last alone.0)) in
    last h.front (h.is ∙ ap (λ (k : ℕ). h.front ++ (k ∷ [])) is-zero)
