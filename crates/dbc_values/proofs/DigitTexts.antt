-- The value of digits as they are read one after another.
use Rattle.std.proofs.Common.{◌≡◌, ℕ, ◌+◌, ◌-◌, ◌*◌, ◌<◌, List, [], ◌∷◌, ◌++◌, length, take, get_or, min, refl, ap, ◌∙◌, arith}
use Rattle.std.proofs.Common.{IsTrue, true}
use Rattle.std.specs.List.{list_all}
use Rattle.std.specs.Char.{digit_value}
use Rattle.std.specs.Str.Parse.{digits_value_after}
use Rattle.std.proofs.lemmas.Bool.Decides.{nat_tests}
use Rattle.std.proofs.lemmas.List.{take_more}
use Rattle.std.proofs.lemmas.List.Sums.{AllPass-from_list_all}
use Rattle.dbc_values.specs.Lexical.{is_digit}

pub value_append : (m : ℕ) (xs ys : List ℕ) → digits_value_after 10 m (xs ++ ys) ≡ digits_value_after 10
    (digits_value_after 10 m xs) ys
value_append m [] ys = refl
value_append m (x ∷ xs) ys = value_append (m * 10 + digit_value x) xs ys

pub digit_is : (c : ℕ) → is_digit c ≡ true → digit_value c ≡ c - 48
digit_is c h = grind (arith, nat_tests)

-- the digit at an index, read after those before it
pub value_more : (m : ℕ) (ds : List ℕ) (i : ℕ) → i < length ds → IsTrue (list_all is_digit ds)
    → digits_value_after 10 m (take (i + 1) ds) ≡ digits_value_after 10 m (take i ds) * 10 + (get_or ds i 0 - 48)
value_more m ds i less digits =
    let d : digit_value (get_or ds i 0) ≡ get_or ds i 0 - 48 =
    digit_is (get_or ds i 0) (AllPass-from_list_all is_digit ds digits i 0 less) in
    ap (digits_value_after 10 m) (take_more ds i 0 less)
    ∙ value_append m (take i ds) (get_or ds i 0 ∷ [])
    ∙ ap (λ (n : ℕ). digits_value_after 10 m (take i ds) * 10 + n) d

pub min_more : (m n d far : ℕ) → m ≡ min n far → min (m * 10 + d) far ≡ min (n * 10 + d) far
min_more m n d far e = omega arith
