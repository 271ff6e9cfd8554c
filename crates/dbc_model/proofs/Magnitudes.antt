-- Texts of decimals.
use Rattle.std.proofs.Common.{◌≡◌, ℕ, suc, ℤ, pos, negsuc, ◌+◌, ◌-◌, ◌≤◌, ◌≤ℤ◌, List, ◌∷◌, ◌++◌, length, take, drop, ap, ◌∙◌, arith}
use Rattle.std.specs.Prelude.{nat_le, unsigned_abs}
use Rattle.std.proofs.lemmas.Bool.{le-leb, cond-true}
use Rattle.std.proofs.lemmas.List.{length-replicate, length-append}
use Rattle.dbc_records.specs.Layout.{plain_digits, zeros, filled, point_before_last, magnitude_text}

-- too few digits for a point among them
pub fraction_filled : (following : ℕ) (digits : List ℕ) → length digits ≤ following → point_before_last following (filled following
    digits) ≡ 48
    ∷ 46 ∷ (zeros (following - length digits) ++ digits)
fraction_filled following digits short =
    let k = following - length digits in
    let all : List ℕ = 48 ∷ (zeros k ++ digits) in
    let count : following + 1 - length digits ≡ suc k = omega (arith, short) in
    let whole : filled following digits ≡ all = ap (λ n. zeros n ++ digits) count in
    let many : length (zeros k ++ digits) ≡ k + length digits = length-append (zeros k) digits
    ∙ ap (λ n. n + length digits) (length-replicate k 48) in
    let front : length all - following ≡ 1 = omega (arith, short, many) in
    ap (point_before_last following) whole ∙ ap (λ n. take n all ++ (46 ∷ drop n all)) front

-- no exponent is needed
pub magnitude_whole : (digits : List ℕ) (exponent : ℤ) → pos 0 ≤ℤ exponent → length digits + unsigned_abs exponent ≤ plain_digits
    → magnitude_text digits exponent ≡ digits ++ zeros (unsigned_abs exponent)
unfolding magnitude_text
magnitude_whole digits (pos count) sign fits = cond-true (nat_le (length digits + count) plain_digits) _ _
    (le-leb (length digits + count) plain_digits fits)
magnitude_whole digits (negsuc n) sign fits = absurd (omega (arith, sign))
