-- The number that the scanner finds at the front is the longest one there.
use Rattle.std.proofs.Common.{◌≡◌, ℕ, suc, ◌+◌, ◌<◌, ◌≤◌, true, false, eqb, List, [], ◌∷◌, ◌++◌, length, get_or, take, drop, refl}
use Rattle.std.proofs.Common.{sym, ap, ◌∙◌, append_assoc, arith, inl, inr}
use Rattle.std.specs.List.{list_all, prefix_len}
use Rattle.std.proofs.lemmas.Bool.{eqb-true, eqb-false, ne_eqb, cases_Bool, cases_lt, and_parts, cond-false, false_from_ne_true}
use Rattle.std.proofs.lemmas.Bool.Decides.{nat_tests}
use Rattle.std.proofs.lemmas.List.{take_at, drop_at, take-append-drop, length-append, length-take, length-take-le, length-drop}
use Rattle.std.proofs.lemmas.List.{get_or_at, get_or-take}
use Rattle.std.proofs.lemmas.List.Sums.{prefix_len-le-length}
use Rattle.std.proofs.Math.Seq.{take-add}
use Rattle.dbc_values.specs.Lexical.{point, is_digit, is_exponent_mark, is_sign}
use Rattle.dbc_tokens.specs.inner.Scanner.{fraction_len, mantissa_len, sign_len, exponent_len, number_len}
use Rattle.dbc_tokens.proofs.NumberParts.{IsMantissa, IsSign, IsExponent, IsNumber, is_mantissa_byte, mantissa_bytes}
use Rattle.dbc_tokens.proofs.Runs.{all_le, all_stop, prefix_all, all_at, take_past}

-- ---- digits and a point

fraction_ge : (w : ℕ) (r : List ℕ) → w ≤ fraction_len w r
fraction_ge w [] = omega arith
fraction_ge w (b ∷ r) = grind (arith, nat_tests)

mantissa_point : (whole fraction v : List ℕ) → list_all is_digit whole ≡ true → list_all is_digit fraction ≡ true
    → 0 < length whole + length fraction
    → length whole + suc (length fraction) ≤ mantissa_len (whole ++ point ∷ (fraction ++ v))
mantissa_point whole fraction v w f some =
    let n = all_stop is_digit whole (point ∷ (fraction ++ v)) w refl in
    let d = drop_at whole (point ∷ (fraction ++ v)) (length whole) refl in
    let le = all_le is_digit fraction v f in
    rw (n, d, ne_eqb (length whole + prefix_len is_digit (fraction ++ v)) 0 (omega arith)) (omega arith)

mantissa_longest : (m v : List ℕ) → IsMantissa m → length m ≤ mantissa_len (m ++ v)
mantissa_longest m v (whole, fraction, w, f, some, inl e) =
    let regrouped : m ++ v ≡ whole ++ point ∷ (fraction ++ v) = ap (λ (t : List ℕ). t ++ v) e
    ∙ append_assoc whole (point ∷ fraction) v in
    rw (regrouped, e, length-append) (mantissa_point whole fraction v w f some)
mantissa_longest m v (whole, fraction, w, f, some, inr e) =
    rw e.0 (omega (
      arith,
      all_le is_digit whole v w,
      fraction_ge (prefix_len is_digit (whole ++ v))
          (drop (prefix_len is_digit (whole ++ v)) (whole ++ v)),
    ))

mantissa_of : (whole r : List ℕ) → list_all is_digit whole ≡ true → 0 < fraction_len (length whole) r
    → IsMantissa (take (fraction_len (length whole) r) (whole ++ r))
mantissa_of whole [] w some = (whole, [], w, refl, omega arith, inr (take_at whole [] (length whole) refl, refl))
mantissa_of whole (b ∷ r) w some =
    elim (cases_Bool (eqb b point)) [
      | inr e ↦ mantissa_whole whole b r w e some
      | inl e ↦
          let f = prefix_len is_digit r in
          elim (cases_Bool (eqb (length whole + f) 0)) [
            | inl z ↦ absurd (none whole b r e z some)
            | inr z ↦
                let len : fraction_len (length whole) (b ∷ r) ≡ 1 + (length whole + f) = rw (e, z) refl in
                let taken : take (1 + (length whole + f)) (whole ++ b ∷ r) ≡ whole ++ point ∷ take f r = take_past whole b r f
                ∙ ap (λ (c : ℕ). whole ++ c ∷ take f r) (eqb-true b 46 e) in
                let g : length (take f r) ≡ f = length-take-le f r (prefix_len-le-length is_digit r) in
                rw (len, taken) (
                  whole,
                  take f r,
                  w,
                  prefix_all is_digit r,
                  rw g (omega (arith, eqb-false (length whole + f) 0 z)),
                  inl refl,
                )
          ]
    ]
  where
    mantissa_whole : (whole : List ℕ) (b : ℕ) (r : List ℕ) → list_all is_digit whole ≡ true → eqb b point ≡ false
        → 0 < fraction_len (length whole) (b ∷ r) → IsMantissa (take (fraction_len (length whole) (b ∷ r)) (whole ++ b ∷ r))
    mantissa_whole whole b r w e some =
        let len : fraction_len (length whole) (b ∷ r) ≡ length whole = rw e refl in
        let long : 0 < length whole = rw len at some in
        rw (len, take_at whole (b ∷ r) (length whole) refl) (whole, [], w, refl, omega arith, inr (refl, refl))

    none : (whole : List ℕ) (b : ℕ) (r : List ℕ) → eqb b point ≡ true → eqb (length whole + prefix_len is_digit r) 0 ≡ true
        → 0 < fraction_len (length whole) (b ∷ r) → ⊥
    none whole b r e z some = let len : fraction_len (length whole) (b ∷ r) ≡ 0 = rw (e, z) refl in omega arith

pub mantissa_is : (s : List ℕ) → 0 < mantissa_len s → IsMantissa (take (mantissa_len s) s)
mantissa_is s some =
    let w = prefix_len is_digit s in
    let len : length (take w s) ≡ w = length-take-le w s (prefix_len-le-length is_digit s) in
    let h = mantissa_of (take w s) (drop w s) (prefix_all is_digit s) in
    let at : (0 < fraction_len w (drop w s) → IsMantissa (take (fraction_len w (drop w s)) (take w s ++ drop w s))) = rw len at h in
    rw take-append-drop at (at some)

pub mantissa_some : (m : List ℕ) → IsMantissa m → 0 < length m
mantissa_some m (whole, fraction, w, f, some, inl e) = rw (e, length-append) (omega arith)
mantissa_some m (whole, fraction, w, f, some, inr e) = rw e.0 (let z : length fraction ≡ 0 = ap length e.1 in omega arith)

-- ---- the exponent

not_both : (b : ℕ) → is_digit b ≡ true → is_sign b ≡ true → ⊥
not_both b d s = grind (arith, nat_tests)

mark_no_mantissa : (b : ℕ) → is_exponent_mark b ≡ true → is_mantissa_byte b ≡ true → ⊥
mark_no_mantissa b d s = grind (arith, nat_tests)

sign_then : (sign digits v : List ℕ) → IsSign sign → 0 < length digits → list_all is_digit digits ≡ true
    → sign_len (sign ++ (digits ++ v)) ≡ length sign
sign_then [] [] v s some d = absurd (omega arith)
sign_then [] (b ∷ digits) v s some d =
    cond-false (is_sign b) 1 0 (false_from_ne_true (is_sign b) (not_both b (and_parts (is_digit b) (list_all is_digit digits) d).0))
sign_then (b ∷ []) digits v s some d = rw s refl
sign_then (b ∷ c ∷ sign) digits v s some d = elim s [ ]

exponent_longest : (x v : List ℕ) → IsExponent x → length x ≤ exponent_len (x ++ v)
exponent_longest [] v h = omega arith
exponent_longest (e ∷ x) v (is, sign, digits, parts, s, some, d) =
    let regrouped : x ++ v ≡ sign ++ (digits ++ v) = ap (λ (t : List ℕ). t ++ v) parts ∙ append_assoc sign digits v in
    let n = sign_then sign digits v s some d in
    let at = drop_at sign (digits ++ v) (length sign) refl in
    let le = all_le is_digit digits v d in
    let long = ap length parts ∙ length-append sign digits in
    rw (is, regrouped, n, at, ne_eqb (prefix_len is_digit (digits ++ v)) 0 (omega arith)) (omega (arith, long))

sign_is : (s : List ℕ) → IsSign (take (sign_len s) s) × (sign_len s ≤ length s)
sign_is [] = (tt, omega arith)
sign_is (b ∷ s) =
    elim (cases_Bool (is_sign b)) [
      | inr n ↦ rw n (tt, omega arith)
      | inl y ↦ rw y (y, omega arith)
    ]

exponent_with : (e : ℕ) (s : List ℕ) (sign digits : ℕ) → is_exponent_mark e ≡ true → sign ≡ sign_len s
    → digits ≡ prefix_len is_digit (drop sign s) → (eqb digits 0 ≡ false) → IsExponent (take (1 + (sign + digits)) (e ∷ s))
exponent_with e s sign digits is sign_as digits_as some =
    let one : 1 + (sign + digits) ≡ suc (sign + digits) = omega arith in
    let len : length (take digits (drop sign s)) ≡ digits =
    length-take-le digits (drop sign s) (rw digits_as (prefix_len-le-length is_digit (drop sign s))) in
    rw one (
      is,
      take sign s,
      take digits (drop sign s),
      take-add sign digits s,
      rw sign_as (sign_is s).0,
      rw len (omega (arith, eqb-false digits 0 some)),
      rw digits_as (prefix_all is_digit (drop sign s)),
    )

exponent_is : (s : List ℕ) → IsExponent (take (exponent_len s) s)
exponent_is [] = tt
exponent_is (e ∷ s) =
    elim (cases_Bool (is_exponent_mark e)) [
      | inr n ↦ rw n tt
      | inl y ↦
          elim (cases_Bool (eqb (prefix_len is_digit (drop (sign_len s) s)) 0)) [
            | inl z ↦ rw (y, z) tt
            | inr z ↦ rw (y, z) (exponent_with e s (sign_len s) (prefix_len is_digit (drop (sign_len s) s)) y refl refl z)
          ]
    ]

-- ---- numbers

pub number_with : (m x v : List ℕ) → IsMantissa m → IsExponent x → length (m ++ x) ≤ number_len (m ++ (x ++ v))
number_with m x v hm hx =
    let s = m ++ (x ++ v) in
    let n = mantissa_len s in
    let le = mantissa_longest m (x ++ v) hm in
    let some = mantissa_some m hm in
    rw (ne_eqb (mantissa_len (m ++ (x ++ v))) 0 (omega arith), length-append) (
    elim (cases_lt (length m) n) [
      | inr ge ↦
          let same : mantissa_len (m ++ (x ++ v)) ≡ length m = omega arith in
          let at = drop_at m (x ++ v) (length m) refl in
          rw (same, at) (omega (arith, exponent_longest x v hx))
      | inl lt ↦ shorter x v hx lt
    ])
  where
    shorter : (x v : List ℕ) → IsExponent x → length m < mantissa_len (m ++ (x ++ v))
        → length m + length x ≤ mantissa_len (m ++ (x ++ v)) + exponent_len (drop (mantissa_len (m ++ (x ++ v))) (m ++ (x ++ v)))
    shorter [] v h lt = omega arith
    shorter (e ∷ x) v h lt =
        let s = m ++ (e ∷ (x ++ v)) in
        let n = mantissa_len s in
        let all = mantissa_bytes (take n s) (mantissa_is s (omega arith)) in
        let long : length m < length (take n s) = omega (arith, length-take n s, length-append m (e ∷ (x ++ v))) in
        let one = all_at is_mantissa_byte (take n s) (length m) all long in
        let at : get_or (take n s) (length m) 0 ≡ e = get_or-take n s (length m) 0 lt ∙ get_or_at m e (x ++ v) 0 (length m) refl in
        absurd (mark_no_mantissa e h.0 (sym (ap is_mantissa_byte at) ∙ one))

pub number_is : (s : List ℕ) → (number_len s ≡ 0 → ⊥) → IsNumber (take (number_len s) s)
number_is s some =
    elim (cases_Bool (eqb (mantissa_len s) 0)) [
      | inl z ↦ absurd (some (rw z refl))
      | inr z ↦
          let n = mantissa_len s in
          let e = exponent_len (drop n s) in
          rw z (
            take n s,
            take e (drop n s),
            take-add n e s,
            mantissa_is s (omega (arith, eqb-false (mantissa_len s) 0 z)),
            exponent_is (drop n s),
          )
    ]

-- ---- within the bytes

fraction_le : (w : ℕ) (r : List ℕ) → fraction_len w r ≤ w + length r
fraction_le w [] = omega arith
fraction_le w (b ∷ r) = let h = prefix_len-le-length is_digit r in grind (arith, nat_tests, h)

mantissa_le : (s : List ℕ) → mantissa_len s ≤ length s
mantissa_le s = let w = prefix_len is_digit s in omega (
  arith,
  fraction_le w (drop w s),
  length-drop w s,
  prefix_len-le-length is_digit s,
)

exponent_le : (s : List ℕ) → exponent_len s ≤ length s
exponent_le [] = omega arith
exponent_le (e ∷ s) =
    let h = prefix_len-le-length is_digit (drop (sign_len s) s) in
    let g = length-drop (sign_len s) s in
    let f = (sign_is s).1 in
    grind (arith, nat_tests, f, g, h)

pub number_le : (s : List ℕ) → number_len s ≤ length s
number_le s =
    let n = mantissa_len s in
    let a = mantissa_le s in
    let b = exponent_le (drop n s) in
    let c = length-drop n s in
    elim (cases_Bool (eqb (mantissa_len s) 0)) [ inl z ↦ rw z (omega arith) | inr z ↦ rw z (omega arith) ]
