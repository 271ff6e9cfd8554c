-- The parts of a number: the test `is_number` in terms of the parts of its bytes.
use Rattle.std.proofs.Common.{◌≡◌, ℕ, suc, ◌+◌, ◌<◌, Bool, true, false, not, IsTrue, cond, ◌&&◌, ◌||◌, List, [], ◌∷◌, ◌++◌, length}
use Rattle.std.proofs.Common.{take, drop, refl, sym, ap, subst, ◌∙◌, append-nil, arith, ◌⊎◌, inl, inr}
use Rattle.std.specs.List.{list_all, list_any, position_or_len, before_first, after_first}
use Rattle.std.proofs.lemmas.Bool.{cases_Bool, and_parts, and_from, or_left, or_right, not-true, not_from_false, not_from_true}
use Rattle.std.proofs.lemmas.Bool.Decides.{nat_tests}
use Rattle.std.proofs.lemmas.List.{take_at}
use Rattle.std.proofs.lemmas.List.Folds.{list_any-append}
use Rattle.dbc_values.specs.Lexical.{point, is_point, is_digit, is_sign, is_exponent_mark, is_digits, is_signed_digits, is_mantissa}
use Rattle.dbc_values.specs.Lexical.{is_number}
use Rattle.dbc_tokens.proofs.Runs.{all_stop, all_append, all_weaker}

-- ---- the parts

-- digits; or digits, a point and digits, at least one of them
abbrev pub IsMantissa : List ℕ → Type 0
IsMantissa bytes = (whole fraction : List ℕ) × IsTrue (list_all is_digit whole) × IsTrue (list_all is_digit fraction)
    × (0 < length whole + length fraction)
    × ((bytes ≡ whole ++ point ∷ fraction) ⊎ ((bytes ≡ whole) × (fraction ≡ [])))

abbrev pub IsSign : List ℕ → Type 0
IsSign [] = Unit {0}
IsSign (b ∷ []) = IsTrue (is_sign b)
IsSign (b ∷ c ∷ bytes) = ⊥

-- nothing; or `E` or `e`, perhaps a sign, and at least one digit
abbrev pub IsExponent : List ℕ → Type 0
IsExponent [] = Unit {0}
IsExponent (e ∷ bytes) = IsTrue (is_exponent_mark e) × (sign digits : List ℕ) × (bytes ≡ sign ++ digits) × IsSign sign
    × (0 < length digits) × IsTrue (list_all is_digit digits)

abbrev pub IsNumber : List ℕ → Type 0
IsNumber bytes = (mantissa exponent : List ℕ) × (bytes ≡ mantissa ++ exponent) × IsMantissa mantissa × IsExponent exponent

-- ---- a list at the first byte that passes a test

abbrev pub fails_all : (ℕ → Bool) → List ℕ → Bool
fails_all p bytes = list_all (λ b. not (p b)) bytes

-- no byte passes; or one does, and none before it
abbrev Split : (ℕ → Bool) → List ℕ → Type 0
Split p s = (fails_all p s ≡ true) ⊎ ((u : List ℕ) × (b : ℕ) × (v : List ℕ) × (s ≡ u ++ b ∷ v) × (p b ≡ true)
    × (fails_all p u ≡ true))

split_more : (p : ℕ → Bool) (b : ℕ) (s : List ℕ) → p b ≡ false → Split p s → Split p (b ∷ s)
split_more p b s e (inl none) = inl (and_from _ _ (not_from_false (p b) e) none)
split_more p b s e (inr (u, c, v, whole, is, none)) = inr (
  b ∷ u,
  c,
  v,
  ap (λ (t : List ℕ). b ∷ t) whole,
  is,
  and_from _ _ (not_from_false (p b) e) none,
)

split_of : (p : ℕ → Bool) (s : List ℕ) → Split p s
split_of p [] = inl refl
split_of p (b ∷ s) = elim (cases_Bool (p b)) [ inl e ↦ inr ([], b, s, refl, e, refl) | inr e ↦ split_more p b s e (split_of p s) ]

-- what is before and after that byte
pub record Halves (p : ℕ → Bool) (s u v : List ℕ) (some : Bool) : Type 0 where
  pub before : before_first p s ≡ u
  pub after : after_first p s ≡ v
  pub any : list_any p s ≡ some

none_any : (p : ℕ → Bool) (s : List ℕ) → fails_all p s ≡ true → list_any p s ≡ false
none_any p [] h = refl
none_any p (b ∷ s) h = let both = and_parts (not (p b)) (fails_all p s) h in rw (not-true (p b) both.0) (none_any p s both.1)

pub halves_none : (p : ℕ → Bool) (s : List ℕ) → fails_all p s ≡ true → Halves p s s [] false
halves_none p s h =
    let n : position_or_len p (s ++ []) ≡ length s = all_stop (λ b. not (p b)) s [] h tt in
    let m : position_or_len p s ≡ length s = subst (λ t. position_or_len p t ≡ length s) (append-nil s) n in
    record {
      before = rw m (ap (take (length s)) (sym (append-nil s)) ∙ take_at s [] (length s) refl);
      after = rw m (past s);
      any = none_any p s h;
    }
  where
    past : (s : List ℕ) → drop (length s + 1) s ≡ []
    past [] = refl
    past (b ∷ s) = let e : suc (length s) + 1 ≡ suc (length s + 1) = omega arith in rw e (past s)

pub halves_some : (p : ℕ → Bool) (u : List ℕ) (b : ℕ) (v : List ℕ) → fails_all p u ≡ true → p b ≡ true
    → Halves p (u ++ b ∷ v) u v true
halves_some p u b v h is =
    let n : position_or_len p (u ++ b ∷ v) ≡ length u = all_stop (λ b. not (p b)) u (b ∷ v) h (not_from_true (p b) is) in
    record {
      before = rw n (take_at u (b ∷ v) (length u) refl);
      after = rw n (past u);
      any = list_any-append p u (b ∷ v) ∙ or_right _ _ (or_left _ _ is);
    }
  where
    past : (u : List ℕ) → drop (length u + 1) (u ++ b ∷ v) ≡ v
    past [] = refl
    past (c ∷ u) = let e : suc (length u) + 1 ≡ suc (length u + 1) = omega arith in rw e (past u)

-- ---- from the test to the parts

mantissa_parts : (m : List ℕ) → is_mantissa m ≡ true → IsMantissa m
mantissa_parts m h = by (split_of is_point m)
  where
    some : (m : List ℕ) → list_any is_digit m ≡ true → 0 < length m
    some [] h = absurd cc
    some (b ∷ m) h = omega arith

    some_of : (u : List ℕ) (b : ℕ) (v : List ℕ) → is_point b ≡ true → list_any is_digit (u ++ b ∷ v) ≡ true
        → 0 < length u + length v
    some_of [] b [] is h = absurd (grind (arith, nat_tests))
    some_of [] b (c ∷ v) is h = omega arith
    some_of (c ∷ u) b v is h = omega arith

    parts : is_mantissa m ≡ true → (list_all is_digit (before_first is_point m) ≡ true)
        × (list_all is_digit (after_first is_point m) ≡ true) × (list_any is_digit m ≡ true)
    parts h =
        let outer = and_parts (list_all is_digit (before_first is_point m) && list_all is_digit (after_first is_point m))
        (list_any is_digit m) h in
        let inner = and_parts (list_all is_digit (before_first is_point m)) (list_all is_digit (after_first is_point m)) outer.0 in
        (inner.0, inner.1, outer.1)

    by : Split is_point m → IsMantissa m
    by (inl none) =
        let halves = halves_none is_point m none in
        let three = parts h in
        (m, [], rw halves.before at three.0, refl, omega (arith, some m three.2), inr (refl, refl))
    by (inr (u, b, v, whole, is, none)) =
        let halves : Halves is_point m u v true = rw whole (halves_some is_point u b v none is) in
        let three = parts h in
        let any : list_any is_digit (u ++ b ∷ v) ≡ true = subst (λ t. list_any is_digit t ≡ true) whole three.2 in
        let same : b ≡ point = grind (arith, nat_tests) in (
          u,
          v,
          rw halves.before at three.0,
          rw halves.after at three.1,
          some_of u b v is any,
          inl (whole ∙ ap (λ (c : ℕ). u ++ c ∷ v) same),
        )

pub digits_parts : (digits : List ℕ) → is_digits digits ≡ true → (0 < length digits) × (list_all is_digit digits ≡ true)
digits_parts [] h = absurd cc
digits_parts (b ∷ digits) h = (omega arith, h)

exponent_parts : (e : ℕ) (bytes : List ℕ) → is_exponent_mark e ≡ true → is_signed_digits bytes ≡ true → IsExponent (e ∷ bytes)
exponent_parts e [] is h = absurd cc
exponent_parts e (b ∷ bytes) is h =
    elim (cases_Bool (is_sign b)) [
      | inl s ↦
          let d = digits_parts bytes (sym (cond-is (is_sign b) (is_digits bytes) (is_digits (b ∷ bytes)) s) ∙ h) in
          (is, b ∷ [], bytes, refl, s, d.0, d.1)
      | inr s ↦
          let d = digits_parts (b ∷ bytes) (sym (cond-not (is_sign b) (is_digits bytes) (is_digits (b ∷ bytes)) s) ∙ h) in
          (is, [], b ∷ bytes, refl, tt, d.0, d.1)
    ]
  where
    cond-is : (c x y : Bool) → c ≡ true → cond c x y ≡ x
    cond-is c x y e = rw e refl

    cond-not : (c x y : Bool) → c ≡ false → cond c x y ≡ y
    cond-not c x y e = rw e refl

pub number_parts : (bytes : List ℕ) → is_number bytes ≡ true → IsNumber bytes
unfolding is_number
number_parts bytes h = by (split_of is_exponent_mark bytes)
  where
    by : Split is_exponent_mark bytes → IsNumber bytes
    by (inl none) =
        let halves = halves_none is_exponent_mark bytes none in
        let mantissa = (and_parts (is_mantissa (before_first is_exponent_mark bytes)) (cond (list_any is_exponent_mark bytes)
        (is_signed_digits (after_first is_exponent_mark bytes)) true) h).0 in
        (bytes, [], sym (append-nil bytes), mantissa_parts bytes (rw halves.before at mantissa), tt)
    by (inr (u, b, v, whole, is, none)) =
        let halves : Halves is_exponent_mark bytes u v true = rw whole (halves_some is_exponent_mark u b v none is) in
        let both = and_parts (is_mantissa (before_first is_exponent_mark bytes)) (cond (list_any is_exponent_mark bytes)
        (is_signed_digits (after_first is_exponent_mark bytes)) true) h in
        let exponent : cond true (is_signed_digits v) true ≡ true = subst (λ t. cond true (is_signed_digits t) true ≡ true)
        halves.after (subst (λ c. cond c (is_signed_digits (after_first is_exponent_mark bytes)) true ≡ true) halves.any
        both.1) in
        (u, b ∷ v, whole, mantissa_parts u (rw halves.before at both.0), exponent_parts b v is exponent)

-- ---- from the parts to the test

digit_any : (digits : List ℕ) → 0 < length digits → list_all is_digit digits ≡ true → list_any is_digit digits ≡ true
digit_any [] some h = absurd (omega arith)
digit_any (b ∷ digits) some h = or_left _ _ (and_parts (is_digit b) (list_all is_digit digits) h).0

-- a byte of a mantissa
abbrev pub is_mantissa_byte : ℕ → Bool
is_mantissa_byte b = is_digit b || is_point b

digit_no_point : (b : ℕ) → is_digit b ≡ true → not (is_point b) ≡ true
digit_no_point b h = grind (arith, nat_tests)

mantissa_no_mark : (b : ℕ) → is_mantissa_byte b ≡ true → not (is_exponent_mark b) ≡ true
mantissa_no_mark b h = grind (arith, nat_tests)

digit_no_sign : (b : ℕ) → is_digit b ≡ true → is_sign b ≡ false
digit_no_sign b h = grind (arith, nat_tests)

pub digit_is_mantissa_byte : (b : ℕ) → is_digit b ≡ true → is_mantissa_byte b ≡ true
digit_is_mantissa_byte b h = or_left (is_digit b) (is_point b) h

pub mantissa_bytes : (m : List ℕ) → IsMantissa m → list_all is_mantissa_byte m ≡ true
mantissa_bytes m (whole, fraction, w, f, some, inl e) =
    rw e (all_append is_mantissa_byte whole (point ∷ fraction) (all_weaker is_digit is_mantissa_byte whole digit_is_mantissa_byte w)
    (all_weaker is_digit is_mantissa_byte fraction digit_is_mantissa_byte f))
mantissa_bytes m (whole, fraction, w, f, some, inr e) = rw e.0 (all_weaker is_digit is_mantissa_byte whole digit_is_mantissa_byte w)

mantissa_test : (m : List ℕ) → IsMantissa m → is_mantissa m ≡ true
mantissa_test m (whole, fraction, w, f, some, inl e) =
    let halves = halves_some is_point whole point fraction (all_weaker is_digit (λ b. not (is_point b)) whole digit_no_point w)
    refl in
    rw (e, halves.before, halves.after, w, f) (list_any-append is_digit whole (point ∷ fraction) ∙ any whole fraction some w f)
  where
    any : (whole fraction : List ℕ) → 0 < length whole + length fraction → list_all is_digit whole ≡ true
        → list_all is_digit fraction ≡ true → (list_any is_digit whole || list_any is_digit (point ∷ fraction)) ≡ true
    any [] fraction some w f = digit_any fraction (omega arith) f
    any (b ∷ whole) fraction some w f = or_left _ _ (digit_any (b ∷ whole) (omega arith) w)
mantissa_test m (whole, fraction, w, f, some, inr e) =
    let halves = halves_none is_point whole (all_weaker is_digit (λ b. not (is_point b)) whole digit_no_point w) in
    rw (e.0, halves.before, halves.after, w) (digit_any whole (omega (arith, ap length e.1)) w)

exponent_test : (sign digits : List ℕ) → IsSign sign → 0 < length digits → list_all is_digit digits ≡ true
    → is_signed_digits (sign ++ digits) ≡ true
exponent_test [] [] s some d = absurd (omega arith)
exponent_test [] (b ∷ digits) s some d = rw (digit_no_sign b (and_parts (is_digit b) (list_all is_digit digits) d).0) d
exponent_test (b ∷ []) [] s some d = absurd (omega arith)
exponent_test (b ∷ []) (c ∷ digits) s some d = rw s d
exponent_test (b ∷ c ∷ sign) digits s some d = elim s [ ]

pub number_test : (bytes : List ℕ) → IsNumber bytes → is_number bytes ≡ true
unfolding is_number
number_test bytes (m, [], whole, hm, hx) =
    let no_mark = all_weaker is_mantissa_byte (λ b. not (is_exponent_mark b)) m mantissa_no_mark (mantissa_bytes m hm) in
    let halves = halves_none is_exponent_mark m no_mark in
    rw (whole ∙ append-nil m, halves.before, halves.any, mantissa_test m hm) refl
number_test bytes (m, e ∷ x, whole, hm, (is, sign, digits, parts, s, some, d)) =
    let no_mark = all_weaker is_mantissa_byte (λ b. not (is_exponent_mark b)) m mantissa_no_mark (mantissa_bytes m hm) in
    let halves = halves_some is_exponent_mark m e x no_mark is in
    rw (whole, halves.before, halves.after, halves.any, mantissa_test m hm, parts) (exponent_test sign digits s some d)
