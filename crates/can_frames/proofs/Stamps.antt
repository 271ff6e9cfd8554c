-- The stamp of a line.
use Rattle.std.proofs.Common.{◌≡◌, ℕ, ◌<◌, ◌≤◌, ◌==◌, ◌&&◌, nat_lt, nat_le, true, false, true≢false, List, [], ◌∷◌, ◌++◌, length}
use Rattle.std.proofs.Common.{take, drop, bytes_eq, refl, sym, ap, ◌∙◌, arith}
use Rattle.std.specs.List.{prefix_len}
use Rattle.std.proofs.lemmas.Bool.{and_parts, and_from, eqb-true, leb-true, le-leb, ltb-true, lt-ltb}
use Rattle.std.proofs.lemmas.Slice.Eq.{bytes_eq-Decides}
use Rattle.std.proofs.lemmas.List.Folds.{length-prefix_len}
use Rattle.dbc_values.specs.Lexical.{opening_parenthesis, closing_parenthesis, point, is_digit, is_point}
use Rattle.can_frames.specs.LogLines.{is_log_blank, closes_stamp, is_fraction_end, is_seconds_end, is_stamp}
use Rattle.can_frames.specs.LogGrammar.{HasNoBlank, AreDigits, IsStampText}
use Rattle.can_frames.proofs.Runs.{all_since, all_append, Stops, front_passes, front_and_rest, rest_is, prefix_len_is}

abbrev front_digits : List ℕ → List ℕ
front_digits text = take (prefix_len is_digit text) text

abbrev following_digits : List ℕ → List ℕ
following_digits text = drop (prefix_len is_digit text) text

digits_found : (text : List ℕ) → 0 < prefix_len is_digit text → AreDigits (front_digits text)
digits_found text some = record { some = omega (arith, length-prefix_len is_digit text, some); digit = front_passes is_digit text }

-- ---- what passes the test is a stamp

record IsFraction (text : List ℕ) : Type 0 where
  fraction : List ℕ
  spelled : text ≡ point ∷ (fraction ++ closing_parenthesis ∷ [])
  fraction_is : AreDigits fraction
  short : length fraction ≤ 9

fraction_found : (text : List ℕ) → is_fraction_end text ≡ true → IsFraction text
fraction_found [] is = absurd (true≢false (sym is))
fraction_found (b ∷ text) is =
    let both = and_parts (is_point b) (closes_stamp (prefix_len is_digit text) (following_digits text)) is in
    let more = and_parts (nat_le 1 (prefix_len is_digit text) && nat_le (prefix_len is_digit text) 9)
    (bytes_eq (following_digits text) (closing_parenthesis ∷ [])) both.1 in
    let within = and_parts (nat_le 1 (prefix_len is_digit text)) (nat_le (prefix_len is_digit text) 9) more.0 in
    let first : b ≡ point = eqb-true b point both.0 in
    let last : following_digits text ≡ closing_parenthesis ∷ [] = (bytes_eq-Decides (following_digits text) (closing_parenthesis ∷
    [])).0
    more.1 in
    let some : 1 ≤ prefix_len is_digit text = leb-true 1 (prefix_len is_digit text) within.0 in
    let few : prefix_len is_digit text ≤ 9 = leb-true (prefix_len is_digit text) 9 within.1 in
    record {
      fraction = front_digits text;
      spelled = ap (λ (b : ℕ). b ∷ text) first ∙ ap (λ text. point ∷ text) (front_and_rest is_digit text
          ∙ ap (λ rest. front_digits text ++ rest) last);
      fraction_is = digits_found text (omega (arith, some));
      short = omega (arith, few, length-prefix_len is_digit text);
    }

pub stamp_found : (text : List ℕ) → is_stamp text ≡ true → IsStampText text
unfolding is_stamp
stamp_found [] is = absurd (true≢false (sym is))
stamp_found (b ∷ text) is =
    let both = and_parts (b == opening_parenthesis) (is_seconds_end text) is in
    let more = and_parts (nat_lt 0 (prefix_len is_digit text)) (is_fraction_end (following_digits text)) both.1 in
    let first : b ≡ opening_parenthesis = eqb-true b opening_parenthesis both.0 in
    let after : IsFraction (following_digits text) = fraction_found (following_digits text) more.1 in
    record {
      seconds = front_digits text;
      fraction = after.fraction;
      spelled = ap (λ (b : ℕ). b ∷ text) first ∙ ap (λ text. opening_parenthesis ∷ text) (front_and_rest is_digit text
          ∙ ap (λ rest. front_digits text ++ rest) after.spelled);
      seconds_are = digits_found text (ltb-true 0 (prefix_len is_digit text) more.0);
      fraction_is = after.fraction_is;
      short = after.short;
    }

-- ---- a stamp passes it

fraction_is_end : (fraction : List ℕ) → AreDigits fraction → length fraction ≤ 9
    → is_fraction_end (point ∷ (fraction ++ closing_parenthesis ∷ [])) ≡ true
fraction_is_end fraction are short =
    let count : prefix_len is_digit (fraction ++ closing_parenthesis ∷ []) ≡ length fraction =
    prefix_len_is is_digit fraction (closing_parenthesis ∷ []) are.digit refl in
    let rest : following_digits (fraction ++ closing_parenthesis ∷ []) ≡ closing_parenthesis ∷ [] =
    rest_is is_digit fraction (closing_parenthesis ∷ []) are.digit refl in
    rw (rest, count) (and_from (nat_le 1 (length fraction) && nat_le (length fraction) 9) true
    (and_from (nat_le 1 (length fraction)) (nat_le (length fraction) 9) (le-leb 1 (length fraction) (omega (arith, are.some)))
    (le-leb (length fraction) 9 short)) refl)

seconds_are_end : (seconds rest : List ℕ) → AreDigits seconds → Stops is_digit rest → is_fraction_end rest ≡ true
    → is_seconds_end (seconds ++ rest) ≡ true
seconds_are_end seconds rest are stops is =
    let count : prefix_len is_digit (seconds ++ rest) ≡ length seconds = prefix_len_is is_digit seconds rest are.digit stops in
    let after : following_digits (seconds ++ rest) ≡ rest = rest_is is_digit seconds rest are.digit stops in
    rw (after, count) (and_from (nat_lt 0 (length seconds)) (is_fraction_end rest) (lt-ltb 0 (length seconds) are.some) is)

stamp_passes : (seconds fraction : List ℕ) → AreDigits seconds → AreDigits fraction → length fraction ≤ 9
    → is_stamp (opening_parenthesis ∷ (seconds ++ point ∷ (fraction ++ closing_parenthesis ∷ []))) ≡ true
unfolding is_stamp
stamp_passes seconds fraction seconds_are fraction_is short =
    seconds_are_end seconds (point ∷ (fraction ++ closing_parenthesis ∷ [])) seconds_are refl (fraction_is_end fraction fraction_is
    short)

pub stamp_there : (text : List ℕ) → IsStampText text → is_stamp text ≡ true
stamp_there text is = rw is.spelled (stamp_passes is.seconds is.fraction is.seconds_are is.fraction_is is.short)

-- ---- a stamp has no blank

digit_no_blank : (b : ℕ) → is_digit b ≡ true → is_log_blank b ≡ false
digit_no_blank b is = grind (arith, is)

pub stamp_unbroken : (text : List ℕ) → IsStampText text → HasNoBlank text
stamp_unbroken text is =
    let fraction : HasNoBlank (is.fraction ++ closing_parenthesis ∷ []) =
    all_append (λ b. is_log_blank b ≡ false) is.fraction (closing_parenthesis ∷ []) (all_since digit_no_blank is.fraction
    is.fraction_is.digit) (refl, tt) in
    rw is.spelled (
      refl,
      all_append (λ b. is_log_blank b ≡ false) is.seconds (point ∷ (is.fraction ++ closing_parenthesis ∷ []))
          (all_since digit_no_blank is.seconds is.seconds_are.digit) (refl, fraction),
    )
