-- The stamp of a line is a number of JSON, without its leading zeros.
use Rattle.std.proofs.Common.{◌≡◌, ℕ, ◌+◌, ◌-◌, ◌<◌, ◌==◌, ◌&&◌, Bool, true, false, List, [], ◌∷◌, ◌++◌, length, take, drop, Some}
use Rattle.std.proofs.Common.{cond, not, if◌then◌else◌, refl, sym, ap, ◌∙◌, subst, arith, append_assoc}
use Rattle.std.specs.Prelude.{◌↔◌}
use Rattle.std.specs.List.{AllByRecursion, prefix_len}
use Rattle.std.specs.Char.{digit_value}
use Rattle.std.specs.Str.Parse.{AllDigits, IsNumeral}
use Rattle.std.proofs.Math.Seq.{take-append_seam}
use Rattle.std.proofs.lemmas.List.{length-append}
use Rattle.json.specs.Print.{IsNumber}
use Rattle.dbc_values.specs.Lexical.{is_digit}
use Rattle.dbc_records.specs.Layout.{sign_text}
use Rattle.can_frames.specs.LogLines.{first_word, is_log_blank}
use Rattle.can_frames.specs.LogGrammar.{AreDigits, AreBlanks, IsStampText, IsLogLine}
use Rattle.can_frames.specs.Frames.{Frame, frame_of}
use Rattle.can_frames.proofs.LineWords.{first_word_is, blanks_end}
use Rattle.can_frames.proofs.Stamps.{stamp_unbroken}
use Rattle.can_json_lines.specs.Lines.{without_leading_zeros, time_of}
use Rattle.can_json_laws.proofs.Numbers.{plain_number}

-- what is left of digits before a point
record IsStripped (digits rest : List ℕ) : Type 0 where
  whole : List ℕ
  is : without_leading_zeros (digits ++ 46 ∷ rest) ≡ whole ++ 46 ∷ rest
  numeral : IsNumeral 10 whole
  first : (after : List ℕ) → whole ≡ 48 ∷ after → after ≡ []

digit_below : (d : ℕ) → is_digit d ≡ true → digit_value d < 10
digit_below d is = grind arith

all_digits : (digits : List ℕ) → AllByRecursion (λ b. is_digit b ≡ true) digits → AllDigits 10 digits
all_digits [] all = tt
all_digits (d ∷ digits) all = (digit_below d all.0, all_digits digits all.1)

-- a digit that a digit follows
stripped_by : (d e : ℕ) (digits rest : List ℕ) (zero : Bool) → d == 48 ≡ zero
    → AllByRecursion (λ b. is_digit b ≡ true) (d ∷ e ∷ digits)
    → IsStripped (e ∷ digits) rest → IsStripped (d ∷ e ∷ digits) rest
stripped_by d e digits rest true is all fewer = record {
  whole = fewer.whole;
  is = ap (λ (b : Bool). if b && is_digit e then without_leading_zeros (e ∷ digits ++ 46 ∷ rest)
      else d ∷ e ∷ digits ++ 46 ∷ rest) is
      ∙ ap (λ (b : Bool). if b then without_leading_zeros (e ∷ digits ++ 46 ∷ rest) else d ∷ e ∷ digits ++ 46 ∷ rest) all.1.0
      ∙ fewer.is;
  numeral = fewer.numeral;
  first = fewer.first;
}
stripped_by d e digits rest false is all fewer = record {
  whole = d ∷ e ∷ digits;
  is = ap (λ (b : Bool). if b && is_digit e then without_leading_zeros (e ∷ digits ++ 46 ∷ rest)
      else d ∷ e ∷ digits ++ 46 ∷ rest) is;
  numeral = (omega arith, all_digits (d ∷ e ∷ digits) all);
  first = λ after same. absurd (grind (arith, is, same));
}

one_digit : (d : ℕ) (rest : List ℕ) (zero : Bool) → d == 48 ≡ zero → is_digit d ≡ true
    → IsStripped (d ∷ []) rest
one_digit d rest true is digit = record {
  whole = d ∷ [];
  is = ap (λ (b : Bool). if b && false then without_leading_zeros (46 ∷ rest) else d ∷ 46 ∷ rest) is;
  numeral = (omega arith, (digit_below d digit, tt));
  first = λ after same. let tails : [] ≡ after = ap (λ (xs : List ℕ). drop 1 xs) same in sym tails;
}
one_digit d rest false is digit = record {
  whole = d ∷ [];
  is = ap (λ (b : Bool). if b && false then without_leading_zeros (46 ∷ rest) else d ∷ 46 ∷ rest) is;
  numeral = (omega arith, (digit_below d digit, tt));
  first = λ after same. let tails : [] ≡ after = ap (λ (xs : List ℕ). drop 1 xs) same in sym tails;
}

stripped : (digits rest : List ℕ) → 0 < length digits → AllByRecursion (λ b. is_digit b ≡ true) digits → IsStripped digits rest
stripped [] rest some all = absurd (omega (arith, some))
stripped (d ∷ []) rest some all = one_digit d rest (d == 48) refl all.0
stripped (d ∷ e ∷ digits) rest some all =
    stripped_by d e digits rest (d == 48) refl all (stripped (e ∷ digits) rest (omega arith) all.1)

-- digits, a point and digits
with_fraction : (seconds fraction : List ℕ) → AreDigits seconds → AllDigits 10 fraction → 0 < length fraction
    → IsNumber (without_leading_zeros (seconds ++ 46 ∷ fraction))
unfolding sign_text
with_fraction seconds [] first all some = absurd (omega (arith, some))
with_fraction seconds (f ∷ fraction) first all some =
    let left = stripped seconds (f ∷ fraction) first.some first.digit in
    subst IsNumber (sym left.is) (plain_number false left.whole (f ∷ fraction) left.numeral all left.first)

stamp_number : (seconds fraction : List ℕ) → AreDigits seconds → AreDigits fraction
    → IsNumber (without_leading_zeros (seconds ++ 46 ∷ fraction))
stamp_number seconds fraction first second = with_fraction seconds fraction first (all_digits fraction second.digit) second.some

-- what is between parentheses
inner_is : (word inner : List ℕ) → word ≡ 40 ∷ (inner ++ 41 ∷ []) → take (length word - 2) (drop 1 word) ≡ inner
inner_is word inner is =
    let long : length word - 2 ≡ length inner =
    ap (λ (w : List ℕ). length w - 2) is ∙ omega (arith, length-append inner (41 ∷ [])) in
    ap (λ (n : ℕ). take n (drop 1 word)) long ∙ ap (λ (w : List ℕ). take (length inner) (drop 1 w)) is
    ∙ take-append_seam inner (41 ∷ [])

stamp_time : (word : List ℕ) → IsStampText word → IsNumber (without_leading_zeros (take (length word - 2) (drop 1 word)))
stamp_time word is =
    let inner = is.seconds ++ 46 ∷ is.fraction in
    let spelled : word ≡ 40 ∷ (inner ++ 41 ∷ []) =
    is.spelled ∙ ap (λ (w : List ℕ). 40 ∷ w) (sym (append_assoc is.seconds (46 ∷ is.fraction) (41 ∷ []))) in
    subst (λ (text : List ℕ). IsNumber (without_leading_zeros text)) (sym (inner_is word inner spelled))
    (stamp_number is.seconds is.fraction is.seconds_are is.fraction_is)

-- ---- the first word of a line

-- what the law of log lines states
abbrev pub LinesAreGiven : Type 0
LinesAreGiven = (body : List ℕ) (frame : Frame) → (frame_of body ≡ Some frame) ↔ IsLogLine body frame

stamp_of : LinesAreGiven → (body : List ℕ) (frame : Frame) → frame_of body ≡ Some frame → IsStampText (first_word body)
stamp_of given body frame is =
    let line : IsLogLine body frame = (given body frame).0 is in
    let rest = line.interface ++ (line.interface_gap ++ (line.frame_text ++ line.after)) in
    subst IsStampText (sym (ap first_word line.parts
    ∙ first_word_is line.stamp (line.stamp_gap ++ rest) (stamp_unbroken line.stamp line.stamp_is)
    (blanks_end line.stamp_gap rest line.stamp_gap_is))) line.stamp_is

pub time_number : LinesAreGiven → (body : List ℕ) (frame : Frame) → frame_of body ≡ Some frame → IsNumber (time_of body)
unfolding time_of
time_number given body frame is = stamp_time (first_word body) (stamp_of given body frame is)
