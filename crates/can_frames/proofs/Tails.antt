-- What is after the first `#`: classic, FD and remote frames.
use Rattle.std.proofs.Common.{◌≡◌, ℕ, ◌-◌, ◌*◌, ◌≤◌, ◌==◌, ◌&&◌, ◌||◌, ◌⊎◌, inl, inr, nat_le, Bool, true, false, true≢false, cond}
use Rattle.std.proofs.Common.{List, [], ◌∷◌, ◌++◌, length, take, drop, Option, Some, None, is_some, refl, sym, ap, subst, ◌∙◌}
use Rattle.std.proofs.Common.{⊎_elim, arith, append-nil, take-append-drop, length-take, length-drop}
use Rattle.std.specs.Prelude.{⊤}
use Rattle.std.proofs.Math.Seq.{take-append_seam, drop-append_seam}
use Rattle.std.proofs.Math.ListN.{drop_of_length-le}
use Rattle.std.proofs.lemmas.Bool.{and_parts, and_from, or_left, or_right, or_from, eqb-true, eq-eqb, ne_eqb, leb-true, le-leb}
use Rattle.hex.specs.Hex.{hex_digit_value, is_hex_digit}
use Rattle.dbc_values.specs.Lexical.{digit_zero, digit_nine, capital_a, small_a, underscore, space, tab}
use Rattle.can_frames.specs.declared.frame.Kind.{Kind}
use Rattle.can_frames.specs.declared.frame.Kind.TheVariants.{Classic, Fd, Remote, Error}
use Rattle.can_frames.specs.LogLines.{is_log_blank}
use Rattle.can_frames.specs.Frames.{Form, number_sign, digit_eight, capital_f, capital_r, small_f, is_raw_length}
use Rattle.can_frames.specs.Frames.{is_raw_length_code, classic_form, fd_form, is_asked_length, remote_form, form_of}
use Rattle.can_frames.specs.LogGrammar.{HasNoBlank, SpellsBytes, IsLengthCode, IsLengthDigit, IsEightWithCode, IsTail}
use Rattle.can_frames.proofs.Hexadecimals.{some_same, no_digit, digit_unbroken, pairs_unbroken, length-SpellsBytes}
use Rattle.can_frames.proofs.Runs.{all_append}

-- ---- raw length codes

record IsGreatDigit (b : ℕ) : Type 0 where
  value : ℕ
  worth : hex_digit_value b ≡ Some value
  great : 9 ≤ value

great_by : (b : ℕ) (nine upper lower : Bool) → (b == digit_nine) ≡ nine → (nat_le capital_a b && nat_le b capital_f) ≡ upper
    → (nat_le small_a b && nat_le b small_f) ≡ lower
    → (nine || upper || lower) ≡ true → IsGreatDigit b
great_by b nine true lower is_nine is_upper is_lower is =
    let within = and_parts (nat_le capital_a b) (nat_le b capital_f) is_upper in
    let from : 65 ≤ b = leb-true capital_a b within.0 in
    record { value = b - 55; worth = rw is_upper refl; great = omega (arith, from) }
great_by b nine false true is_nine is_upper is_lower is =
    let within = and_parts (nat_le small_a b) (nat_le b small_f) is_lower in
    let from : 97 ≤ b = leb-true small_a b within.0 in
    record { value = b - 87; worth = rw (is_upper, is_lower) refl; great = omega (arith, from) }
great_by b true false false is_nine is_upper is_lower is =
    let same : b ≡ digit_nine = eqb-true b digit_nine is_nine in
    subst IsGreatDigit (sym same) (record { value = 9; worth = refl; great = omega arith })
great_by b false false false is_nine is_upper is_lower is = absurd (true≢false (sym is))

raw_by : (b value : ℕ) (upper lower digit : Bool) → (nat_le 65 b && nat_le b 70) ≡ upper → (nat_le 97 b && nat_le b 102) ≡ lower
    → (nat_le 48 b && nat_le b 57) ≡ digit
    → cond upper (Some (b - 55)) (cond lower (Some (b - 87)) (cond digit (Some (b - 48)) None)) ≡ Some value → 9 ≤ value
    → is_raw_length b ≡ true
raw_by b value true lower digit is_upper is_lower is_digit is great =
    or_left (b == digit_nine || (nat_le capital_a b && nat_le b capital_f)) (nat_le small_a b && nat_le b small_f)
    (or_right (b == digit_nine) (nat_le capital_a b && nat_le b capital_f) is_upper)
raw_by b value false true digit is_upper is_lower is_digit is great =
    or_right (b == digit_nine || (nat_le capital_a b && nat_le b capital_f)) (nat_le small_a b && nat_le b small_f) is_lower
raw_by b value false false true is_upper is_lower is_digit is great =
    let within = and_parts (nat_le 48 b) (nat_le b 57) is_digit in
    let to : b ≤ 57 = leb-true b 57 within.1 in
    let worth : b - 48 ≡ value = some_same (b - 48) value is in
    or_left (b == digit_nine || (nat_le capital_a b && nat_le b capital_f)) (nat_le small_a b && nat_le b small_f)
    (or_left (b == digit_nine) (nat_le capital_a b && nat_le b capital_f)
    (eq-eqb b digit_nine (omega (arith, to, worth, great))))
raw_by b value false false false is_upper is_lower is_digit is great = absurd (let no : None ≡ Some value = is in cc)

code_found : (text : List ℕ) → is_raw_length_code text ≡ true → IsLengthCode text
code_found [] is = absurd (true≢false (sym is))
code_found (mark ∷ []) is = absurd (true≢false (sym is))
code_found (mark ∷ digit ∷ []) is =
    let both = and_parts (mark == underscore) (is_raw_length digit) is in
    let first : mark ≡ underscore = eqb-true mark underscore both.0 in
    let great : IsGreatDigit digit = great_by digit (digit == digit_nine) (nat_le capital_a digit && nat_le digit capital_f)
    (nat_le small_a digit && nat_le digit small_f) refl refl refl both.1 in
    record {
      digit = digit;
      value = great.value;
      spelled = ap (λ (mark : ℕ). mark ∷ digit ∷ []) first;
      worth = great.worth;
      great = great.great;
    }
code_found (mark ∷ digit ∷ more ∷ text) is = absurd (true≢false (sym is))

code_there : (text : List ℕ) → IsLengthCode text → is_raw_length_code text ≡ true
code_there text is =
    let raw : is_raw_length is.digit ≡ true =
    raw_by is.digit is.value (nat_le 65 is.digit && nat_le is.digit 70) (nat_le 97 is.digit && nat_le is.digit 102)
    (nat_le 48 is.digit && nat_le is.digit 57) refl refl refl is.worth is.great in
    ap is_raw_length_code is.spelled ∙ raw

-- ---- classic frames

abbrev the_form : Kind → List ℕ → Form
the_form kind digits = record { kind = kind; digits = digits }

coded_length : (text : List ℕ) → IsLengthCode (drop 16 text) → length (take 16 text) ≡ 16
coded_length text is =
    let two : length (drop 16 text) ≡ 2 = ap length is.spelled in
    let left = length-drop 16 text in
    let taken = length-take 16 text in
    omega (arith, two, left, taken)

classic_by : (text bytes : List ℕ) (form : Form) (coded fits : Bool) → is_raw_length_code (drop 16 text) ≡ coded
    → nat_le (length (cond coded (take 16 text) text)) 16 ≡ fits
    → cond fits (Some (the_form Classic (cond coded (take 16 text) text))) None ≡ Some form → SpellsBytes form.digits bytes
    → IsTail form.kind text bytes
classic_by text bytes form coded false is_coded is_fit is = absurd (let no : None ≡ Some form = is in cc)
classic_by text bytes form true true is_coded is_fit is =
    let code : IsLengthCode (drop 16 text) = code_found (drop 16 text) is_coded in
    let sixteen : length (take 16 text) ≡ 16 = coded_length text code in
    let same : the_form Classic (take 16 text) ≡ form = some_same (the_form Classic (take 16 text)) form is in
    subst (λ (form : Form). SpellsBytes form.digits bytes → IsTail form.kind text bytes) same (λ spelled.
    let pairs : length (take 16 text) ≡ 2 * length bytes = length-SpellsBytes (take 16 text) bytes spelled in
    record {
      pairs = take 16 text;
      code = drop 16 text;
      parts = sym (take-append-drop 16 text);
      spelled = spelled;
      few = omega (arith, sixteen, pairs);
      code_is = inr (omega (arith, sixteen, pairs), code);
    })
classic_by text bytes form false true is_coded is_fit is =
    let few : length text ≤ 16 = leb-true (length text) 16 is_fit in
    let same : the_form Classic text ≡ form = some_same (the_form Classic text) form is in
    subst (λ (form : Form). SpellsBytes form.digits bytes → IsTail form.kind text bytes) same (λ spelled.
    let pairs : length text ≡ 2 * length bytes = length-SpellsBytes text bytes spelled in
    record {
      pairs = text;
      code = [];
      parts = sym (append-nil text);
      spelled = spelled;
      few = omega (arith, few, pairs);
      code_is = inl refl;
    })

classic_found : (text bytes : List ℕ) (form : Form) → classic_form text ≡ Some form → SpellsBytes form.digits bytes
    → IsTail form.kind text bytes
unfolding classic_form
classic_found text bytes form is spelled =
    classic_by text bytes form (is_raw_length_code (drop 16 text))
    (nat_le (length (cond (is_raw_length_code (drop 16 text)) (take 16 text) text)) 16) refl refl is spelled

whole_there : (pairs : List ℕ) → length pairs ≤ 16 → classic_form pairs ≡ Some (the_form Classic pairs)
unfolding classic_form
whole_there pairs few =
    let none : drop 16 pairs ≡ [] = drop_of_length-le pairs few in
    rw (none, le-leb (length pairs) 16 few) refl

coded_there : (pairs code : List ℕ) → length pairs ≡ 16 → IsLengthCode code → classic_form (pairs ++ code)
    ≡ Some (the_form Classic pairs)
unfolding classic_form
coded_there pairs code sixteen is =
    let front : take 16 (pairs ++ code) ≡ pairs = ap (λ (n : ℕ). take n (pairs ++ code)) (sym sixteen)
    ∙ take-append_seam pairs code in
    let rest : drop 16 (pairs ++ code) ≡ code = ap (λ (n : ℕ). drop n (pairs ++ code)) (sym sixteen)
    ∙ drop-append_seam pairs code in
    rw (rest, code_there code is, front, le-leb (length pairs) 16 (omega (arith, sixteen))) refl

classic_parts : (pairs code bytes : List ℕ) → SpellsBytes pairs bytes → length bytes ≤ 8 → (code ≡ [])
    ⊎ ((length bytes ≡ 8) × IsLengthCode code) → classic_form (pairs ++ code) ≡ Some (the_form Classic pairs)
classic_parts pairs code bytes spelled few (inl none) =
    let count = length-SpellsBytes pairs bytes spelled in
    ap (λ code. classic_form (pairs ++ code)) none ∙ ap classic_form (append-nil pairs)
    ∙ whole_there pairs (omega (arith, count, few))
classic_parts pairs code bytes spelled few (inr coded) =
    let count = length-SpellsBytes pairs bytes spelled in
    let eight = coded.0 in
    coded_there pairs code (omega (arith, count, eight)) coded.1

-- ---- FD frames

record IsDigitOfFlags (b : ℕ) : Type 0 where
  value : ℕ
  worth : hex_digit_value b ≡ Some value

flags_by : (b : ℕ) (found : Option ℕ) → hex_digit_value b ≡ found → is_some found ≡ true → IsDigitOfFlags b
flags_by b (Some value) worth is = record { value = value; worth = worth }
flags_by b None worth is = absurd (true≢false (sym is))

fd_by : (flags : ℕ) (pairs bytes : List ℕ) (form : Form) (hexadecimal fits : Bool) → is_hex_digit flags ≡ hexadecimal
    → nat_le (length pairs) 128 ≡ fits
    → cond hexadecimal (cond fits (Some (the_form Fd pairs)) None) None ≡ Some form → SpellsBytes form.digits bytes
    → IsTail form.kind (number_sign ∷ flags ∷ pairs) bytes
fd_by flags pairs bytes form false fits is_flags is_fit is = absurd (let no : None ≡ Some form = is in cc)
fd_by flags pairs bytes form true false is_flags is_fit is = absurd (let no : None ≡ Some form = is in cc)
fd_by flags pairs bytes form true true is_flags is_fit is =
    let few : length pairs ≤ 128 = leb-true (length pairs) 128 is_fit in
    let digit : IsDigitOfFlags flags = flags_by flags (hex_digit_value flags) refl is_flags in
    let same : the_form Fd pairs ≡ form = some_same (the_form Fd pairs) form is in
    subst (λ (form : Form). SpellsBytes form.digits bytes → IsTail form.kind (number_sign ∷ flags ∷ pairs) bytes) same (λ spelled.
    let count : length pairs ≡ 2 * length bytes = length-SpellsBytes pairs bytes spelled in
    record {
      flags = flags;
      flags_value = digit.value;
      pairs = pairs;
      parts = refl;
      worth = digit.worth;
      spelled = spelled;
      few = omega (arith, few, count);
    })

fd_found : (text bytes : List ℕ) (form : Form) → fd_form text ≡ Some form → SpellsBytes form.digits bytes
    → IsTail form.kind (number_sign ∷ text) bytes
unfolding fd_form
fd_found [] bytes form is = absurd (let no : None ≡ Some form = is in cc)
fd_found (flags ∷ pairs) bytes form is = fd_by flags pairs bytes form (is_hex_digit flags) (nat_le (length pairs) 128) refl refl is

fd_there : (flags value : ℕ) (pairs : List ℕ) → hex_digit_value flags ≡ Some value → length pairs ≤ 128 → fd_form (flags ∷ pairs)
    ≡ Some (the_form Fd pairs)
unfolding fd_form
fd_there flags value pairs worth few = rw (worth, le-leb (length pairs) 128 few) refl

-- ---- remote frames

asked_found : (text : List ℕ) → is_asked_length text ≡ true → (text ≡ []) ⊎ (IsLengthDigit text ⊎ IsEightWithCode text)
asked_found [] is = inl refl
asked_found (digit ∷ []) is =
    let within = and_parts (nat_le digit_zero digit) (nat_le digit digit_eight) is in
    inr (inl (record {
      digit = digit;
      spelled = refl;
      from_zero = leb-true digit_zero digit within.0;
      to_eight = leb-true digit digit_eight within.1;
    }))
asked_found (digit ∷ mark ∷ text) is =
    let both = and_parts (digit == digit_eight) (is_raw_length_code (mark ∷ text)) is in
    let eight : digit ≡ digit_eight = eqb-true digit digit_eight both.0 in
    inr (inr (record {
      code = mark ∷ text;
      parts = ap (λ (digit : ℕ). digit ∷ mark ∷ text) eight;
      code_is = code_found (mark ∷ text) both.1;
    }))

digit_there : (text : List ℕ) → IsLengthDigit text → is_asked_length text ≡ true
digit_there text is =
    ap is_asked_length is.spelled ∙ and_from (nat_le digit_zero is.digit) (nat_le is.digit digit_eight)
    (le-leb digit_zero is.digit is.from_zero) (le-leb is.digit digit_eight is.to_eight)

eight_with : (code : List ℕ) (digit : ℕ) → code ≡ underscore ∷ digit ∷ [] → is_raw_length_code code ≡ true
    → is_asked_length (digit_eight ∷ code) ≡ true
eight_with code digit spelled is = ap (λ code. is_asked_length (digit_eight ∷ code)) spelled ∙ ap is_raw_length_code (sym spelled)
    ∙ is

eight_there : (text : List ℕ) → IsEightWithCode text → is_asked_length text ≡ true
eight_there text is = ap is_asked_length is.parts ∙ eight_with is.code is.code_is.digit is.code_is.spelled
    (code_there is.code is.code_is)

asked_there : (text : List ℕ) → (text ≡ []) ⊎ (IsLengthDigit text ⊎ IsEightWithCode text) → is_asked_length text ≡ true
asked_there text is = ⊎_elim (λ none. ap is_asked_length none) (⊎_elim (digit_there text) (eight_there text)) is

no_bytes : (bytes : List ℕ) → SpellsBytes [] bytes → bytes ≡ []
no_bytes [] spelled = refl
no_bytes (byte ∷ bytes) spelled = absurd spelled

remote_by : (text bytes : List ℕ) (form : Form) (asked : Bool) → is_asked_length text ≡ asked
    → cond asked (Some (the_form Remote [])) None ≡ Some form → SpellsBytes form.digits bytes
    → IsTail form.kind (capital_r ∷ text) bytes
remote_by text bytes form false is_asked is = absurd (let no : None ≡ Some form = is in cc)
remote_by text bytes form true is_asked is =
    let same : the_form Remote [] ≡ form = some_same (the_form Remote []) form is in
    subst (λ (form : Form). SpellsBytes form.digits bytes → IsTail form.kind (capital_r ∷ text) bytes) same
    (λ spelled. record { asked = text; parts = refl; asked_is = asked_found text is_asked; none = no_bytes bytes spelled })

remote_found : (text bytes : List ℕ) (form : Form) → remote_form text ≡ Some form → SpellsBytes form.digits bytes
    → IsTail form.kind (capital_r ∷ text) bytes
unfolding remote_form
remote_found text bytes form is = remote_by text bytes form (is_asked_length text) refl is

remote_there : (text : List ℕ) → is_asked_length text ≡ true → remote_form text ≡ Some (the_form Remote [])
unfolding remote_form
remote_there text is = rw is refl

-- ---- all of them

form_by : (b : ℕ) (text bytes : List ℕ) (form : Form) (fd remote : Bool) → (b == number_sign) ≡ fd → (b == capital_r) ≡ remote
    → cond fd (fd_form text) (cond remote (remote_form text) (classic_form (b ∷ text))) ≡ Some form → SpellsBytes form.digits bytes
    → IsTail form.kind (b ∷ text) bytes
form_by b text bytes form true remote is_fd is_remote is spelled =
    subst (λ (b : ℕ). IsTail form.kind (b ∷ text) bytes) (sym (eqb-true b number_sign is_fd)) (fd_found text bytes form is spelled)
form_by b text bytes form false true is_fd is_remote is spelled =
    subst (λ (b : ℕ). IsTail form.kind (b ∷ text) bytes) (sym (eqb-true b capital_r is_remote)) (remote_found text bytes form is
    spelled)
form_by b text bytes form false false is_fd is_remote is spelled = classic_found (b ∷ text) bytes form is spelled

pub form_found : (text bytes : List ℕ) (form : Form) → form_of text ≡ Some form → SpellsBytes form.digits bytes
    → IsTail form.kind text bytes
unfolding form_of
form_found [] bytes form is = classic_found [] bytes form is
form_found (b ∷ text) bytes form is = form_by b text bytes form (b == number_sign) (b == capital_r) refl refl is

-- a classic frame begins with neither mark
abbrev IsUnmarked : List ℕ → Type 0
IsUnmarked [] = ⊤
IsUnmarked (b ∷ text) = ((b == number_sign) ≡ false) × ((b == capital_r) ≡ false)

classic_of : (text : List ℕ) → IsUnmarked text → form_of text ≡ classic_form text
unfolding form_of
classic_of [] unmarked = refl
classic_of (b ∷ text) unmarked = rw (unmarked.0, unmarked.1) refl

unmarked : (pairs code bytes : List ℕ) → SpellsBytes pairs bytes → (code ≡ []) ⊎ ((length bytes ≡ 8) × IsLengthCode code)
    → IsUnmarked (pairs ++ code)
unmarked [] code [] spelled (inl none) = subst IsUnmarked (sym none) tt
unmarked [] code [] spelled (inr coded) = let eight = coded.0 in let no : ⊥ = omega (arith, eight) in absurd no
unmarked [] code (byte ∷ bytes) spelled code_is = absurd spelled
unmarked (digit ∷ []) code bytes spelled code_is = absurd spelled
unmarked (high ∷ low ∷ pairs) code [] spelled code_is = absurd spelled
unmarked (high ∷ low ∷ pairs) code (byte ∷ bytes) spelled code_is = (
  no_digit number_sign high spelled.0.0 refl spelled.0.1,
  no_digit capital_r high spelled.0.0 refl spelled.0.1,
)

-- the form of a text, and the bytes that its digits spell
pub record HasForm (kind : Kind) (text bytes : List ℕ) : Type 0 where
  pub digits : List ℕ
  pub form_is : form_of text ≡ Some (record { kind = kind; digits = digits })
  pub spelled : SpellsBytes digits bytes

marked_fd : (text : List ℕ) → form_of (number_sign ∷ text) ≡ fd_form text
unfolding form_of
marked_fd text = refl

marked_remote : (text : List ℕ) → form_of (capital_r ∷ text) ≡ remote_form text
unfolding form_of
marked_remote text = refl

pub form_there : (kind : Kind) (text bytes : List ℕ) → IsTail kind text bytes → HasForm kind text bytes
form_there Classic text bytes is =
    let form_is : form_of (is.pairs ++ is.code) ≡ Some (the_form Classic is.pairs) =
    classic_of (is.pairs ++ is.code) (unmarked is.pairs is.code bytes is.spelled is.code_is)
    ∙ classic_parts is.pairs is.code bytes is.spelled is.few is.code_is in
    record { digits = is.pairs; form_is = ap form_of is.parts ∙ form_is; spelled = is.spelled }
form_there Fd text bytes is =
    let count = length-SpellsBytes is.pairs bytes is.spelled in
    let few = is.few in
    record {
      digits = is.pairs;
      form_is = ap form_of is.parts ∙ marked_fd (is.flags ∷ is.pairs)
          ∙ fd_there is.flags is.flags_value is.pairs is.worth (omega (arith, count, few));
      spelled = is.spelled;
    }
form_there Remote text bytes is =
    record {
      digits = [];
      form_is = ap form_of is.parts ∙ marked_remote is.asked
          ∙ remote_there is.asked (asked_there is.asked is.asked_is);
      spelled = subst (SpellsBytes []) (sym is.none) tt;
    }
form_there Error text bytes is = absurd is

-- ---- no blank is in them

code_unbroken : (text : List ℕ) → IsLengthCode text → HasNoBlank text
code_unbroken text is = subst HasNoBlank (sym is.spelled) (refl, (digit_unbroken is.digit is.value is.worth, tt))

length_digit_unbroken : (text : List ℕ) → IsLengthDigit text → HasNoBlank text
length_digit_unbroken text is =
    let from = is.from_zero in
    let no_space : (is.digit == space) ≡ false = ne_eqb is.digit space (λ same. omega (arith, from, same)) in
    let no_tab : (is.digit == tab) ≡ false = ne_eqb is.digit tab (λ same. omega (arith, from, same)) in
    subst HasNoBlank (sym is.spelled) (or_from (is.digit == space) (is.digit == tab) no_space no_tab, tt)

asked_unbroken : (text : List ℕ) → (text ≡ []) ⊎ (IsLengthDigit text ⊎ IsEightWithCode text) → HasNoBlank text
asked_unbroken text is =
    ⊎_elim (λ none. subst HasNoBlank (sym none) tt)
    (⊎_elim (length_digit_unbroken text) (λ eight. subst HasNoBlank (sym eight.parts) (
      refl,
      code_unbroken eight.code eight.code_is,
    ))) is

pub tail_unbroken : (kind : Kind) (text bytes : List ℕ) → IsTail kind text bytes → HasNoBlank text
tail_unbroken Classic text bytes is =
    let code : HasNoBlank is.code = ⊎_elim (λ none. subst HasNoBlank (sym none) tt) (λ coded. code_unbroken is.code coded.1)
    is.code_is in
    subst HasNoBlank (sym is.parts) (all_append (λ b. is_log_blank b ≡ false) is.pairs is.code
    (pairs_unbroken is.pairs bytes is.spelled) code)
tail_unbroken Fd text bytes is = subst HasNoBlank (sym is.parts) (
  refl,
  (
    digit_unbroken is.flags is.flags_value is.worth,
    pairs_unbroken is.pairs bytes is.spelled,
  ),
)
tail_unbroken Remote text bytes is = subst HasNoBlank (sym is.parts) (refl, asked_unbroken is.asked is.asked_is)
tail_unbroken Error text bytes is = absurd is
