-- Digits alone are the whole number that they write, and what is read as a multiplexer indicator or as a byte order is spelled so.
use Rattle.std.proofs.Common.{◌≡◌, ℕ, ◌*◌, ◌-◌, ◌^◌, ℤ, pos, ◌-ℤ◌, Bool, true, false, cond, ◌&&◌, List, [], ◌∷◌, ◌++◌, length}
use Rattle.std.proofs.Common.{Option, Some, None, Result, Ok, Err, refl, sym, ap, subst, ◌∙◌, append-nil, arith}
use Rattle.std.specs.Prelude.{codes, nat_le, ◌==◌}
use Rattle.std.specs.List.{list_all, list_any, before_first, after_first}
use Rattle.std.specs.Str.{bytes_eq}
use Rattle.std.specs.Str.Parse.{digits_value, signed_digits_value}
use Rattle.std.proofs.lemmas.Bool.{and_parts, eqb-true}
use Rattle.std.proofs.lemmas.Grind.{common_steps}
use Rattle.std.proofs.lemmas.Slice.Eq.{bytes_eq-Decides}
use Rattle.dbc_values.specs.Lexical.{is_digit, is_digits, is_point, is_exponent_mark, is_number}
use Rattle.dbc_values.specs.Numbers.{mantissa_of, exponent_of, IsWholeNumber, whole_of_number}
use Rattle.dbc_records.specs.Records.{is_intel}
use Rattle.dbc_records.specs.Layout.{Order, items_of}
use Rattle.dbc_records.specs.CanonicalText.{tag_layout}
use Rattle.dbc_values.specs.declared.number.Whole.{Whole as WholeNumber}
use Rattle.dbc_values.specs.declared.number.Whole.TheVariants.{Fraction, TooLarge, Value}
use Rattle.dbc_records.specs.declared.byte_order.ByteOrder.{ByteOrder}
use Rattle.dbc_records.specs.declared.byte_order.ByteOrder.TheVariants as orders
use Rattle.dbc_records.specs.declared.tag.Tag.{Tag}
use Rattle.dbc_records.specs.declared.tag.Tag.TheVariants as tags
use Rattle.dbc_tokens.specs.declared.fault.Cause.{Cause}
use Rattle.dbc_tokens.specs.declared.fault.Cause.TheVariants as causes
use Rattle.dbc_tokens.specs.Tokens.{Token}
use Rattle.dbc_reader.specs.Classes.{bounded, whole_of, order_digit, order_of, tagged, counted, front, muxed_of, tag_of}
use Rattle.dbc_reader.specs.Forms.{Is, SpellsTag, Spelled, of_layout}
use Rattle.dbc_reader.specs.inner.Parts.{order_at, tag_token_at}
use Rattle.dbc_reader.proofs.Sound.{Sound, Reads, sound_one, reads_one}
use Rattle.dbc_reader.proofs.Sound.Kinds.{whole_spelled}

-- ---- byte order

order_ok : (o : Option WholeNumber) (order : ByteOrder) → order_digit o ≡ Ok order
    → o ≡ Some (Value (cond (is_intel order) 1 0))
order_ok None order e = absurd cc
order_ok (Some Fraction) order e = absurd cc
order_ok (Some TooLarge) order e = absurd cc
order_ok (Some (Value n)) order e = ap (λ k. Some (Value k)) (by_one (n == 1) (n == 0) refl refl e)
  where
    by_one : (one none : Bool) → (n == 1) ≡ one → (n == 0) ≡ none
        → cond one (Ok orders.Intel) (cond none (Ok orders.Motorola) (Err causes.Statement)) ≡ Ok order
        → n ≡ cond (is_intel order) 1 0
    by_one true none is_one is_none e = let same : orders.Intel ≡ order = cc in
        subst (λ (o : ByteOrder). n ≡ cond (is_intel o) 1 0) same (eqb-true n 1 is_one)
    by_one false true is_one is_none e = let same : orders.Motorola ≡ order = cc in
        subst (λ (o : ByteOrder). n ≡ cond (is_intel o) 1 0) same (eqb-true n 0 is_none)
    by_one false false is_one is_none e = absurd cc

pub order_sound : Sound order_at (λ order. Is (Order (is_intel order)) ∷ [])
unfolding order_at order_of
order_sound = sound_one _ (λ order. Is (Order (is_intel order))) (λ t order e. (
  t,
  refl,
  whole_spelled t.bytes (cond (is_intel order) 1 0) (order_ok (whole_of_number t.bytes) order e),
))

-- ---- digits alone

-- a test that no item passes
before_none : (test : ℕ → Bool) (xs : List ℕ) → list_any test xs ≡ false → before_first test xs ≡ xs
before_none test [] e = refl
before_none test (x ∷ xs) e = grind (arith, common_steps, before_none test xs)

after_none : (test : ℕ → Bool) (xs : List ℕ) → list_any test xs ≡ false → after_first test xs ≡ []
after_none test [] e = refl
after_none test (x ∷ xs) e = grind (arith, common_steps, after_none test xs)

no_mark : (xs : List ℕ) → list_all is_digit xs ≡ true → list_any is_exponent_mark xs ≡ false
no_mark [] e = refl
no_mark (x ∷ xs) e = grind (arith, common_steps, no_mark xs)

no_point : (xs : List ℕ) → list_all is_digit xs ≡ true → list_any is_point xs ≡ false
no_point [] e = refl
no_point (x ∷ xs) e = grind (arith, common_steps, no_point xs)

digits_all : (digits : List ℕ) → is_digits digits ≡ true → list_all is_digit digits ≡ true
digits_all [] e = refl
digits_all (d ∷ digits) e = e

power_none : (n m : ℕ) → n ≡ m * 10 ^ 0 → n ≡ m
power_none n m e = omega (arith, e)

-- what digits alone are as a number
pub record AreDigits (digits : List ℕ) : Type 0 where
  pub form : is_number digits ≡ true
  pub mantissa : mantissa_of digits ≡ digits_value 10 digits
  pub exponent : exponent_of digits ≡ pos 0

some_digit : (digits : List ℕ) → is_digits digits ≡ true → list_any is_digit digits ≡ true
some_digit [] are = absurd cc
some_digit (d ∷ digits) are = rw (and_parts (is_digit d) (list_all is_digit digits) are).0 refl

pub digits_are : (digits : List ℕ) → is_digits digits ≡ true → AreDigits digits
unfolding is_number mantissa_of exponent_of
digits_are digits are =
    let all = digits_all digits are in
    let mark = no_mark digits all in
    let mantissa = before_none is_exponent_mark digits mark in
    let point = no_point digits all in
    let whole : before_first is_point (before_first is_exponent_mark digits) ≡ digits = ap (before_first is_point) mantissa
    ∙ before_none is_point digits point in
    let fraction : after_first is_point (before_first is_exponent_mark digits) ≡ [] = ap (after_first is_point) mantissa
    ∙ after_none is_point digits point in
    let exponent : after_first is_exponent_mark digits ≡ [] = after_none is_exponent_mark digits mark in
    record {
      form = rw (whole, fraction, mantissa, mark, all, some_digit digits are) refl;
      mantissa = ap (λ (front : List ℕ). digits_value 10 (front ++ after_first is_point (before_first is_exponent_mark digits)))
          whole
          ∙ ap (λ (back : List ℕ). digits_value 10 (digits ++ back)) fraction ∙ ap (digits_value 10) (append-nil digits);
      exponent =
          ap (λ (back : List ℕ). signed_digits_value 10 back -ℤ pos
          (length (after_first is_point (before_first is_exponent_mark digits)))) exponent
          ∙ ap (λ (back : List ℕ). signed_digits_value 10 [] -ℤ pos (length back)) fraction;
    }

-- digits alone are the number that they write
pub digits_number : (digits : List ℕ) (n : ℕ) → is_digits digits ≡ true → whole_of_number digits ≡ Some (Value n)
    → digits_value 10 digits ≡ n
unfolding IsWholeNumber
digits_number digits n are e =
    let parts = digits_are digits are in
    let spelled = (whole_spelled digits n e).1 in
    sym (power_none n (digits_value 10 digits) (subst (λ (m : ℕ). IsWholeNumber m (pos 0) n) parts.mantissa
    (subst (λ (z : ℤ). IsWholeNumber (mantissa_of digits) z n) parts.exponent spelled)))

-- ---- multiplexer indicators

bounded_value : (least most : ℕ) (o : Option WholeNumber) (n : ℕ) → bounded least most o ≡ Ok n → o ≡ Some (Value n)
bounded_value least most None n e = absurd cc
bounded_value least most (Some Fraction) n e = absurd cc
bounded_value least most (Some TooLarge) n e = absurd cc
bounded_value least most (Some (Value m)) n e = ap (λ k. Some (Value k)) (within (nat_le least m && nat_le m most) e)
  where
    within : (b : Bool) → cond b (Ok m) (Err causes.Limit) ≡ Ok n → m ≡ n
    within true e = cc
    within false e = absurd cc

tagged_is : (tag : ℕ → Tag) (o : Result ℕ Cause) (t : Tag) → tagged tag o ≡ Ok t → (n : ℕ) × (o ≡ Ok n) × (t ≡ tag n)
tagged_is tag (Ok n) t e = (n, refl, cc)
tagged_is tag (Err cause) t e = absurd cc

-- digits as the value of a multiplexer indicator
counted_is : (tag : ℕ → Tag) (digits : List ℕ) (t : Tag) → is_digits digits ≡ true → counted tag digits ≡ Ok t → (n : ℕ)
    × (t ≡ tag n) × (digits_value 10 digits ≡ n)
unfolding whole_of
counted_is tag digits t are e =
    let found = tagged_is tag (bounded 0 (2 ^ 64 - 1) (whole_of_number digits)) t e in
    (found.0, found.2, digits_number digits found.0 are (bounded_value 0 (2 ^ 64 - 1) (whole_of_number digits) found.0 found.1))

-- what the bytes of a multiplexer indicator are
abbrev pub TagBytes : Tag → List ℕ → Type 0
TagBytes tags.Plain bytes = ⊥
TagBytes tags.Switch bytes = bytes ≡ codes "M"
TagBytes (tags.Muxed n) bytes = SpellsTag bytes n []
TagBytes (tags.Both n) bytes = SpellsTag bytes n (codes "M")

muxed_is : (bytes : List ℕ) (t : Tag) → muxed_of bytes ≡ Ok t → TagBytes t (109 ∷ bytes)
unfolding muxed_of
muxed_is bytes t e = by_digits (is_digits bytes) (is_digits (front bytes) && bytes_eq bytes (front bytes ++ codes "M")) refl refl e
  where
    by_digits : (digits both : Bool) → is_digits bytes ≡ digits
        → (is_digits (front bytes) && bytes_eq bytes (front bytes ++ codes "M")) ≡ both
        → cond digits (counted tags.Muxed bytes) (cond both (counted tags.Both (front bytes)) (Err causes.Statement)) ≡ Ok t
        → TagBytes t (109 ∷ bytes)
    by_digits true both are are_both e =
        let found = counted_is tags.Muxed bytes t are e in
        subst (λ (tag : Tag). TagBytes tag (109 ∷ bytes)) (sym found.1) (
          bytes,
          ap (λ (l : List ℕ). 109 ∷ l) (sym (append-nil bytes)),
          are,
          found.2,
        )
    by_digits false true are are_both e =
        let parts = and_parts (is_digits (front bytes)) (bytes_eq bytes (front bytes ++ codes "M")) are_both in
        let found = counted_is tags.Both (front bytes) t parts.0 e in
        subst (λ (tag : Tag). TagBytes tag (109 ∷ bytes)) (sym found.1) (
          front bytes,
          ap (λ (l : List ℕ). 109 ∷ l) ((bytes_eq-Decides bytes (front bytes ++ codes "M")).0 parts.1),
          parts.0,
          found.2,
        )
    by_digits false false are are_both e = absurd cc

tag_is : (bytes : List ℕ) (t : Tag) → tag_of bytes ≡ Ok t → TagBytes t bytes
unfolding tag_of
tag_is [] t e = absurd cc
tag_is (b ∷ bytes) t e = by_letter (bytes_eq (b ∷ bytes) (codes "M")) (b == 109) refl refl e
  where
    by_letter : (switch muxed : Bool) → bytes_eq (b ∷ bytes) (codes "M") ≡ switch → (b == 109) ≡ muxed
        → cond switch (Ok tags.Switch) (cond muxed (muxed_of bytes) (Err causes.Statement)) ≡ Ok t → TagBytes t (b ∷ bytes)
    by_letter true muxed is_switch is_muxed e =
        let same : tags.Switch ≡ t = cc in
        subst (λ (tag : Tag). TagBytes tag (b ∷ bytes)) same ((bytes_eq-Decides (b ∷ bytes) (codes "M")).0 is_switch)
    by_letter false true is_switch is_muxed e = subst (λ (first : ℕ). TagBytes t (first ∷ bytes)) (sym (eqb-true b 109 is_muxed))
        (muxed_is bytes t e)
    by_letter false false is_switch is_muxed e = absurd cc

tag_means : (t : Token) (tag : Tag) → TagBytes tag t.bytes → Spelled (of_layout (tag_layout tag)) (t ∷ [])
unfolding tag_layout items_of
tag_means t tags.Plain is = elim is [ ]
tag_means t tags.Switch is = (t ∷ [], [], refl, (t, refl, is), refl)
tag_means t (tags.Muxed n) is = (t ∷ [], [], refl, (t, refl, is), refl)
tag_means t (tags.Both n) is = (t ∷ [], [], refl, (t, refl, is), refl)

pub tag_token_sound : Sound tag_token_at (λ tag. of_layout (tag_layout tag))
unfolding tag_token_at
tag_token_sound = record {
  spelt = λ cut x e. (let y = tag_reads.reads cut x e in record {
    front = y.0;
    occurs = y.1;
    spelled = tag_spelled x.0 y.0 y.2;
  });
}
  where
    tag_reads : Reads tag_token_at (λ tag tokens. (t : Token) × (tokens ≡ t ∷ []) × TagBytes tag t.bytes)
    tag_reads = reads_one _ (λ tag tokens. (t : Token) × (tokens ≡ t ∷ []) × TagBytes tag t.bytes)
        (λ t tag e. (t, refl, tag_is t.bytes tag e))

    tag_spelled : (tag : Tag) (tokens : List Token) → (t : Token) × (tokens ≡ t ∷ []) × TagBytes tag t.bytes
        → Spelled (of_layout (tag_layout tag)) tokens
    tag_spelled tag tokens found = subst (λ (tokens : List Token). Spelled (of_layout (tag_layout tag)) tokens) (sym found.1)
        (tag_means found.0 tag found.2)
