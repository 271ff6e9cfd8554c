-- Multiplexer indicators of signals that are spelled are read.
use Rattle.std.proofs.Common.{◌≡◌, ℕ, ◌*◌, ◌<◌, ◌^◌, ◌-◌, ℤ, pos, true, false, List, [], ◌∷◌, ◌++◌, length, length-append, Ok}
use Rattle.std.proofs.Common.{append-nil, refl, sym, ap, subst, arith}
use Rattle.std.specs.Prelude.{codes}
use Rattle.std.specs.List.{list_all}
use Rattle.std.specs.Str.{bytes_eq}
use Rattle.std.specs.Str.Parse.{digits_value}
use Rattle.std.proofs.lemmas.Grind.{common_steps}
use Rattle.std.proofs.lemmas.List.{take_at}
use Rattle.std.proofs.lemmas.Slice.Eq.{bytes_eq-Decides}
use Rattle.dbc_values.specs.Lexical.{is_digit, is_digits}
use Rattle.dbc_values.specs.Numbers.{mantissa_of, IsWholeNumber}
use Rattle.dbc_records.specs.Records.{IsTag}
use Rattle.dbc_records.specs.Layout.{Switch, Muxed, Both, items_of}
use Rattle.dbc_records.specs.CanonicalText.{tag_layout}
use Rattle.dbc_records.specs.declared.tag.Tag.{Tag}
use Rattle.dbc_records.specs.declared.tag.Tag.TheVariants as tags
use Rattle.dbc_reader.specs.Classes.{has_mark, tagged, front, counted, muxed_of, tag_of}
use Rattle.dbc_reader.specs.Forms.{Is, SpellsNumber, SpellsTag, of_layout}
use Rattle.dbc_reader.specs.inner.Readers.{starts}
use Rattle.dbc_reader.specs.inner.Parts.{tag_token_at}
use Rattle.dbc_reader.specs.inner.Messages.{tag_at}
use Rattle.dbc_reader.proofs.Sound.Tags.{digits_are}
use Rattle.dbc_read.proofs.Takes.{Takes, takes_where, takes_second, takes_one, opens_one}
use Rattle.dbc_read.proofs.Takes.Kinds.{within, whole_is}

-- ---- digits after an `m`

pub spells_digits : (digits : List ℕ) → is_digits digits ≡ true → SpellsNumber digits (digits_value 10 digits)
unfolding IsWholeNumber
spells_digits digits are =
    let parts = digits_are digits are in (
      parts.form,
      subst (λ (z : ℤ). IsWholeNumber (mantissa_of digits) z (digits_value 10 digits)) (sym parts.exponent)
          (subst (λ (m : ℕ). IsWholeNumber m (pos 0) (digits_value 10 digits)) (sym parts.mantissa)
          (times_one (digits_value 10 digits))),
    )
  where
    times_one : (n : ℕ) → n ≡ n * 10 ^ 0
    times_one n = omega arith

counted_now : (tag : ℕ → Tag) (digits : List ℕ) (n : ℕ) → is_digits digits ≡ true → digits_value 10 digits ≡ n → n < 2 ^ 64
    → counted tag digits ≡ Ok (tag n)
counted_now tag digits n are same small =
    ap (tagged tag) (whole_is 0 (2 ^ 64 - 1) n digits (within 0 (2 ^ 64 - 1) n (omega arith) (omega (arith, small)) small)
    (subst (SpellsNumber digits) same (spells_digits digits are)))

all_digits : (digits : List ℕ) → is_digits digits ≡ true → list_all is_digit digits ≡ true
all_digits [] are = refl
all_digits (d ∷ digits) are = are

not_all : (digits : List ℕ) → list_all is_digit (digits ++ 77 ∷ []) ≡ false
not_all [] = refl
not_all (d ∷ digits) = grind (arith, common_steps, not_all digits)

no_digits : (digits : List ℕ) → is_digits (digits ++ 77 ∷ []) ≡ false
no_digits [] = refl
no_digits (d ∷ digits) = not_all (d ∷ digits)

front_of : (digits : List ℕ) → front (digits ++ codes "M") ≡ digits
front_of digits = take_at digits (77 ∷ []) (length (digits ++ 77 ∷ []) - 1) (omega (arith, length-append digits (77 ∷ [])))

-- ---- multiplexer indicators

switch_is : (bytes : List ℕ) → bytes ≡ codes "M" → tag_of bytes ≡ Ok tags.Switch
unfolding tag_of
switch_is bytes e = ap tag_of e

muxed_is : (n : ℕ) (bytes : List ℕ) → n < 2 ^ 64 → SpellsTag bytes n [] → tag_of bytes ≡ Ok (tags.Muxed n)
unfolding tag_of muxed_of
muxed_is n bytes small (digits, same, are, is) =
    rw (same, append-nil digits) (rw are (counted_now tags.Muxed digits n are is small))

both_is : (n : ℕ) (bytes : List ℕ) → n < 2 ^ 64 → SpellsTag bytes n (codes "M") → tag_of bytes ≡ Ok (tags.Both n)
unfolding tag_of muxed_of
both_is n bytes small (digits, same, are, is) =
    rw same (rw (no_digits digits, front_of digits, are, (bytes_eq-Decides (digits ++ codes "M") (digits ++ codes "M")).1 refl)
    (counted_now tags.Both digits n are is small))

-- a multiplexer indicator is no colon
colon_no_tag : (bytes rest : List ℕ) → bytes ≡ 109 ∷ rest → bytes_eq bytes (58 ∷ []) ≡ false
colon_no_tag bytes rest same = ap (λ (b : List ℕ). bytes_eq b (58 ∷ [])) same

-- what is before the colon of a signal
pub tag_takes : (tag : Tag) → IsTag tag → Takes tag_at tag (of_layout (tag_layout tag)) (λ cut. starts (has_mark 58) cut ≡ true)
unfolding tag_at tag_token_at tag_layout items_of has_mark
tag_takes tags.Plain is = record { takes = λ tokens cut none occurs. rw none (rw occurs refl) }
tag_takes tags.Switch is =
    takes_second _ (opens_one (Is Switch) (λ bytes. bytes ≡ codes "M") (λ tokens means. means)
    (λ t e. ap (λ (b : List ℕ). bytes_eq b (58 ∷ [])) e))
    (takes_where (takes_one _ tags.Switch (λ bytes. bytes ≡ codes "M") (λ t e. switch_is t.bytes e) (Is Switch)
    (λ tokens means. means)) (λ cut may. tt))
tag_takes (tags.Muxed n) is =
    takes_second _ (opens_one (Is (Muxed n)) (λ bytes. SpellsTag bytes n []) (λ tokens means. means)
    (λ t e. colon_no_tag t.bytes _ e.1))
    (takes_where (takes_one _ (tags.Muxed n) (λ bytes. SpellsTag bytes n []) (λ t e. muxed_is n t.bytes is e) (Is (Muxed n))
    (λ tokens means. means)) (λ cut may. tt))
tag_takes (tags.Both n) is =
    takes_second _ (opens_one (Is (Both n)) (λ bytes. SpellsTag bytes n (codes "M")) (λ tokens means. means)
    (λ t e. colon_no_tag t.bytes _ e.1))
    (takes_where (takes_one _ (tags.Both n) (λ bytes. SpellsTag bytes n (codes "M")) (λ t e. both_is n t.bytes is e) (Is (Both n))
    (λ tokens means. means)) (λ cut may. tt))
