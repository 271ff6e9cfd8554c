-- What the readers of messages and signals read is spelled by their forms.
use Rattle.std.proofs.Common.{◌≡◌, ℕ, Bool, true, false, cond, List, [], ◌∷◌, ◌++◌, length, Ok, Err, refl, sym, ap, subst, ◌∙◌}
use Rattle.std.proofs.Common.{append_assoc}
use Rattle.std.specs.Prelude.{codes, nat_lt}
use Rattle.std.specs.List.{flat_map, list_any}
use Rattle.std.specs.Str.{bytes_eq}
use Rattle.std.proofs.lemmas.Slice.Eq.{bytes_eq-Decides}
use Rattle.dbc_values.specs.Lexical.{is_name}
use Rattle.dbc_values.specs.Decimals.{Decimal}
use Rattle.dbc_records.specs.Records.{Signal, names_of, is_intel, is_signed}
use Rattle.dbc_records.specs.Layout.{Word, Mark, Name, Text, Whole, Number, Order, Layout, items_of}
use Rattle.dbc_records.specs.CanonicalText.{head_layout, signal_name_layout, tag_layout, sign_mark, bit_field_layout, pair_layout}
use Rattle.dbc_records.specs.CanonicalText.{spaced_mark, number_layout, mark_layout, scale_layout, limits_layout, spaced_text}
use Rattle.dbc_tokens.specs.declared.fault.Cause.{Cause}
use Rattle.dbc_tokens.specs.declared.fault.Cause.TheVariants as causes
use Rattle.dbc_tokens.specs.Tokens.{Token}
use Rattle.dbc_reader.specs.Classes.{has_word}
use Rattle.dbc_reader.specs.Forms.{Part, Is, Perhaps, of_layout}
use Rattle.dbc_reader.specs.Spelling.{receivers_form, signal_form, form, OfMessage}
use Rattle.dbc_reader.specs.inner.Readers.{◌>>=◌}
use Rattle.dbc_reader.specs.inner.Parts.{name_at, pair_at, comma_at, receivers_from, receivers_at}
use Rattle.dbc_reader.specs.inner.Messages.{begun, begin_message_at, head_at, begin_signal_at, fresh, signal_name_at, tag_at}
use Rattle.dbc_reader.specs.inner.Messages.{sign_at, bit_field_at, signal_at, signals_from, message_at}
use Rattle.dbc_reader.proofs.Sound.{Sound, sound_one, sound_then, sound_value, sound_start, sound_choose, sound_end, sound_same}
use Rattle.dbc_reader.proofs.Sound.{sound_list, first_and, sound_first, grows_repeated, grows_after, grows_in_view}
use Rattle.dbc_reader.proofs.Sound.Kinds.{mark_sound, name_sound, text_sound, whole_sound, id_sound, decimal_sound}
use Rattle.dbc_reader.proofs.Sound.Rows.{of_layout-append, perhaps_mark}
use Rattle.dbc_reader.proofs.Sound.Tags.{order_sound, tag_token_sound}

-- ---- one token

begun_is : (word fits : Bool) (full : Cause) (u : Unit {0}) → begun word fits full ≡ Ok u → word ≡ true
begun_is true fits full u e = refl
begun_is false fits full u e = absurd cc

is_the_word : (word : List ℕ) (t : Token) → has_word word t ≡ true → t.bytes ≡ word
unfolding has_word
is_the_word word t e = (bytes_eq-Decides t.bytes word).0 e

begin_message_sound : (count : ℕ) → Sound (begin_message_at count) (λ _. Is (Word (codes "BO_")) ∷ [])
unfolding begin_message_at
begin_message_sound count =
    sound_one _ (λ _. Is (Word (codes "BO_")))
    (λ t u e. (
      t,
      refl,
      is_the_word (codes "BO_") t (begun_is (has_word (codes "BO_") t) (nat_lt count 65535)
          causes.MessagesFull u e),
    ))

begin_signal_sound : (count : ℕ) → Sound (begin_signal_at count) (λ _. Is (Word (codes "SG_")) ∷ [])
unfolding begin_signal_at
begin_signal_sound count =
    sound_one _ (λ _. Is (Word (codes "SG_")))
    (λ t u e. (
      t,
      refl,
      is_the_word (codes "SG_") t (begun_is (has_word (codes "SG_") t) (nat_lt count 999) causes.SignalsFull u
          e),
    ))

fresh_is : (names : List (List ℕ)) (bytes name : List ℕ) → fresh names bytes ≡ Ok name → (bytes ≡ name) × (is_name name ≡ true)
fresh_is names bytes name e = by_name (is_name bytes) (list_any (bytes_eq bytes) names) refl e
  where
    by_name : (named repeated : Bool) → is_name bytes ≡ named → cond named (cond repeated (Err causes.RepeatedSignal) (Ok bytes))
        (Err causes.Statement) ≡ Ok name → (bytes ≡ name) × (is_name name ≡ true)
    by_name true true is e = absurd cc
    by_name true false is e = let same : bytes ≡ name = cc in (same, subst (λ (b : List ℕ). is_name b ≡ true) same is)
    by_name false repeated is e = absurd cc

signal_name_sound : (names : List (List ℕ)) → Sound (signal_name_at names) (λ name. Is (Name name) ∷ [])
unfolding signal_name_at
signal_name_sound names = sound_one _ (λ name. Is (Name name)) (λ t name e. (t, refl, fresh_is names t.bytes name e))

-- ---- parts of a signal

tag_sound : Sound tag_at (λ tag. of_layout (tag_layout tag))
unfolding tag_at tag_layout items_of
tag_sound = sound_choose _ (sound_start (sound_value refl)) tag_token_sound

abbrev pub sign_form : Bool → List Part
sign_form signed = Is (Mark (sign_mark signed)) ∷ []

sign_sound : Sound sign_at (λ value_type. sign_form (is_signed value_type))
unfolding sign_at
sign_sound = sound_choose _ (sound_start (sound_then (mark_sound 45) λ _. sound_value refl))
    (sound_start (sound_then (mark_sound 43) λ _. sound_value refl))

abbrev pub bit_field_form : ℕ → ℕ → Bool → Bool → List Part
bit_field_form start length intel signed = Is (Whole start) ∷ Is (Mark 124) ∷ Is (Whole length) ∷ Is (Mark 64) ∷ Is (Order intel)
    ∷ Is (Mark (sign_mark signed)) ∷ []

bit_field_sound : Sound bit_field_at (λ bit_field. bit_field_form bit_field.start bit_field.length (is_intel bit_field.order)
    (is_signed bit_field.value_type))
unfolding bit_field_at
bit_field_sound =
    sound_start (sound_then (whole_sound 0 65535) λ start. sound_then (mark_sound 124) λ _. sound_then (whole_sound 1 14280)
    λ length. sound_then (mark_sound 64) λ _.
    sound_then order_sound λ order. sound_then sign_sound λ value_type. sound_value refl)

abbrev pub pair_form : ℕ → ℕ → ℕ → Decimal × Decimal → List Part
pair_form opening between closing pair = Is (Mark opening) ∷ Is (Number pair.0) ∷ Is (Mark between) ∷ Is (Number pair.1)
    ∷ Is (Mark closing) ∷ []

pair_sound : (opening between closing : ℕ) → Sound (pair_at opening between closing) (pair_form opening between closing)
unfolding pair_at
pair_sound opening between closing =
    sound_start (sound_then (mark_sound opening) λ _. sound_then decimal_sound λ first. sound_then (mark_sound between) λ _.
    sound_then decimal_sound λ second.
    sound_then (mark_sound closing) λ _. sound_value refl)

-- ---- receivers

abbrev pub name_form : List ℕ → List Part
name_form name = Is (Name name) ∷ []

abbrev pub further_name_form : List ℕ → List Part
further_name_form name = Perhaps 44 ∷ Is (Name name) ∷ []

comma_sound : Sound comma_at (λ _. Perhaps 44 ∷ [])
unfolding comma_at
comma_sound = perhaps_mark _ 44 (mark_sound 44)

further_name_sound : Sound (comma_at >>= λ _. name_at) further_name_form
further_name_sound = sound_start (sound_then comma_sound λ _. sound_end name_sound λ name. refl)

pub receivers_are : (names : List (List ℕ)) → first_and name_form further_name_form names ≡ receivers_form names
receivers_are [] = refl
receivers_are (name ∷ names) = refl

receivers_sound : Sound receivers_at receivers_form
unfolding receivers_at receivers_from
receivers_sound =
    sound_choose _
    (sound_same
    (sound_first name_sound (grows_repeated _ _ further_name_form (grows_after comma_at name_at further_name_sound)))
    receivers_are) (sound_start (sound_value refl))

-- ---- signals and messages

six : (a b c d e f g : List Part) → (((((a ++ b) ++ c) ++ d) ++ e) ++ f) ++ g ≡ (a ++ (b ++ (c ++ (d ++ (e ++ f))))) ++ g
six a b c d e f g = ap (λ (parts : List Part). parts ++ g) (append_assoc (((a ++ b) ++ c) ++ d) e f
    ∙ append_assoc ((a ++ b) ++ c) d (e ++ f) ∙ append_assoc (a ++ b) c (d ++ (e ++ f)) ∙ append_assoc a b (c ++ (d ++ (e ++ f))))

pub signal_form_is : (s : Signal) → signal_form s
    ≡ ((((((Is (Word (codes "SG_")) ∷ Is (Name s.name) ∷ of_layout (tag_layout s.tag)) ++ Is (Mark 58) ∷ [])
    ++ bit_field_form s.start s.length s.intel s.signed)
    ++ pair_form 40 44 41 (s.factor, s.offset)) ++ pair_form 91 124 93 (s.minimum, s.maximum)) ++ Is (Text s.unit) ∷ [])
    ++ receivers_form s.receivers
unfolding signal_name_layout bit_field_layout scale_layout limits_layout pair_layout spaced_mark number_layout mark_layout
    spaced_text
    items_of
signal_form_is s =
    let following : Layout = bit_field_layout s ++ (scale_layout s ++ (limits_layout s ++ spaced_text s.unit)) in
    ap (λ (parts : List Part). parts ++ receivers_form s.receivers)
    (of_layout-append (signal_name_layout s) (tag_layout s.tag ++ following) ∙ ap (λ (parts : List Part). Is (Word (codes "SG_"))
    ∷ Is (Name s.name) ∷ parts) (of_layout-append (tag_layout s.tag) following))
    ∙ sym (six (Is (Word (codes "SG_")) ∷ Is (Name s.name) ∷ of_layout (tag_layout s.tag)) (Is (Mark 58) ∷ [])
    (bit_field_form s.start s.length s.intel s.signed)
    (pair_form 40 44 41 (s.factor, s.offset)) (pair_form 91 124 93 (s.minimum, s.maximum)) (Is (Text s.unit) ∷ [])
    (receivers_form s.receivers))

pub signal_sound : (signals : List Signal) → Sound (signal_at signals) signal_form
unfolding signal_at
signal_sound signals =
    sound_start (sound_then (begin_signal_sound (length signals)) λ _. sound_then (signal_name_sound (names_of signals)) λ name.
    sound_then tag_sound λ tag. sound_then (mark_sound 58) λ _.
    sound_then bit_field_sound λ bit_field. sound_then (pair_sound 40 44 41) λ scale. sound_then (pair_sound 91 124 93) λ limits.
    sound_then
    text_sound λ unit. sound_then receivers_sound λ receivers.
    sound_value (signal_form_is (record {
      name = name;
      tag = tag;
      start = bit_field.start;
      length = bit_field.length;
      intel = is_intel bit_field.order;
      signed = is_signed bit_field.value_type;
      factor = scale.0;
      offset = scale.1;
      minimum = limits.0;
      maximum = limits.1;
      unit = unit;
      receivers = receivers;
    })))

signals_sound : Sound (signals_from []) (flat_map signal_form)
unfolding signals_from
signals_sound = sound_list (grows_repeated _ _ signal_form (grows_in_view signal_at signal_sound))

pub head_sound : (count : ℕ) → Sound (head_at count) (λ head. of_layout (head_layout head))
unfolding head_at head_layout items_of
head_sound count =
    sound_start (sound_then (begin_message_sound count) λ _. sound_then id_sound λ number. sound_then name_sound λ name. sound_then
    (mark_sound 58) λ _. sound_then (whole_sound 0 1785) λ size.
    sound_then name_sound λ sender. sound_value refl)

pub message_sound : (count : ℕ) → Sound (message_at count) (λ message. form (OfMessage message))
unfolding message_at
message_sound count = sound_start (sound_then (head_sound count) λ head. sound_then signals_sound λ signals. sound_value refl)
