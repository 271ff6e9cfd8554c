-- What the readers of messages and signals read is proper.
use Rattle.std.proofs.Common.{◌≡◌, ℕ, ◌<◌, ◌^◌, ◌-◌, Bool, true, false, cond, ◌&&◌, List, [], ◌∷◌, ◌++◌, All, length, Result, Ok}
use Rattle.std.proofs.Common.{Err, refl, subst}
use Rattle.std.specs.Prelude.{codes, nat_lt, nat_le, ◌==◌, IsTrue}
use Rattle.std.specs.List.{list_any}
use Rattle.std.specs.Str.{bytes_eq}
use Rattle.std.proofs.lemmas.Bool.{ltb-true, and_from}
use Rattle.std.proofs.lemmas.List.Elements.{All-nil, All-push}
use Rattle.dbc_values.specs.Lexical.{is_name, is_digits}
use Rattle.dbc_values.specs.Numbers.{whole_of_number}
use Rattle.dbc_values.specs.Names.{IsName}
use Rattle.dbc_records.specs.Records.{IsHead, IsTag, Signal, IsSignal, Head, Message, IsMessage, names_of, signals_fit}
use Rattle.dbc_records.specs.declared.tag.Tag.{Tag}
use Rattle.dbc_records.specs.declared.tag.Tag.TheVariants as tags
use Rattle.dbc_tokens.specs.declared.fault.Cause.{Cause}
use Rattle.dbc_tokens.specs.declared.fault.Cause.TheVariants as causes
use Rattle.dbc_reader.specs.declared.messages.BitField.{BitField}
use Rattle.dbc_reader.specs.Classes.{has_word, bounded, whole_of, tagged, counted, front, muxed_of, tag_of}
use Rattle.dbc_reader.specs.inner.Parts.{mark_at, order_at, tag_token_at}
use Rattle.dbc_reader.specs.inner.Messages.{begun, begin_message_at, head_at, begin_signal_at, fresh, signal_name_at, tag_at}
use Rattle.dbc_reader.specs.inner.Messages.{sign_at, bit_field_at, signal_at, signals_from, message_at}
use Rattle.dbc_reader.proofs.Facts.MessageNames.{signals_fit_more}
use Rattle.dbc_reader.proofs.Yields.{Yields, yields_one, yields_then, yields_after, yields_value, yields_choose, yields_repeated}
use Rattle.dbc_reader.proofs.Yields.Kinds.{Between, bounded_between, below_16, below_64, name_proper, text_proper, whole_proper}
use Rattle.dbc_reader.proofs.Yields.Kinds.{id_proper, pair_proper, receivers_proper}

-- ---- multiplexer indicators

tagged_proper : (tag : ℕ → Tag) (o : Result ℕ Cause) (t : Tag) → ((n : ℕ) → o ≡ Ok n → IsTag (tag n)) → tagged tag o ≡ Ok t
    → IsTag t
tagged_proper tag (Ok n) t h e = let same : tag n ≡ t = cc in subst IsTag same (h n refl)
tagged_proper tag (Err cause) t h e = absurd cc

counted_proper : (tag : ℕ → Tag) (digits : List ℕ) (t : Tag) → ((n : ℕ) → n < 2 ^ 64 → IsTag (tag n)) → counted tag digits ≡ Ok t
    → IsTag t
unfolding whole_of
counted_proper tag digits t h e =
    tagged_proper tag (bounded 0 (2 ^ 64 - 1) (whole_of_number digits)) t
    (λ n is. h n (below_64 n (bounded_between 0 (2 ^ 64 - 1) (whole_of_number digits) n is))) e

muxed_proper : (bytes : List ℕ) (t : Tag) → muxed_of bytes ≡ Ok t → IsTag t
unfolding muxed_of
muxed_proper bytes t e = by_digits (is_digits bytes) (is_digits (front bytes) && bytes_eq bytes (front bytes ++ codes "M")) e
  where
    by_digits : (digits both : Bool) → cond digits (counted tags.Muxed bytes) (cond both (counted tags.Both (front bytes))
        (Err causes.Statement)) ≡ Ok t → IsTag t
    by_digits true both e = counted_proper tags.Muxed bytes t (λ n small. small) e
    by_digits false true e = counted_proper tags.Both (front bytes) t (λ n small. small) e
    by_digits false false e = absurd cc

tag_is : (bytes : List ℕ) (t : Tag) → tag_of bytes ≡ Ok t → IsTag t
unfolding tag_of
tag_is [] t e = absurd cc
tag_is (b ∷ bytes) t e = by_letter (bytes_eq (b ∷ bytes) (codes "M")) (b == 109) e
  where
    by_letter : (switch muxed : Bool) → cond switch (Ok tags.Switch) (cond muxed (muxed_of bytes) (Err causes.Statement)) ≡ Ok t
        → IsTag t
    by_letter true muxed e = let same : tags.Switch ≡ t = cc in subst IsTag same tt
    by_letter false true e = muxed_proper bytes t e
    by_letter false false e = absurd cc

tag_proper : Yields tag_at IsTag
unfolding tag_at tag_token_at
tag_proper = yields_choose _ (yields_value tt) (yields_one _ IsTag (λ t tag e. tag_is t.bytes tag e))

-- ---- the first tokens

begun_fits : (word fits : Bool) (full : Cause) (u : Unit {0}) → begun word fits full ≡ Ok u → fits ≡ true
begun_fits true true full u e = refl
begun_fits true false full u e = absurd cc
begun_fits false fits full u e = absurd cc

begin_message_proper : (count : ℕ) → Yields (begin_message_at count) (λ _. count < 65535)
unfolding begin_message_at
begin_message_proper count =
    yields_one _ (λ _. count < 65535) (λ t u e. ltb-true count 65535 (begun_fits (has_word (codes "BO_") t) (nat_lt count 65535)
    causes.MessagesFull u e))

begin_signal_proper : (count : ℕ) → Yields (begin_signal_at count) (λ _. count < 999)
unfolding begin_signal_at
begin_signal_proper count =
    yields_one _ (λ _. count < 999) (λ t u e. ltb-true count 999 (begun_fits (has_word (codes "SG_") t) (nat_lt count 999)
    causes.SignalsFull u e))

record IsNewName (names : List (List ℕ)) (name : List ℕ) : Type 0 where
  proper : IsName name
  new : list_any (bytes_eq name) names ≡ false

new_name : (names : List (List ℕ)) (bytes name : List ℕ) → fresh names bytes ≡ Ok name → IsNewName names name
new_name names bytes name e = by_name (is_name bytes) (list_any (bytes_eq bytes) names) refl refl e
  where
    by_name : (named repeated : Bool) → is_name bytes ≡ named → list_any (bytes_eq bytes) names ≡ repeated
        → cond named (cond repeated (Err causes.RepeatedSignal) (Ok bytes)) (Err causes.Statement) ≡ Ok name → IsNewName names name
    by_name true true is none e = absurd cc
    by_name true false is none e = let same : bytes ≡ name = cc in subst (λ (b : List ℕ). IsNewName names b) same
        (record { proper = is; new = none })
    by_name false repeated is none e = absurd cc

signal_name_proper : (names : List (List ℕ)) → Yields (signal_name_at names) (λ name. IsNewName names name)
unfolding signal_name_at
signal_name_proper names = yields_one _ (λ name. IsNewName names name) (λ t name e. new_name names t.bytes name e)

-- ---- signals

record IsBitField (bit_field : BitField) : Type 0 where
  start : bit_field.start < 2 ^ 16
  length : Between 1 14280 bit_field.length

bit_field_proper : Yields bit_field_at (λ bit_field. IsBitField bit_field)
unfolding bit_field_at
bit_field_proper =
    yields_then (whole_proper 0 65535) λ start is_start. yields_after (mark_at 124) λ _. yields_then (whole_proper 1 14280) λ length
    is_length. yields_after (mark_at 64) λ _.
    yields_after order_at λ order. yields_after sign_at λ value_type. yields_value (record {
      start = below_16 start is_start;
      length = is_length;
    })

-- a signal that a message with these may have
pub record IsNewSignal (signals : List Signal) (signal : Signal) : Type 0 where
  pub proper : IsSignal signal
  pub space : length signals < 999
  pub new : list_any (bytes_eq signal.name) (names_of signals) ≡ false

pub signal_proper : (signals : List Signal) → Yields (signal_at signals) (λ signal. IsNewSignal signals signal)
unfolding signal_at
signal_proper signals =
    yields_then (begin_signal_proper (length signals)) λ _ space. yields_then (signal_name_proper (names_of signals)) λ name
    is_name.
    yields_then tag_proper λ tag is_tag. yields_after (mark_at 58) λ _.
    yields_then bit_field_proper λ bit_field is_bit_field. yields_then (pair_proper 40 44 41) λ scale is_scale. yields_then
    (pair_proper 91 124 93) λ limits are_limits. yields_then text_proper λ unit is_unit.
    yields_then receivers_proper λ receivers are_names. yields_value (record {
      proper = record {
        name = is_name.proper;
        tag = is_tag;
        start = is_bit_field.start;
        fits = and_from (nat_le 1 bit_field.length) (nat_le bit_field.length 14280) is_bit_field.length.low
            is_bit_field.length.high;
        factor = is_scale.first;
        offset = is_scale.second;
        minimum = are_limits.first;
        maximum = are_limits.second;
        unit = is_unit;
        receivers = are_names;
      };
      space = space;
      new = is_name.new;
    })

record AreSignals (signals : List Signal) : Type 0 where
  all : All IsSignal signals
  fit : IsTrue (signals_fit signals)

signals_proper : Yields (signals_from []) (λ signals. AreSignals signals)
unfolding signals_from signals_fit
signals_proper =
    yields_repeated (λ signals. AreSignals signals) _ _
    (λ signals are. yields_then (signal_proper signals) λ signal is. yields_value (record {
      all = All-push IsSignal signals signal are.all is.proper;
      fit = signals_fit_more signals signals (signals ++ signal ∷ []) signal are.fit refl is.space is.new refl;
    }))
    [] (record { all = All-nil IsSignal; fit = refl })

-- ---- messages

-- a head in a text that has had this many messages
pub record IsNewHead (count : ℕ) (head : Head) : Type 0 where
  pub proper : IsHead head
  pub space : count < 65535

pub head_proper : (count : ℕ) → Yields (head_at count) (λ head. IsNewHead count head)
unfolding head_at
head_proper count =
    yields_then (begin_message_proper count) λ _ space. yields_then id_proper λ number is_number. yields_then name_proper λ name
    is_name. yields_after (mark_at 58) λ _.
    yields_then (whole_proper 0 1785) λ size is_size. yields_then name_proper λ sender is_sender.
    yields_value (record {
      proper = record { number = is_number; name = is_name; size = is_size.high; sender = is_sender };
      space = space;
    })

pub record IsNewMessage (count : ℕ) (message : Message) : Type 0 where
  pub proper : IsMessage message
  pub space : count < 65535

pub message_proper : (count : ℕ) → Yields (message_at count) (λ message. IsNewMessage count message)
unfolding message_at
message_proper count =
    yields_then (head_proper count) λ head is_head. yields_then signals_proper λ signals are_signals.
    yields_value (record {
      proper = record { head = is_head.proper; signals = are_signals.all; fit = are_signals.fit };
      space = is_head.space;
    })
