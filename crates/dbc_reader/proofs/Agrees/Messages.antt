-- The readers of messages and signals agree with their patterns.
use Rattle.std.proofs.Common.{◌≡◌, ℕ, suc, ◌+◌, Bool, true, false, cond, List, [], ◌∷◌, ◌++◌, length, Ok, Err, refl, sym, ap, subst}
use Rattle.std.proofs.Common.{◌∙◌, arith}
use Rattle.std.specs.Prelude.{codes, nat_le, nat_lt, not}
use Rattle.std.specs.List.{list_any}
use Rattle.std.specs.Str.{bytes_eq}
use Rattle.std.proofs.lemmas.Bool.Decides.{leb_tells}
use Rattle.std.proofs.lemmas.List.{length-map, map-append}
use Rattle.dbc_values.specs.Lexical.{is_name}
use Rattle.dbc_records.specs.Records.{Signal, Message, names_of}
use Rattle.dbc_records.specs.declared.tag.Tag.TheVariants as tags
use Rattle.dbc_tokens.specs.declared.fault.Cause.TheVariants as causes
use Rattle.dbc_tokens.specs.Tokens.{◌▸◌}
use Rattle.dbc_reader.specs.Classes.{has_word, has_mark, has_name}
use Rattle.dbc_reader.specs.Pattern.{is_of_class, Mark, Whole, Order, BeginsMessage, BeginsSignal, SignalName, Seen, one_name_more}
use Rattle.dbc_reader.specs.Pattern.{Done, ◌⇒◌, Either, Repeat}
use Rattle.dbc_reader.specs.Grammar as grammar
use Rattle.dbc_reader.specs.inner.Readers.{value}
use Rattle.dbc_reader.specs.inner.Parts.{tag_token_at}
use Rattle.dbc_reader.specs.inner.Messages.{begun, begin_message_at, head_at, begin_signal_at, fresh, signal_name_at, tag_at}
use Rattle.dbc_reader.specs.inner.Messages.{sign_at, bit_field_at, signal_at, signals_from, message_at}
use Rattle.dbc_reader.proofs.Rounds.{value_keeps, bind_shrinks}
use Rattle.dbc_reader.proofs.Rounds.Signals.{signal_shrinks}
use Rattle.dbc_reader.proofs.Agrees.{Agrees, Same, Rules, agree_bind, agree_then, agree_value, agree_one, agree_choose}
use Rattle.dbc_reader.proofs.Agrees.{agree_choose_then, agree_repeated, Begins, begins_one}
use Rattle.dbc_reader.proofs.Agrees.Kinds.{mark_agrees, name_agrees, text_agrees, whole_agrees, id_agrees, order_agrees}
use Rattle.dbc_reader.proofs.Agrees.Kinds.{tag_token_agrees, pair_agrees, receivers_agree, begins_mark}

-- ---- counts

full_or_fits : (count most : ℕ) → nat_le most count ≡ not (nat_lt count most)
full_or_fits count most = grind (arith, leb_tells most count, leb_tells (suc count) most)

-- one message more was begun
pub record Began (seen : Seen) (s : Seen) : Type 0 where
  pub messages : s.messages ≡ seen.messages + 1
  pub signals : s.signals ≡ []

begun_message : (word fits : Bool) (seen : Seen) → Rules (λ u s. Began seen s) (begun word fits causes.MessagesFull)
    (cond word (cond (not fits) (Err causes.MessagesFull) (Ok (record { messages = seen.messages + 1; signals = [] })))
    (Err causes.Statement))
begun_message true true seen = record { messages = refl; signals = refl }
begun_message true false seen = refl
begun_message false fits seen = refl

begun_signal : (word fits : Bool) (seen : Seen) → Rules (Same seen) (begun word fits causes.SignalsFull)
    (cond word (cond (not fits) (Err causes.SignalsFull) (Ok seen)) (Err causes.Statement))
begun_signal true true seen = refl
begun_signal true false seen = refl
begun_signal false fits seen = refl

begin_message_agrees : (seen : Seen) (count : ℕ) → seen.messages ≡ count
    → Agrees seen (begin_message_at count) (BeginsMessage ⇒ Done) (λ u s. Began seen s)
unfolding begin_message_at
begin_message_agrees seen count is =
    agree_one (λ u s. Began seen s) seen BeginsMessage _
    (λ t. subst (λ full. Rules (λ u s. Began seen s) (begun (has_word (codes "BO_") t) (nat_lt count 65535) causes.MessagesFull)
    (cond (has_word (codes "BO_") t) (cond full (Err causes.MessagesFull)
    (Ok (record { messages = seen.messages + 1; signals = [] }))) (Err causes.Statement)))
    (sym (ap (λ n. nat_le 65535 n) is ∙ full_or_fits count 65535)) (begun_message (has_word (codes "BO_") t) (nat_lt count 65535)
    seen))

begin_signal_agrees : (seen : Seen) (count : ℕ) → length seen.signals ≡ count
    → Agrees seen (begin_signal_at count) (BeginsSignal ⇒ Done) (Same seen)
unfolding begin_signal_at
begin_signal_agrees seen count is =
    agree_one (Same seen) seen BeginsSignal _
    (λ t. subst (λ full. Rules (Same seen) (begun (has_word (codes "SG_") t) (nat_lt count 999) causes.SignalsFull)
    (cond (has_word (codes "SG_") t) (cond full (Err causes.SignalsFull) (Ok seen)) (Err causes.Statement)))
    (sym (ap (λ n. nat_le 999 n) is ∙ full_or_fits count 999)) (begun_signal (has_word (codes "SG_") t) (nat_lt count 999) seen))

-- one name more
pub record Named (seen : Seen) (name : List ℕ) (s : Seen) : Type 0 where
  pub messages : s.messages ≡ seen.messages
  pub signals : s.signals ≡ seen.signals ++ name ∷ []

fresh_name : (word repeated : Bool) (name : List ℕ) (seen : Seen)
    → Rules (Named seen) (cond word (cond repeated (Err causes.RepeatedSignal) (Ok name)) (Err causes.Statement))
    (cond word (cond repeated (Err causes.RepeatedSignal) (Ok (record seen { signals = seen.signals ++ name ∷ [] })))
    (Err causes.Statement))
fresh_name true true name seen = refl
fresh_name true false name seen = record { messages = refl; signals = refl }
fresh_name false repeated name seen = refl

signal_name_agrees : (seen : Seen) (names : List (List ℕ)) → seen.signals ≡ names
    → Agrees seen (signal_name_at names) (SignalName ⇒ Done) (Named seen)
unfolding signal_name_at has_name
signal_name_agrees seen names is =
    agree_one (Named seen) seen SignalName _
    (λ t. subst (λ mine. Rules (Named seen) (fresh mine t.bytes) (cond (is_name t.bytes) (one_name_more t.bytes seen)
    (Err causes.Statement))) is
    (fresh_name (is_name t.bytes) (list_any (bytes_eq t.bytes) seen.signals) t.bytes seen))

-- ---- heads

pub head_agrees : (seen : Seen) (count : ℕ) → seen.messages ≡ count → Agrees seen (head_at count) grammar.head (λ h s. Began seen s)
unfolding head_at
head_agrees seen count is =
    agree_bind (begin_message_agrees seen count is) λ _ s began. agree_then (id_agrees s) λ number. agree_then (name_agrees s)
    λ name. agree_then (mark_agrees s 58) λ _.
    agree_then (whole_agrees s 0 1785) λ size. agree_then (name_agrees s) λ sender. agree_value began

-- ---- signals

sign_agrees : (seen : Seen) → Agrees seen sign_at (Either (Mark 45 ⇒ Done) (Mark 43 ⇒ Done) Done) (Same seen)
unfolding sign_at
sign_agrees seen =
    agree_choose (has_mark 45) (begins_mark 45 Done) (agree_then (mark_agrees seen 45) λ _. agree_value refl)
    (agree_then (mark_agrees seen 43) λ _. agree_value refl)

bit_field_agrees : (seen : Seen) → Agrees seen bit_field_at (Whole 0 65535 ⇒ Mark 124 ⇒ Whole 1 14280 ⇒ Mark 64 ⇒ Order ⇒ Either
    (Mark 45 ⇒ Done) (Mark 43 ⇒ Done) Done) (Same seen)
unfolding bit_field_at
bit_field_agrees seen =
    agree_then (whole_agrees seen 0 65535) λ start. agree_then (mark_agrees seen 124) λ _. agree_then (whole_agrees seen 1 14280)
    λ length.
    agree_then (mark_agrees seen 64) λ _. agree_then (order_agrees seen) λ order. agree_then (sign_agrees seen) λ value_type.
    agree_value refl

pub signal_agrees : (seen : Seen) (signals : List Signal) → seen.signals ≡ names_of signals
    → Agrees {A = Signal} seen (signal_at signals) grammar.signal (λ signal s. Named seen signal.name s)
unfolding signal_at tag_at
signal_agrees seen signals is =
    agree_then (begin_signal_agrees seen (length signals) (ap length is ∙ length-map signals (λ signal. signal.name))) λ _.
    agree_bind (signal_name_agrees seen (names_of signals) is) λ name s named.
    agree_choose_then (value tags.Plain) tag_token_at _ (has_mark 58) (begins_mark 58 Done)
    (agree_then (mark_agrees s 58) λ _.
    agree_then (bit_field_agrees s) λ bit_field. agree_then (pair_agrees s 40 44 41) λ scale. agree_then (pair_agrees s 91 124 93) λ
    limits.
    agree_then (text_agrees s) λ unit. agree_then (receivers_agree s) λ receivers. agree_value named)
    (agree_then (tag_token_agrees s) λ tag. agree_then (mark_agrees s 58) λ _.
    agree_then (bit_field_agrees s) λ bit_field. agree_then (pair_agrees s 40 44 41) λ scale. agree_then (pair_agrees s 91 124 93) λ
    limits.
    agree_then (text_agrees s) λ unit. agree_then (receivers_agree s) λ receivers. agree_value named)

pub begins_a_signal : Begins (has_word (codes "SG_")) grammar.signal
begins_a_signal = begins_one (has_word (codes "SG_")) BeginsSignal _ (λ t seen. counted_class (has_word (codes "SG_") t)
    (nat_le 999 (length seen.signals)) seen)
  where
    counted_class : (word full : Bool) (seen : Seen) → is_of_class (cond word (cond full (Err causes.SignalsFull) (Ok seen))
        (Err causes.Statement)) ≡ word
    counted_class true true seen = refl
    counted_class true false seen = refl
    counted_class false full seen = refl

-- ---- messages

-- this many messages have begun, and the last has these signals
record Has (messages : ℕ) (signals : List Signal) (seen : Seen) : Type 0 where
  count : seen.messages ≡ messages
  names : seen.signals ≡ names_of signals

one_more : (messages : ℕ) (signals : List Signal) (signal : Signal) (seen s : Seen) → Has messages signals seen
    → Named seen signal.name s → Has messages (signals ++ signal ∷ []) s
one_more messages signals signal seen s has named = record {
  count = named.messages ∙ has.count;
  names = named.signals ∙ ap (λ names. names ++ signal.name ∷ []) has.names
      ∙ sym (map-append (λ signal. signal.name) signals (signal ∷ []));
}

signals_agree : (messages : ℕ) (seen : Seen) (signals : List Signal) → Has messages signals seen
    → Agrees seen (signals_from signals) (Repeat grammar.signal Done) (Has messages)
unfolding signals_from
signals_agree messages seen signals has =
    agree_repeated (has_word (codes "SG_")) _ (λ signals. bind_shrinks (signal_shrinks signals) λ signal. value_keeps _)
    grammar.signal begins_a_signal (Has messages)
    (λ signals seen q t cut has goes. (agree_bind (signal_agrees seen signals has.names)
    (λ signal s named. agree_value (one_more messages signals signal seen s has named))).follows q (t ▸ cut))
    signals seen has

pub message_agrees : (seen : Seen) (count : ℕ) → seen.messages ≡ count → Agrees {A = Message} seen (message_at count)
    grammar.message (λ message s. s.messages ≡ count + 1)
unfolding message_at
message_agrees seen count is =
    agree_bind (head_agrees seen count is) λ head s began.
    agree_bind (signals_agree (count + 1) s [] (record { count = began.messages ∙ ap (λ n. n + 1) is; names = began.signals }))
    λ signals s' has. agree_value has.count
