-- Messages and signals that are spelled are read.
use Rattle.std.proofs.Common.{◌≡◌, ℕ, suc, ◌+◌, ◌<◌, ◌≤◌, ◌^◌, Bool, true, false, cond, ◌||◌, ◌&&◌, List, [], ◌∷◌, ◌++◌, length}
use Rattle.std.proofs.Common.{length-append, Ok, append_assoc, refl, sym, ap, subst, ◌∙◌, arith, inl, inr}
use Rattle.std.specs.Prelude.{codes, nat_le, nat_lt, not, All, IsTrue}
use Rattle.std.specs.List.{flat_map, list_any}
use Rattle.std.specs.Str.{bytes_eq}
use Rattle.std.proofs.lemmas.Bool.{cases_Bool, and_parts}
use Rattle.std.proofs.lemmas.Grind.{common_steps}
use Rattle.std.proofs.lemmas.List.{map-append}
use Rattle.std.proofs.lemmas.List.Elements.{All-head, All-tail}
use Rattle.std.proofs.lemmas.List.Folds.{list_any-append}
use Rattle.std.proofs.lemmas.Slice.Eq.{bytes_eq-Decides}
use Rattle.dbc_values.specs.Lexical.{is_name, is_keyword}
use Rattle.dbc_values.specs.Decimals.{Decimal}
use Rattle.dbc_records.specs.Records.{Head, IsHead, Signal, IsSignal, Message, IsMessage, names_of, are_distinct, signals_fit}
use Rattle.dbc_records.specs.Records.{is_intel, byte_order, is_signed, value_type}
use Rattle.dbc_records.specs.Layout.{Word, Mark, Name, Text, Order, items_of}
use Rattle.dbc_records.proofs.BitFields.{order_back, sign_back}
use Rattle.dbc_records.specs.CanonicalText.{head_layout, tag_layout}
use Rattle.dbc_tokens.specs.declared.fault.Cause.{Cause}
use Rattle.dbc_tokens.specs.declared.fault.Cause.TheVariants as causes
use Rattle.dbc_tokens.specs.Tokens.{Token, Cut, End, Fault, ◌▸◌}
use Rattle.dbc_reader.specs.Classes.{has_word, has_mark, has_name, order_digit, order_of}
use Rattle.dbc_reader.specs.Forms.{Part, Is, Perhaps, SpellsNumber, Spelled, of_layout, ◌▸▸◌}
use Rattle.dbc_reader.specs.Spelling.{receivers_form, signal_form, form, OfMessage}
use Rattle.dbc_reader.specs.inner.Readers.{one, starts, value}
use Rattle.dbc_reader.specs.inner.Parts.{order_at, pair_at, comma_at, begins_receiver, receivers_from, receivers_at}
use Rattle.dbc_reader.specs.inner.Messages.{SignalBits, begun, begin_message_at, head_at, begin_signal_at, fresh, signal_name_at}
use Rattle.dbc_reader.specs.inner.Messages.{sign_at, bit_field_at, signal_at, signals_from, message_at}
use Rattle.dbc_reader.proofs.Rounds.{bind_shrinks, after_shrinks, value_keeps}
use Rattle.dbc_reader.proofs.Rounds.Lists.{name_shrinks, comma_keeps}
use Rattle.dbc_reader.proofs.Rounds.Signals.{signal_shrinks}
use Rattle.dbc_reader.proofs.Sound.Messages.{sign_form, bit_field_form, pair_form, further_name_form, signal_form_is}
use Rattle.dbc_read.proofs.Takes.{Takes, Anything, Opens, Stops, Allows, takes_value, takes_then, takes_next, takes_as, takes_last}
use Rattle.dbc_read.proofs.Takes.{opens_as, allows_as, all_pushed, takes_where, takes_first, takes_second, takes_none, takes_one}
use Rattle.dbc_read.proofs.Takes.{opens_one, allows_stop, takes_list, takes_repeated, pushed}
use Rattle.dbc_read.proofs.Takes.Kinds.{is_the_word, is_the_mark, Within, within, number_whole, mark_takes, name_takes, text_takes}
use Rattle.dbc_read.proofs.Takes.Kinds.{whole_takes, id_takes, decimal_takes}
use Rattle.dbc_reader.proofs.Facts.MessageNames.{same_either_way}
use Rattle.dbc_read.proofs.Takes.Tags.{tag_takes}
use Rattle.dbc_read.proofs.Takes.Rows.{mark_opens, mark_opens_itself, perhaps_takes}
use Rattle.dbc_read.proofs.Takes.Notes.{word_opens}

-- ---- the words that begin messages and signals

begun_now : (word fits : Bool) (full : Cause) → word ≡ true → fits ≡ true → begun word fits full ≡ Ok tt
begun_now word fits full is may = rw (is, may) refl

begin_message_takes : (count : ℕ) → nat_lt count 65535 ≡ true → Takes (begin_message_at count) tt (Is (Word (codes "BO_")) ∷ [])
    Anything
unfolding begin_message_at
begin_message_takes count may =
    takes_one _ tt (λ bytes. bytes ≡ codes "BO_") (λ t e. begun_now (has_word (codes "BO_") t) (nat_lt count 65535)
    causes.MessagesFull (is_the_word (codes "BO_") t e) may) (Is (Word (codes "BO_"))) (λ tokens means. means)

begin_signal_takes : (count : ℕ) → nat_lt count 999 ≡ true → Takes (begin_signal_at count) tt (Is (Word (codes "SG_")) ∷ [])
    Anything
unfolding begin_signal_at
begin_signal_takes count may =
    takes_one _ tt (λ bytes. bytes ≡ codes "SG_") (λ t e. begun_now (has_word (codes "SG_") t) (nat_lt count 999) causes.SignalsFull
    (is_the_word (codes "SG_") t e) may) (Is (Word (codes "SG_"))) (λ tokens means. means)

pub head_takes : (count : ℕ) (head : Head) → nat_lt count 65535 ≡ true → IsHead head
    → Takes (head_at count) head (of_layout (head_layout head)) Anything
unfolding head_at head_layout items_of
head_takes count head may is =
    takes_next _ (begin_message_takes count may) (takes_next _ (id_takes head.number is.number) (takes_next _ (name_takes head.name)
    (takes_next _ (mark_takes 58)
    (takes_next _ (whole_takes 0 1785 head.size (size_within head.size is.size)) (takes_next _ (name_takes head.sender)
    takes_value)))))
  where
    size_within : (size : ℕ) → nat_le size 1785 ≡ true → Within 0 1785 size
    size_within size fits = let most : size ≤ 1785 = grind (arith, common_steps) in
        within 0 1785 size (omega arith) most (omega (arith, most))

-- ---- names of signals

fresh_now : (names : List (List ℕ)) (bytes name : List ℕ) → bytes ≡ name → is_name name ≡ true → list_any (bytes_eq name) names
    ≡ false → fresh names bytes ≡ Ok name
fresh_now names bytes name same is new = ap (fresh names) same ∙ rw (is, new) refl

signal_name_takes : (names : List (List ℕ)) (name : List ℕ) → list_any (bytes_eq name) names ≡ false
    → Takes (signal_name_at names) name (Is (Name name) ∷ []) Anything
unfolding signal_name_at
signal_name_takes names name new =
    takes_one _ name (λ bytes. (bytes ≡ name) × IsTrue (is_name name)) (λ t e. fresh_now names t.bytes name e.0 e.1 new)
    (Is (Name name)) (λ tokens means. means)

-- ---- bit positions and pairs

order_now : (intel : Bool) (bytes : List ℕ) → SpellsNumber bytes (cond intel 1 0) → order_of bytes ≡ Ok (byte_order intel)
unfolding order_of
order_now true bytes e = ap order_digit (number_whole bytes 1 (omega arith) e)
order_now false bytes e = ap order_digit (number_whole bytes 0 (omega arith) e)

order_takes : (intel : Bool) → Takes order_at (byte_order intel) (Is (Order intel) ∷ []) Anything
unfolding order_at
order_takes intel = takes_one _ (byte_order intel) (λ bytes. SpellsNumber bytes (cond intel 1 0)) (λ t e. order_now intel t.bytes e)
    (Is (Order intel)) (λ tokens means. means)

sign_takes : (signed : Bool) → Takes sign_at (value_type signed) (sign_form signed) Anything
unfolding sign_at has_mark
sign_takes true = takes_first _ (mark_opens_itself 45) (takes_next _ (mark_takes 45) takes_value)
sign_takes false = takes_second _ (mark_opens (λ bytes. bytes_eq bytes (45 ∷ [])) 43 refl)
    (takes_next _ (mark_takes 43) takes_value)

abbrev bit_field_of : Signal → SignalBits
bit_field_of s = record { start = s.start; length = s.length; order = byte_order s.intel; value_type = value_type s.signed }

bit_field_takes : (s : Signal) → s.start < 2 ^ 16 → (nat_le 1 s.length && nat_le s.length 14280) ≡ true
    → Takes bit_field_at (bit_field_of s) (bit_field_form s.start s.length s.intel s.signed) Anything
unfolding bit_field_at
bit_field_takes s start fits =
    takes_next _ (whole_takes 0 65535 s.start (within 0 65535 s.start (omega arith) (omega (arith, start))
    (omega (arith, start)))) (takes_next _ (mark_takes 124)
    (takes_next _ (whole_takes 1 14280 s.length (length_within s.length fits))
    (takes_next _ (mark_takes 64) (takes_next _ (order_takes s.intel)
    (takes_next _ (sign_takes s.signed) takes_value)))))
  where
    length_within : (n : ℕ) → (nat_le 1 n && nat_le n 14280) ≡ true → Within 1 14280 n
    length_within n fits = let most : n ≤ 14280 = grind (arith, common_steps) in
        record { bounds = fits; small = omega (arith, most) }

pair_takes : (opening between closing : ℕ) (pair : Decimal × Decimal) → Takes (pair_at opening between closing) pair
    (pair_form opening between closing pair) Anything
unfolding pair_at
pair_takes opening between closing pair =
    takes_next _ (mark_takes opening) (takes_next _ (decimal_takes pair.0) (takes_next _ (mark_takes between)
    (takes_next _ (decimal_takes pair.1) (takes_next _ (mark_takes closing) takes_value))))

-- ---- receivers

name_no_comma : (name : List ℕ) → is_name name ≡ true → bytes_eq name (44 ∷ []) ≡ false
unfolding is_name
name_no_comma name is = elim (cases_Bool (bytes_eq name (44 ∷ []))) [
  | inr other ↦ other
  | inl same ↦ (let both : true ≡ false = sym is ∙ ap is_name ((bytes_eq-Decides name (44 ∷ [])).0 same) in absurd cc)
]

name_opens : (test : List ℕ → Bool) (name : List ℕ) {passes : Bool} {parts : List Part} → (is_name name ≡ true → test name ≡ passes)
    → Opens (λ t. test t.bytes) passes (Is (Name name) ∷ parts)
name_opens test name {passes} {parts} e = opens_one (Is (Name name)) (λ bytes. (bytes ≡ name) × IsTrue (is_name name))
    (λ tokens means. means) (λ t is. ap test is.0 ∙ e is.1)

name_is_no_comma : {name : List ℕ} {parts : List Part} → Opens (has_mark 44) false (Is (Name name) ∷ parts)
unfolding has_mark
name_is_no_comma {name} {parts} = name_opens (λ bytes. bytes_eq bytes (44 ∷ [])) name (name_no_comma name)

comma_takes : Takes comma_at tt (Perhaps 44 ∷ []) (Stops (has_mark 44))
unfolding comma_at
comma_takes = perhaps_takes 44

or_second : (a b : Bool) → b ≡ true → (a || b) ≡ true
or_second true b e = refl
or_second false b e = e

name_is_receiver : {name : List ℕ} {parts : List Part} → Opens begins_receiver true (Is (Name name) ∷ parts)
unfolding begins_receiver has_mark has_name
name_is_receiver {name} {parts} = name_opens (λ bytes. bytes_eq bytes (44 ∷ []) || is_name bytes) name
    (or_second (bytes_eq name (44 ∷ [])) (is_name name))

receiver_opens : {name : List ℕ} → Opens begins_receiver true (further_name_form name)
unfolding begins_receiver starts
receiver_opens {name} = record { opens = begins }
  where
    begins : (tokens : List Token) (cut : Cut) → Spelled (further_name_form name) tokens → starts begins_receiver (tokens ▸▸ cut)
        ≡ true
    begins tokens cut (comma, rest, same, inl none, others) =
        ap (λ (t : List Token). starts begins_receiver (t ▸▸ cut)) (same ∙ ap (λ (t : List Token). t ++ rest) none)
        ∙ (name_is_receiver {parts = []}).opens rest cut others
    begins tokens cut (comma, rest, same, inr (t, one, is), others) =
        ap (λ (t : List Token). starts begins_receiver (t ▸▸ cut)) (same ∙ ap (λ (t : List Token). t ++ rest) one)
        ∙ rw (is_the_mark 44 t is) refl

Anyhow : List ℕ → Type 0
Anyhow name = Unit {0}

further_names_take : (names more : List (List ℕ)) → Takes (receivers_from names) (names ++ more) (flat_map further_name_form more)
    (Stops begins_receiver)
unfolding receivers_from Anyhow
further_names_take names more =
    takes_list begins_receiver _ (λ list. after_shrinks comma_keeps λ _. bind_shrinks name_shrinks λ name. value_keeps _)
    further_name_form Anyhow
    (λ list name is. takes_then _ comma_takes (allows_stop name_is_no_comma) (takes_next _ (name_takes name) takes_value))
    (λ name is. receiver_opens) names more (λ i name less. tt)

first_false : (a b : Bool) → (a || b) ≡ false → b ≡ false
first_false true b e = absurd cc
first_false false b e = e

no_name_after : (cut : Cut) → Stops begins_receiver cut → Stops has_name cut
unfolding starts begins_receiver
no_name_after (End line) stops = refl
no_name_after (Fault line) stops = refl
no_name_after (t ▸ cut) stops = first_false (has_mark 44 t) (has_name t) stops

receivers_take : (names : List (List ℕ)) → Takes receivers_at names (receivers_form names) (Stops begins_receiver)
unfolding receivers_at has_name
receivers_take [] = takes_none _ _ no_name_after (takes_where takes_value (λ cut may. tt))
receivers_take (name ∷ names) = takes_first _ (name_opens is_name name (λ is. is)) (takes_next _ (name_takes name)
    (further_names_take (name ∷ []) names))

-- ---- signals

seven : (a b c d e f g : List Part) → ((((((a ++ b) ++ c) ++ d) ++ e) ++ f) ++ g) ≡ a ++ (b ++ (c ++ (d ++ (e ++ (f ++ g)))))
seven a b c d e f g =
    append_assoc ((((a ++ b) ++ c) ++ d) ++ e) f g ∙ append_assoc (((a ++ b) ++ c) ++ d) e (f ++ g)
    ∙ append_assoc ((a ++ b) ++ c) d (e ++ (f ++ g))
    ∙ append_assoc (a ++ b) c (d ++ (e ++ (f ++ g))) ∙ append_assoc a b (c ++ (d ++ (e ++ (f ++ g))))

-- a signal, with its byte order and its value type there and back
abbrev with_bit_field : Signal → SignalBits → Signal
with_bit_field s bit_field = record {
  name = s.name;
  tag = s.tag;
  start = bit_field.start;
  length = bit_field.length;
  intel = is_intel bit_field.order;
  signed = is_signed bit_field.value_type;
  factor = s.factor;
  offset = s.offset;
  minimum = s.minimum;
  maximum = s.maximum;
  unit = s.unit;
  receivers = s.receivers;
}

same_signal : (s : Signal) → with_bit_field s (bit_field_of s) ≡ s
same_signal s = rw (order_back s.intel, sign_back s.signed) refl

value_is : {A : Type 0} {a b : A} → a ≡ b → Takes (value a) b [] Anything
value_is {A} {a} {b} e = subst (λ (b : A). Takes (value a) b [] Anything) e takes_value

colon_occurs : {parts : List Part} → Allows (Is (Mark 58) ∷ parts) (Stops begins_receiver) (λ cut. starts (has_mark 58) cut ≡ true)
colon_occurs {parts} = record { allows = λ tokens cut spelled may. (mark_opens_itself 58).opens tokens cut spelled }

pub signal_takes : (signals : List Signal) (s : Signal) → IsSignal s → nat_lt (length signals) 999 ≡ true
    → list_any (bytes_eq s.name) (names_of signals) ≡ false → Takes (signal_at signals) s (signal_form s) (Stops begins_receiver)
unfolding signal_at
signal_takes signals s is space new =
    takes_as (signal_form_is s ∙ seven (Is (Word (codes "SG_")) ∷ Is (Name s.name) ∷ of_layout (tag_layout s.tag)) (Is (Mark 58)
    ∷ []) (bit_field_form s.start s.length s.intel s.signed) (pair_form 40 44 41 (s.factor, s.offset))
    (pair_form 91 124 93 (s.minimum, s.maximum)) (Is (Text s.unit) ∷ []) (receivers_form s.receivers))
    (takes_next _ (begin_signal_takes (length signals) space) (takes_next _ (signal_name_takes (names_of signals) s.name new)
    (takes_then _ (tag_takes s.tag is.tag) colon_occurs
    (takes_next _ (mark_takes 58) (takes_next _ (bit_field_takes s is.start is.fits)
    (takes_next _ (pair_takes 40 44 41 (s.factor, s.offset)) (takes_next _ (pair_takes 91 124 93 (s.minimum, s.maximum))
    (takes_next _ (text_takes s.unit)
    (takes_last _ (receivers_take s.receivers) (value_is (same_signal s)))))))))))

-- ---- the signals of a message

new_before : (y x : List ℕ) (xs ys : List (List ℕ)) → (not (list_any (bytes_eq y) (xs ++ x ∷ ys)) && are_distinct (xs ++ x ∷ ys))
    ≡ true → (bytes_eq x y ≡ false) × (are_distinct (xs ++ x ∷ ys) ≡ true)
new_before y x xs ys fit = grind (arith, common_steps, list_any-append (bytes_eq y) xs (x ∷ ys), same_either_way x y)

is_new : (xs : List (List ℕ)) (x : List ℕ) (ys : List (List ℕ)) → are_distinct (xs ++ x ∷ ys) ≡ true → list_any (bytes_eq x) xs
    ≡ false
is_new [] x ys fit = refl
is_new (y ∷ xs) x ys fit = let parts = new_before y x xs ys fit in rw (parts.0, is_new xs x ys parts.1) refl

-- a signal that is after these and before those
pub record Fitting (signals : List Signal) (s : Signal) : Type 0 where
  pub space : nat_lt (length signals) 999 ≡ true
  pub new : list_any (bytes_eq s.name) (names_of signals) ≡ false

fitting : (signals : List Signal) (s : Signal) (more : List Signal) → IsTrue (signals_fit (signals ++ s ∷ more)) → Fitting signals s
unfolding signals_fit
fitting signals s more fit =
    let parts = and_parts (nat_le (length (signals ++ s ∷ more)) 999) (are_distinct (names_of (signals ++ s ∷ more))) fit in
    record {
      space = space_left (length signals) (length more) (subst (λ (n : ℕ). nat_le n 999 ≡ true) (length-append signals (s ∷ more))
          parts.0);
      new = is_new (names_of signals) s.name (names_of more) (subst (λ (names : List (List ℕ)). are_distinct names ≡ true)
          (map-append (λ (s : Signal). s.name) signals (s ∷ more)) parts.1);
    }
  where
    space_left : (n m : ℕ) → nat_le (n + suc m) 999 ≡ true → nat_lt n 999 ≡ true
    space_left n m e = grind (arith, common_steps)

-- the signals after these are signals, and all of them fit
pub record AreSignals (signals more : List Signal) : Type 0 where
  pub each : All IsSignal more
  pub fit : IsTrue (signals_fit (signals ++ more))

-- neither a receiver nor a signal
abbrev pub EndsSignals : Cut → Type 0
EndsSignals cut = Stops begins_receiver cut × Stops (has_word (codes "SG_")) cut

signal_opens : {parts : List Part} → Opens (has_word (codes "SG_")) true (Is (Word (codes "SG_")) ∷ parts)
unfolding has_word
signal_opens {parts} = word_opens (λ bytes. bytes_eq bytes (codes "SG_")) (codes "SG_") refl

signal_no_receiver : {parts : List Part} → Opens begins_receiver false (Is (Word (codes "SG_")) ∷ parts)
unfolding begins_receiver has_mark has_name is_name is_keyword
signal_no_receiver {parts} = word_opens (λ bytes. bytes_eq bytes (44 ∷ []) || is_name bytes) (codes "SG_") refl

pub signals_take : (signals more : List Signal) → AreSignals signals more → Takes (signals_from signals) (signals ++ more)
    (flat_map signal_form more) EndsSignals
unfolding signals_from
signals_take signals more are =
    subst (λ (made : List Signal). Takes (signals_from signals) made (flat_map signal_form more) EndsSignals)
    (all_pushed signals more)
    (takes_repeated (has_word (codes "SG_")) _ (λ list. bind_shrinks (signal_shrinks list) λ signal. value_keeps _) signal_form
    pushed AreSignals (Stops begins_receiver) EndsSignals
    (λ list s more are. (let one = fitting list s more are.fit in
    takes_last _ (signal_takes list s (All-head IsSignal s more are.each) one.space one.new) takes_value))
    (λ list s more are. record {
      each = All-tail IsSignal s more are.each;
      fit = subst (λ (all : List Signal). IsTrue (signals_fit all)) (sym (append_assoc list (s ∷ []) more)) are.fit;
    })
    (λ list s more are. opens_as (signal_form_is s) signal_opens) (λ list s more are. allows_as (signal_form_is s)
    (allows_stop signal_no_receiver)) (λ cut ends. ends) signals more are)

pub message_takes : (count : ℕ) (message : Message) → nat_lt count 65535 ≡ true → IsMessage message
    → Takes (message_at count) message (form (OfMessage message)) EndsSignals
unfolding message_at
message_takes count message may is =
    takes_next _ (head_takes count message.head may is.head)
    (takes_last _ (signals_take [] message.signals (record { each = is.signals; fit = is.fit })) takes_value)
