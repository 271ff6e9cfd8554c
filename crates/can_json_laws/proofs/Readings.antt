-- The signals of a line are sound: each value is a number, and no key occurs twice.
use Rattle.std.proofs.Common.{◌≡◌, ℕ, ℤ, ◌+◌, ◌≤◌, ◌^◌, ◌&&◌, not, Bool, true, false, cond, inl, List, [], ◌∷◌, ◌++◌, length, map}
use Rattle.std.proofs.Common.{filter, Option, Some, None, All, if◌then◌else◌, refl, sym, ap, ◌∙◌, subst, codes}
use Rattle.std.specs.Prelude.{nat_le, nat_lt, unsigned_abs}
use Rattle.std.specs.List.{enumerate_from}
use Rattle.std.proofs.lemmas.Bool.{and_parts, leb-true}
use Rattle.std.proofs.lemmas.List.Elements.{All-nil, All-cons, All-head, All-tail, All-filter}
use Rattle.json.specs.Json.{string}
use Rattle.json.specs.Print.{IsNumber}
use Rattle.can_json_texts.specs.Members.{object_of, text_members, hex_key}
use Rattle.dbc_values.specs.Decimals.{Decimal}
use Rattle.dbc_values.specs.Scales.{IsScale, scale_fits, scale_of, places_of, magnitude_at, whole_at, reach_fits}
use Rattle.dbc_values.proofs.Scaling.{abs_signed, reach_of}
use Rattle.dbc_records.specs.Records.{Signal, Message, Entry, IsMessage, signals_fit, are_distinct, names_of, most_signals}
use Rattle.dbc_records.specs.Databases.{Database}
use Rattle.can_bits.specs.declared.field.Field.{Field}
use Rattle.can_bits.specs.Bits.{field_of, bits_of, is_outside, raw_value}
use Rattle.can_bits.proofs.SignedValues.{value_in_range}
use Rattle.can_entries.specs.Rows.{SignalRows, rows_of, first_float, is_float_row, first_values, entries_of}
use Rattle.can_entries.specs.Switches.{mux_parents_of}
use Rattle.can_entries.specs.declared.mux_parent.MuxParent.{MuxParent}
use Rattle.can_layout.specs.declared.refusal.Cause.{Cause}
use Rattle.can_layout.specs.declared.refusal.Cause.TheVariants as causes
use Rattle.can_layout.specs.declared.row.Row.{Row}
use Rattle.can_layout.specs.Decoders.{Decoder, first_entry}
use Rattle.can_layout.specs.Diagrams.{cause_word}
use Rattle.can_layout.specs.Plans.{plan_in, plan_of, row_of, reading_unless, cause_of}
use Rattle.can_layout.proofs.Decoders.{all_bits}
use Rattle.can_decode.specs.Values.{scaled, scaled_text}
use Rattle.can_decode.specs.DecodedLines.{shown_rows, is_shown}
use Rattle.can_decode.specs.ScaledTexts.{IsScaledText}
use Rattle.can_decode.proofs.ScaledTexts.{scaled_text_of_scale}
use Rattle.can_json_lines.specs.Signals.{value_text, unit_members, given_members, value_members, reading_members, signal_member}
use Rattle.can_json_lines.specs.Signals.{signal_members}
use Rattle.can_json_laws.proofs.Among.{Among, among_after, among_before, distinct_names, distinct_among, keys_of}
use Rattle.can_json_laws.proofs.Sound.{IsSound, AreSound, string_sound, number_sound, object_sound, texts_sound, texts_among}
use Rattle.can_json_laws.proofs.Numbers.{scaled_number}

-- ---- scales

no_cause : (a b c d : Bool) → (if a then Some causes.Outside else if b then Some causes.Float else if c then Some causes.Long
    else if not d then Some causes.Scale else None) ≡ None → d ≡ true
no_cause true b c d is = absurd (let no : Some causes.Outside ≡ None = is in cc)
no_cause false true c d is = absurd (let no : Some causes.Float ≡ None = is in cc)
no_cause false false true d is = absurd (let no : Some causes.Long ≡ None = is in cc)
no_cause false false false false is = absurd (let no : Some causes.Scale ≡ None = is in cc)
no_cause false false false true is = refl

pub fits_of : (rows : SignalRows) (size : ℕ) (signal : Signal) → cause_of rows size signal ≡ None
    → scale_fits signal.factor signal.offset signal.length ≡ true
unfolding cause_of
fits_of rows size signal is =
    no_cause (is_outside size (field_of signal)) (is_float_row (first_float signal.name rows)) (nat_lt 64 signal.length)
    (scale_fits signal.factor signal.offset signal.length) is

is_scale : (factor offset : Decimal) (length : ℕ) → scale_fits factor offset length ≡ true → IsScale (scale_of factor offset length)
unfolding scale_fits scale_of
is_scale factor offset length fits =
    let places = places_of factor offset in
    let both = and_parts (nat_le length 64 && nat_le places 36) (reach_of factor offset length) fits in
    let bounds = and_parts (nat_le length 64) (nat_le places 36) both.0 in
    record {
      length = leb-true length 64 bounds.0;
      places = leb-true places 36 bounds.1;
      reach =
          ap (λ (n : ℕ). reach_fits n (unsigned_abs (whole_at places offset)) length)
          (abs_signed factor.negative (magnitude_at places factor))
          ∙ ap (λ (n : ℕ). reach_fits (magnitude_at places factor) n length)
          (abs_signed offset.negative (magnitude_at places offset))
          ∙ both.1;
    }

raw_fits : (factor offset : Decimal) (bytes : List ℕ) (signed : Bool) (field : Field)
    → unsigned_abs (raw_value bytes signed (bits_of field)) ≤ 2 ^ (scale_of factor offset field.length).length
unfolding scale_of
raw_fits factor offset bytes signed field =
    subst (λ (n : ℕ). unsigned_abs (raw_value bytes signed (bits_of field)) ≤ 2 ^ n) (all_bits field)
    (value_in_range bytes signed field)

pub value_exact : (bytes : List ℕ) (signal : Signal) → scale_fits signal.factor signal.offset signal.length ≡ true
    → IsScaledText (scaled (scale_of signal.factor signal.offset signal.length)
    (raw_value bytes signal.signed (bits_of (field_of signal)))) (scale_of signal.factor signal.offset signal.length).places
    (scaled_text (scaled (scale_of signal.factor signal.offset signal.length)
    (raw_value bytes signal.signed (bits_of (field_of signal)))) (scale_of signal.factor signal.offset signal.length).places)
value_exact bytes signal fits =
    scaled_text_of_scale (scale_of signal.factor signal.offset signal.length)
    (raw_value bytes signal.signed (bits_of (field_of signal)))
    (is_scale signal.factor signal.offset signal.length fits)
    (raw_fits signal.factor signal.offset bytes signal.signed (field_of signal))

value_number : (bytes : List ℕ) (signal : Signal) → scale_fits signal.factor signal.offset signal.length ≡ true
    → IsNumber (scaled_text (scaled (scale_of signal.factor signal.offset signal.length)
    (raw_value bytes signal.signed (bits_of (field_of signal)))) (scale_of signal.factor signal.offset signal.length).places)
value_number bytes signal fits =
    let scale = scale_of signal.factor signal.offset signal.length in
    let raw = raw_value bytes signal.signed (bits_of (field_of signal)) in
    scaled_number (scaled scale raw) scale.places (scaled_text (scaled scale raw) scale.places) (value_exact bytes signal fits)

-- ---- what is reported of a value

abbrev name_keys : List (List ℕ)
name_keys = codes "name" ∷ hex_key (codes "name") ∷ []

abbrev pub unit_keys : List (List ℕ)
unit_keys = codes "unit" ∷ hex_key (codes "unit") ∷ []

abbrev pub given_keys : List (List ℕ)
given_keys = name_keys ++ unit_keys

abbrev value_keys : List (List ℕ)
value_keys = codes "value" ∷ given_keys

unit_sound : (unit : List ℕ) → AreSound 0 (unit_members unit)
unit_sound [] = tt
unit_sound (b ∷ unit) = texts_sound 0 (codes "unit") (b ∷ unit)

pub unit_among : (unit : List ℕ) → Among (keys_of (unit_members unit)) unit_keys
unit_among [] = tt
unit_among (b ∷ unit) = texts_among (codes "unit") (b ∷ unit)

given_sound : (decoder : Decoder) (entry : Option Entry) → AreSound 0 (given_members decoder entry)
given_sound decoder None = unit_sound decoder.unit
given_sound decoder (Some entry) = texts_sound 0 (codes "name") entry.text

pub given_among : (decoder : Decoder) (entry : Option Entry) → Among (keys_of (given_members decoder entry)) given_keys
given_among decoder None = among_after (keys_of (unit_members decoder.unit)) name_keys unit_keys (unit_among decoder.unit)
given_among decoder (Some entry) =
    among_before (keys_of (text_members (codes "name") entry.text)) name_keys unit_keys (texts_among (codes "name") entry.text)

value_sound : (decoder : Decoder) (raw : ℤ) → IsNumber (value_text decoder raw) → IsSound 1 (object_of (value_members decoder raw))
value_sound decoder raw is =
    let entry = first_entry raw decoder.entries in
    object_sound 0 (value_members decoder raw)
    (number_sound 0 (value_text decoder raw) is, given_sound decoder entry)
    (distinct_among (keys_of (value_members decoder raw)) value_keys (inl (refl, given_among decoder entry))
    (distinct_names value_keys refl))

-- ---- signals

refused_sound : (bytes : List ℕ) (cause : Cause) → IsSound 1 (object_of ((codes "refused", string (cause_word cause)) ∷ []))
refused_sound bytes cause = object_sound 0 ((codes "refused", string (cause_word cause)) ∷ [])
    (string_sound 0 (cause_word cause), tt) (distinct_names (codes "refused" ∷ []) refl)

reading_by : (bytes : List ℕ) (rows : SignalRows) (size : ℕ) (signal : Signal) (cause : Option Cause)
    → cause_of rows size signal ≡ cause → IsSound 1 (object_of (reading_members bytes (reading_unless cause rows signal)))
reading_by bytes rows size signal (Some cause) is = refused_sound bytes cause
reading_by bytes rows size signal None is = value_sound (record {
  bits = bits_of (field_of signal);
  signed = signal.signed;
  scale = scale_of signal.factor signal.offset signal.length;
  unit = signal.unit;
  entries = entries_of (first_values signal.name rows);
}) (raw_value bytes signal.signed (bits_of (field_of signal))) (value_number bytes signal (fits_of rows size signal is))

abbrev RowSound : List ℕ → Row → Type 0
RowSound bytes row = IsSound 1 (object_of (reading_members bytes row.reading))

rows_sound : (bytes : List ℕ) (rows : SignalRows) (mux_parents : List MuxParent) (size first : ℕ) (signals : List Signal)
    → All (RowSound bytes) (map (λ (placed : ℕ × Signal). row_of rows mux_parents size placed.0 placed.1) (enumerate_from first
    signals))
rows_sound bytes rows mux_parents size first [] = All-nil (RowSound bytes)
rows_sound bytes rows mux_parents size first (signal ∷ signals) =
    All-cons (RowSound bytes) (row_of rows mux_parents size first signal)
    (map (λ (placed : ℕ × Signal). row_of rows mux_parents size placed.0 placed.1) (enumerate_from (first + 1) signals))
    (reading_by bytes rows size signal (cause_of rows size signal) refl) (rows_sound bytes rows mux_parents size (first + 1)
    signals)

members_sound : (bytes : List ℕ) (rows : List Row) → All (RowSound bytes) rows → AreSound 1 (map (signal_member bytes) rows)
members_sound bytes [] all = tt
members_sound bytes (row ∷ rows) all =
    (All-head (RowSound bytes) row rows all, members_sound bytes rows (All-tail (RowSound bytes) row rows all))

-- ---- names

abbrev row_names : List Row → List (List ℕ)
row_names rows = map (λ (row : Row). row.name) rows

names_are : (rows : SignalRows) (mux_parents : List MuxParent) (size first : ℕ) (signals : List Signal)
    → row_names (map (λ (placed : ℕ × Signal). row_of rows mux_parents size placed.0 placed.1) (enumerate_from first signals))
    ≡ names_of signals
names_are rows mux_parents size first [] = refl
names_are rows mux_parents size first (signal ∷ signals) =
    ap (λ (names : List (List ℕ)). signal.name ∷ names) (names_are rows mux_parents size (first + 1) signals)

kept_among : (test : Bool) (row : Row) (kept rows : List Row) → Among (row_names kept) (row_names rows)
    → Among (row_names (cond test (row ∷ kept) kept)) (row.name ∷ row_names rows)
kept_among true row kept rows among = inl (refl, among)
kept_among false row kept rows among = among_after (row_names kept) (row.name ∷ []) (row_names rows) among

shown_among : (test : Row → Bool) (rows : List Row) → Among (row_names (filter test rows)) (row_names rows)
shown_among test [] = tt
shown_among test (row ∷ rows) = kept_among (test row) row (filter test rows) rows (shown_among test rows)

keys_are_names : (bytes : List ℕ) (rows : List Row) → keys_of (map (signal_member bytes) rows) ≡ row_names rows
keys_are_names bytes [] = refl
keys_are_names bytes (row ∷ rows) = ap (λ (names : List (List ℕ)). row.name ∷ names) (keys_are_names bytes rows)

distinct_signals : (message : Message) → IsMessage message → are_distinct (names_of message.signals) ≡ true
unfolding signals_fit
distinct_signals message is =
    (and_parts (nat_le (length message.signals) most_signals) (are_distinct (names_of message.signals)) is.fit).1

pub signals_sound : (bytes : List ℕ) (database : Database) (message : Message) → IsMessage message
    → IsSound 2 (object_of (signal_members bytes (plan_of database message)))
unfolding plan_in
signals_sound bytes database message is =
    let rows = rows_of message.head.number database in
    let plan = plan_of database message in
    let mux_parents = mux_parents_of rows message.signals in
    let shown = shown_rows bytes plan plan.rows in
    let all : All (RowSound bytes) shown = All-filter (is_shown bytes plan) (RowSound bytes) plan.rows
    (rows_sound bytes rows mux_parents message.head.size 0 message.signals) in
    let among : Among (keys_of (signal_members bytes plan)) (names_of message.signals) =
    subst (λ (keys : List (List ℕ)). Among keys (names_of message.signals)) (sym (keys_are_names bytes shown))
    (subst (λ (names : List (List ℕ)). Among (row_names shown) names) (names_are rows mux_parents message.head.size 0
    message.signals)
    (shown_among (is_shown bytes plan) plan.rows)) in
    object_sound 1 (signal_members bytes plan) (members_sound bytes shown all)
    (distinct_among (keys_of (signal_members bytes plan)) (names_of message.signals) among
    (distinct_names (names_of message.signals) (distinct_signals message is)))
