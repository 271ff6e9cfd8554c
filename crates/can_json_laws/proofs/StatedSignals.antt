-- The texts of signals follow from their members.
use Rattle.std.proofs.Common.{◌≡◌, ℕ, ℤ, ◌+◌, Bool, true, false, cond, List, [], ◌∷◌, ◌++◌, map, Option, Some, None, All}
use Rattle.std.proofs.Common.{slice_get, ◌==◌}
use Rattle.std.proofs.Common.{refl, ap, ap₂, ◌∙◌, codes}
use Rattle.std.specs.Prelude.{⊤}
use Rattle.std.specs.List.{find, flat_map, enumerate_from}
use Rattle.std.specs.Option.{IfSome}
use Rattle.std.specs.Ordering.{int_eq}
use Rattle.std.specs.Str.{bytes_eq}
use Rattle.std.proofs.lemmas.List.Elements.{All-nil, All-cons, All-head, All-tail, All-filter}
use Rattle.hex.specs.Hex.{IsBytes}
use Rattle.json.specs.Json.{Json, number}
use Rattle.can_json_texts.specs.Members.{members_of}
use Rattle.dbc_records.specs.Records.{Signal, Message, Entry, ValueRow}
use Rattle.dbc_records.specs.Databases.{Database}
use Rattle.can_entries.specs.Rows.{SignalRows, rows_of, first_values, entries_of}
use Rattle.can_bits.specs.Bits.{raw_value}
use Rattle.can_entries.specs.Switches.{mux_parents_of}
use Rattle.can_entries.specs.declared.mux_parent.MuxParent.{MuxParent}
use Rattle.can_layout.specs.declared.refusal.Cause.{Cause}
use Rattle.can_layout.specs.declared.row.Row.{Row}
use Rattle.can_layout.specs.declared.row.Reading.{Reading}
use Rattle.can_layout.specs.declared.row.Reading.TheVariants.{Refused, Read}
use Rattle.can_layout.specs.Decoders.{Decoder, first_entry, unit_text}
use Rattle.can_layout.specs.Plans.{plan_in, plan_of, row_of, reading_unless, cause_of}
use Rattle.dbc_text_buffer.specs.Shown.{shown}
use Rattle.can_decode.specs.Values.{named_or_number, reading_text}
use Rattle.can_decode.specs.DecodedLines.{signal_text, further_signal, listed, is_shown, shown_rows, signals_text}
use Rattle.can_json_lines.specs.Signals.{value_text, unit_members, given_members, reading_members, signal_member, signal_members}
use Rattle.can_json_laws.specs.LineLaws.{ShowsBytes}
use Rattle.can_json_laws.specs.Stated.{value_at, described_by, reading_by, signal_by, further_by, signals_by, bytes_at}
use Rattle.can_json_laws.proofs.Among.{none_among, keys_of}
use Rattle.can_json_laws.proofs.Looked.{absent, bytes_found}
use Rattle.can_json_laws.proofs.Readings.{given_keys, given_among, unit_keys, unit_among}
use Rattle.can_json_laws.proofs.Targets.{all_at}

-- ---- texts that are bytes

abbrev pub EntryBytes : Entry → Type 0
EntryBytes entry = IsBytes entry.text

abbrev pub ReadingBytes : Reading → Type 0
ReadingBytes (Refused cause) = ⊤
ReadingBytes (Read decoder) = IsBytes decoder.unit × All EntryBytes decoder.entries

abbrev pub RowBytes : Row → Type 0
RowBytes row = ReadingBytes row.reading

found_by : {X : Type 0} (P : X → Type 0) (test : Bool) (x : X) (rest : Option X) → P x → IfSome rest P
    → IfSome (cond test (Some x) rest) P
found_by P true x rest first others = first
found_by P false x rest first others = others

pub find_all : {X : Type 0} (P : X → Type 0) (test : X → Bool) (xs : List X) → All P xs → IfSome (find test xs) P
find_all P test [] all = tt
find_all P test (x ∷ xs) all =
    found_by P (test x) x (find test xs) (All-head P x xs all) (find_all P test xs (All-tail P x xs all))

entries_bytes : (row : Option ValueRow) → IfSome row (λ it. All EntryBytes it.entries) → All EntryBytes (entries_of row)
entries_bytes None all = All-nil EntryBytes
entries_bytes (Some row) all = all

-- the entries of a signal
named_bytes : (database : Database) (n : ℕ) (name : List ℕ)
    → All (λ row. All (λ entry. IsBytes entry.text) row.entries) database.values
    → All EntryBytes (entries_of (first_values name (rows_of n database)))
unfolding rows_of
named_bytes database n name all =
    entries_bytes (first_values name (rows_of n database))
    (find_all (λ (row : ValueRow). All EntryBytes row.entries) (λ (row : ValueRow). bytes_eq row.signal name)
    (rows_of n database).values
    (All-filter (λ (row : ValueRow). row.number == n) (λ (row : ValueRow). All EntryBytes row.entries) database.values all))

reading_bytes : (cause : Option Cause) (rows : SignalRows) (signal : Signal) → IsBytes signal.unit
    → All EntryBytes (entries_of (first_values signal.name rows)) → ReadingBytes (reading_unless cause rows signal)
reading_bytes None rows signal unit entries = (unit, entries)
reading_bytes (Some cause) rows signal unit entries = tt

abbrev UnitBytes : Signal → Type 0
UnitBytes signal = IsBytes signal.unit

rows_bytes : (rows : SignalRows) (mux_parents : List MuxParent) (size first : ℕ) (signals : List Signal) → All UnitBytes signals
    → ((name : List ℕ) → All EntryBytes (entries_of (first_values name rows)))
    → All RowBytes (map (λ (placed : ℕ × Signal). row_of rows mux_parents size placed.0 placed.1) (enumerate_from first signals))
rows_bytes rows mux_parents size first [] units entries = All-nil RowBytes
rows_bytes rows mux_parents size first (signal ∷ signals) units entries =
    All-cons RowBytes (row_of rows mux_parents size first signal)
    (map (λ (placed : ℕ × Signal). row_of rows mux_parents size placed.0 placed.1) (enumerate_from (first + 1) signals))
    (reading_bytes (cause_of rows size signal) rows signal (All-head UnitBytes signal signals units) (entries signal.name))
    (rows_bytes rows mux_parents size (first + 1) signals (All-tail UnitBytes signal signals units) entries)

-- ---- values

unit_stated : (digits unit : List ℕ) → IsBytes unit
    → unit_text (bytes_at (codes "unit") (members_of ((codes "value", number digits) ∷ unit_members unit))) ≡ unit_text unit
unit_stated digits [] are = refl
unit_stated digits (b ∷ unit) are =
    ap unit_text (bytes_found (codes "unit") (b ∷ unit) (record { itself = refl; apart = refl; pairs = refl }) are)

described : (decoder : Decoder) (raw : ℤ) (entry : Option Entry) → IsBytes decoder.unit → IfSome entry EntryBytes
    → described_by (value_at (codes "name")
    (members_of ((codes "value", number (value_text decoder raw)) ∷ given_members decoder entry)))
    (members_of ((codes "value", number (value_text decoder raw)) ∷ given_members decoder entry)) ≡ named_or_number decoder raw
    entry
described decoder raw None unit entry =
    let given = members_of ((codes "value", number (value_text decoder raw)) ∷ unit_members decoder.unit) in
    ap (λ (name : Option Json). described_by name given)
    (absent (codes "name") (unit_members decoder.unit)
    (none_among (codes "name") (keys_of (unit_members decoder.unit)) unit_keys (unit_among decoder.unit) refl))
    ∙ ap (λ (text : List ℕ). value_text decoder raw ++ text) (unit_stated (value_text decoder raw) decoder.unit unit)
described decoder raw (Some entry) unit are =
    ap shown (bytes_found (codes "name") entry.text (record { itself = refl; apart = refl; pairs = refl }) are)

reading_stated : (bytes : List ℕ) (reading : Reading) → ReadingBytes reading
    → reading_by (value_at (codes "refused") (members_of (reading_members bytes reading)))
    (members_of (reading_members bytes reading)) ≡ reading_text bytes reading
reading_stated bytes (Refused cause) are = refl
reading_stated bytes (Read decoder) are =
    let raw = raw_value bytes decoder.signed decoder.bits in
    let entry = first_entry raw decoder.entries in
    let given = members_of ((codes "value", number (value_text decoder raw)) ∷ given_members decoder entry) in
    ap (λ (refused : Option Json). reading_by refused given)
    (absent (codes "refused") (given_members decoder entry)
    (none_among (codes "refused") (keys_of (given_members decoder entry)) given_keys (given_among decoder entry) refl))
    ∙ described decoder raw entry are.0 (find_all EntryBytes (λ (it : Entry). int_eq it.number raw) decoder.entries are.1)

-- ---- signals

signal_stated : (bytes : List ℕ) (row : Row) → RowBytes row
    → signal_by row.name (signal_member bytes row).1 ≡ signal_text bytes row
unfolding signal_text
signal_stated bytes row are = ap (λ (text : List ℕ). row.name ++ (codes ": " ++ text)) (reading_stated bytes row.reading are)

further_stated : (bytes : List ℕ) (rows : List Row) → All RowBytes rows
    → further_by (members_of (map (signal_member bytes) rows)) ≡ flat_map (further_signal bytes) rows
further_stated bytes [] are = refl
further_stated bytes (row ∷ rows) are =
    ap₂ (λ (one others : List ℕ). (codes ", " ++ one) ++ others) (signal_stated bytes row (All-head RowBytes row rows are))
    (further_stated bytes rows (All-tail RowBytes row rows are))

rows_stated : (bytes : List ℕ) (rows : List Row) → All RowBytes rows
    → signals_by (members_of (map (signal_member bytes) rows)) ≡ listed (signal_text bytes) (further_signal bytes) rows
rows_stated bytes [] are = refl
rows_stated bytes (row ∷ rows) are =
    ap₂ (λ (one others : List ℕ). one ++ others) (signal_stated bytes row (All-head RowBytes row rows are))
    (further_stated bytes rows (All-tail RowBytes row rows are))

abbrev MessageBytes : Message → Type 0
MessageBytes message = All (λ signal. IsBytes signal.unit) message.signals

pub shown_bytes : (bytes : List ℕ) (database : Database) (message : Message) (at : ℕ) → ShowsBytes database
    → slice_get database.messages at ≡ Some message
    → All RowBytes (shown_rows bytes (plan_of database message) (plan_of database message).rows)
unfolding plan_in
shown_bytes bytes database message at shows there =
    let rows = rows_of message.head.number database in
    let plan = plan_of database message in
    All-filter (is_shown bytes plan) RowBytes plan.rows
    (rows_bytes rows (mux_parents_of rows message.signals) message.head.size 0 message.signals
    (all_at MessageBytes database.messages at message shows.units there)
    (λ name. named_bytes database message.head.number name shows.descriptions))

pub signals_stated : (bytes : List ℕ) (database : Database) (message : Message) (at : ℕ) → ShowsBytes database
    → slice_get database.messages at ≡ Some message
    → signals_by (members_of (signal_members bytes (plan_of database message)))
    ≡ signals_text bytes (shown_rows bytes (plan_of database message) (plan_of database message).rows)
signals_stated bytes database message at shows there =
    rows_stated bytes (shown_rows bytes (plan_of database message) (plan_of database message).rows)
    (shown_bytes bytes database message at shows there)
