-- The object of a line is one line of UTF-8: its keys and strings are UTF-8.
use Rattle.std.proofs.Common.{◌≡◌, ℕ, ℤ, ◌+◌, Bool, true, false, List, []}
use Rattle.std.proofs.Common.{◌∷◌, ◌++◌, length, map, Option, Some, None, All, if◌then◌else◌}
use Rattle.std.proofs.Common.{slice_get, refl, sym, subst, codes, decimal}
use Rattle.std.specs.Prelude.{nat_le}
use Rattle.std.specs.List.{AllByRecursion, enumerate_from}
use Rattle.std.specs.Option.{IfSome}
use Rattle.std.specs.Ordering.{int_eq}
use Rattle.std.specs.Str.{IsUtf8, is_utf8}
use Rattle.std.proofs.lemmas.List.Elements.{All-nil, All-cons, All-head, All-tail, All-filter}
use Rattle.hex.specs.Hex.{encode_upper}
use Rattle.json.specs.Json.{string, number}
use Rattle.json.proofs.Printed.Utf8.{IsUtf8-are_ascii}
use Rattle.can_json_texts.specs.Texts.{hex_pairs}
use Rattle.can_json_texts.specs.Members.{Member, members_of, object_of, hex_key, hex_members, text_members}
use Rattle.dbc_records.specs.Records.{Signal, Message, Entry, IsSignal, IsMessage}
use Rattle.dbc_records.specs.Databases.{Database, IsDatabase}
use Rattle.can_entries.specs.Rows.{SignalRows, rows_of}
use Rattle.can_entries.specs.Groups.{specific_of, format_of}
use Rattle.can_bits.specs.Bits.{raw_value}
use Rattle.can_entries.specs.Switches.{mux_parents_of}
use Rattle.can_entries.specs.declared.mux_parent.MuxParent.{MuxParent}
use Rattle.can_layout.specs.declared.refusal.Cause.{Cause}
use Rattle.can_layout.specs.declared.refusal.Cause.TheVariants as causes
use Rattle.can_layout.specs.declared.row.Row.{Row}
use Rattle.can_layout.specs.declared.row.Reading.{Reading}
use Rattle.can_layout.specs.declared.row.Reading.TheVariants.{Refused, Read}
use Rattle.can_layout.specs.Decoders.{Decoder, first_entry}
use Rattle.can_layout.specs.Diagrams.{cause_word}
use Rattle.can_layout.specs.Plans.{plan_in, plan_of, row_of}
use Rattle.can_frames.specs.Frames.{Frame, is_data, body_of, frame_of}
use Rattle.can_frames.specs.LogLines.{after_first_word}
use Rattle.can_frames.specs.declared.frame.Kind.{Kind}
use Rattle.can_frames.specs.declared.frame.Kind.TheVariants.{Classic, Fd, Remote, Error}
use Rattle.can_decode.specs.declared.short.Short.{Short}
use Rattle.can_decode.specs.DecodedLines.{Bus, Target, target_of, chosen_target, is_refused, is_shown, shown_rows}
use Rattle.can_json_lines.specs.Signals.{value_text, unit_members, given_members, reading_members, signal_member, signal_members}
use Rattle.can_json_lines.specs.Lines.{kind_word, frame_members, group_members, j1939_members, message_members, wrong_size_members}
use Rattle.can_json_lines.specs.Lines.{values_members, data_stated, stated_members, rest_members, interface_of, rest_of, time_of}
use Rattle.can_json_lines.specs.Lines.{known_members, members_by, line_members, line_json}
use Rattle.can_json_laws.specs.OneLine.{HasTexts, MembersHaveTexts}
use Rattle.can_json_laws.specs.LineLaws.{ShowsBytes, ObjectsAreLines}
use Rattle.can_json_laws.proofs.OneLine.{printed_line}
use Rattle.can_json_laws.proofs.Bytes.{AreBytes, are_bytes, body_bytes, word_bytes, after_bytes, text_is_utf8, hex_utf8}
use Rattle.can_json_texts.proofs.Names.{name_utf8}
use Rattle.can_json_laws.proofs.Stamps.{LinesAreGiven}
use Rattle.can_json_laws.proofs.Targets.{IsKnown, known, all_at}
use Rattle.can_json_laws.proofs.StatedSignals.{EntryBytes, ReadingBytes, RowBytes, find_all, shown_bytes}
use Rattle.can_json_laws.proofs.Parsed.{line_sound}

-- ---- members

abbrev AreTexts : List Member → Type 0
AreTexts members = AllByRecursion (λ (one : Member). IsUtf8 one.0 × HasTexts one.1) members

texts_append : (first second : List Member) → AreTexts first → AreTexts second → AreTexts (first ++ second)
texts_append [] second one other = other
texts_append (member ∷ first) second one other = (one.0, texts_append first second one.1 other)

inside : (members : List Member) → AreTexts members → MembersHaveTexts (members_of members)
inside [] are = tt
inside (one ∷ members) are = (are.0.0, (are.0.1, inside members are.1))

object_texts : (members : List Member) → AreTexts members → HasTexts (object_of members)
object_texts members are = inside members are

hex_by : (key bytes : List ℕ) (test : Bool) → IsUtf8 (hex_key key)
    → AreTexts (hex_members key (if test then None else Some (encode_upper bytes)))
hex_by key bytes true is = tt
hex_by key bytes false is = ((is, hex_utf8 bytes), tt)

bytes_texts : (key bytes : List ℕ) → IsUtf8 key → IsUtf8 (hex_key key) → AreBytes bytes → AreTexts (text_members key bytes)
unfolding hex_pairs
bytes_texts key bytes is pairs are = ((is, text_is_utf8 bytes are), hex_by key bytes (is_utf8 bytes) pairs)

-- ---- frames

kind_utf8 : (kind : Kind) → IsUtf8 (kind_word kind)
kind_utf8 Classic = IsUtf8-are_ascii (codes "data") refl
kind_utf8 Fd = IsUtf8-are_ascii (codes "fd") refl
kind_utf8 Remote = IsUtf8-are_ascii (codes "remote") refl
kind_utf8 Error = IsUtf8-are_ascii (codes "error") refl

data_by : (bytes : List ℕ) (test : Bool) → AreTexts (if test then (codes "data", string (encode_upper bytes)) ∷ [] else [])
data_by bytes true = ((IsUtf8-are_ascii (codes "data") refl, hex_utf8 bytes), tt)
data_by bytes false = tt

frame_texts : (frame : Frame) → AreTexts (frame_members frame)
frame_texts frame = (
  (IsUtf8-are_ascii (codes "id") refl, tt),
  (
    (IsUtf8-are_ascii (codes "extended") refl, tt),
    ((IsUtf8-are_ascii (codes "kind") refl, kind_utf8 frame.kind), data_by frame.bytes (is_data frame)),
  ),
)

-- ---- J1939

destination_by : (identifier : ℕ) (test : Bool)
    → AreTexts (if test then [] else (codes "destination", number (decimal (specific_of identifier))) ∷ [])
destination_by identifier true = tt
destination_by identifier false = ((IsUtf8-are_ascii (codes "destination") refl, tt), tt)

group_texts : (identifier : ℕ) → AreTexts (group_members identifier)
group_texts identifier = (
  (IsUtf8-are_ascii (codes "pgn") refl, tt),
  (
    (IsUtf8-are_ascii (codes "priority") refl, tt),
    (
      (IsUtf8-are_ascii (codes "source") refl, tt),
      destination_by identifier (nat_le 240 (format_of identifier)),
    ),
  ),
)

j1939_texts : (identifier : ℕ) (group : Bool) → AreTexts (j1939_members identifier group)
j1939_texts identifier true =
    ((IsUtf8-are_ascii (codes "j1939") refl, object_texts (group_members identifier) (group_texts identifier)), tt)
j1939_texts identifier false = tt

-- ---- signals

cause_utf8 : (cause : Cause) → IsUtf8 (cause_word cause)
cause_utf8 causes.Outside = IsUtf8-are_ascii (codes "outside") refl
cause_utf8 causes.Float = IsUtf8-are_ascii (codes "float") refl
cause_utf8 causes.Long = IsUtf8-are_ascii (codes "long") refl
cause_utf8 causes.Scale = IsUtf8-are_ascii (codes "scale") refl

unit_texts : (unit : List ℕ) → AreBytes unit → AreTexts (unit_members unit)
unit_texts [] are = tt
unit_texts (b ∷ unit) are =
    bytes_texts (codes "unit") (b ∷ unit) (IsUtf8-are_ascii (codes "unit") refl) (IsUtf8-are_ascii (codes "unit_hex") refl) are

given_texts : (decoder : Decoder) (entry : Option Entry) → AreBytes decoder.unit → IfSome entry EntryBytes
    → AreTexts (given_members decoder entry)
given_texts decoder None unit are = unit_texts decoder.unit unit
given_texts decoder (Some entry) unit are =
    bytes_texts (codes "name") entry.text (IsUtf8-are_ascii (codes "name") refl) (IsUtf8-are_ascii (codes "name_hex") refl)
    (are_bytes entry.text are)

reading_texts : (bytes : List ℕ) (reading : Reading) → ReadingBytes reading → AreTexts (reading_members bytes reading)
reading_texts bytes (Refused cause) are = ((IsUtf8-are_ascii (codes "refused") refl, cause_utf8 cause), tt)
reading_texts bytes (Read decoder) are =
    let raw = raw_value bytes decoder.signed decoder.bits in (
      (IsUtf8-are_ascii (codes "value") refl, tt),
      given_texts decoder (first_entry raw decoder.entries) (are_bytes decoder.unit are.0)
          (find_all EntryBytes (λ (it : Entry). int_eq it.number raw) decoder.entries are.1),
    )

abbrev IsNamed : Row → Type 0
IsNamed row = IsUtf8 row.name

rows_named : (rows : SignalRows) (mux_parents : List MuxParent) (size first : ℕ) (signals : List Signal) → All IsSignal signals
    → All IsNamed (map (λ (placed : ℕ × Signal). row_of rows mux_parents size placed.0 placed.1) (enumerate_from first signals))
rows_named rows mux_parents size first [] all = All-nil IsNamed
rows_named rows mux_parents size first (signal ∷ signals) all =
    let one : IsSignal signal = All-head IsSignal signal signals all in
    All-cons IsNamed (row_of rows mux_parents size first signal)
    (map (λ (placed : ℕ × Signal). row_of rows mux_parents size placed.0 placed.1) (enumerate_from (first + 1) signals))
    (name_utf8 signal.name one.name) (rows_named rows mux_parents size (first + 1) signals (All-tail IsSignal signal signals all))

rows_texts : (bytes : List ℕ) (rows : List Row) → All IsNamed rows → All RowBytes rows → AreTexts (map (signal_member bytes) rows)
rows_texts bytes [] named are = tt
rows_texts bytes (row ∷ rows) named are = (
  (
    All-head IsNamed row rows named,
    object_texts (reading_members bytes row.reading) (reading_texts bytes row.reading (All-head RowBytes row rows are)),
  ),
  rows_texts bytes rows (All-tail IsNamed row rows named) (All-tail RowBytes row rows are),
)

signals_texts : (bytes : List ℕ) (database : Database) (message : Message) (at : ℕ) → IsMessage message → ShowsBytes database
    → slice_get database.messages at ≡ Some message → AreTexts (signal_members bytes (plan_of database message))
unfolding plan_in
signals_texts bytes database message at is shows there =
    let rows = rows_of message.head.number database in
    let plan = plan_of database message in
    rows_texts bytes (shown_rows bytes plan plan.rows)
    (All-filter (is_shown bytes plan) IsNamed plan.rows
    (rows_named rows (mux_parents_of rows message.signals) message.head.size 0 message.signals is.signals))
    (shown_bytes bytes database message at shows there)

-- ---- messages

head_texts : (frame : Frame) (target : Target) → IsUtf8 target.message.head.name → AreTexts (message_members frame target)
head_texts frame target name = (
  (IsUtf8-are_ascii (codes "message") refl, name),
  ((IsUtf8-are_ascii (codes "number") refl, tt), j1939_texts frame.identifier target.group),
)

cause_texts : (cause : List ℕ) → IsUtf8 cause → AreTexts ((codes "not_decoded", string cause) ∷ [])
cause_texts cause is = ((IsUtf8-are_ascii (codes "not_decoded") refl, is), tt)

values_by : (frame : Frame) (target : Target) (test : Bool) → AreTexts (signal_members frame.bytes target.plan)
    → AreTexts (if test then wrong_size_members target.plan.size
    else (codes "signals", object_of (signal_members frame.bytes target.plan)) ∷ [])
values_by frame target true are = (
  (IsUtf8-are_ascii (codes "not_decoded") refl, IsUtf8-are_ascii (codes "wrong size") refl),
  ((IsUtf8-are_ascii (codes "size") refl, tt), tt),
)
values_by frame target false are =
    ((IsUtf8-are_ascii (codes "signals") refl, object_texts (signal_members frame.bytes target.plan) are), tt)

target_texts : (short : Short) (database : Database) (frame : Frame) (target : Target) → IsDatabase database → ShowsBytes database
    → IsKnown short database target → AreTexts (data_stated frame (Some target))
target_texts short database frame target is shows known =
    let message : IsMessage known.message = all_at IsMessage database.messages known.at known.message is.messages known.there in
    let one : Target = target_of short database known.message in
    subst (λ (it : Target). AreTexts (data_stated frame (Some it))) (sym known.is) (
    texts_append (message_members frame one) (values_members frame one)
    (head_texts frame one (name_utf8 known.message.head.name message.head.name))
    (values_by frame one (is_refused short (length frame.bytes) one.plan.size)
    (signals_texts frame.bytes database known.message known.at message shows known.there))
    )

data_texts : (short : Short) (database : Database) (frame : Frame) (target : Option Target) → IsDatabase database
    → ShowsBytes database → chosen_target short database frame ≡ target → AreTexts (data_stated frame target)
data_texts short database frame None is shows found =
    cause_texts (codes "unknown id") (IsUtf8-are_ascii (codes "unknown id") refl)
data_texts short database frame (Some target) is shows found =
    target_texts short database frame target is shows (known short database frame target found)

stated_texts : (short : Short) (database : Database) (kind : Kind) (frame : Frame) (target : Option Target) → IsDatabase database
    → ShowsBytes database → chosen_target short database frame ≡ target → AreTexts (stated_members kind frame target)
stated_texts short database Error frame target is shows found =
    cause_texts (codes "error frame") (IsUtf8-are_ascii (codes "error frame") refl)
stated_texts short database Remote frame target is shows found =
    cause_texts (codes "remote frame") (IsUtf8-are_ascii (codes "remote frame") refl)
stated_texts short database Classic frame target is shows found = data_texts short database frame target is shows found
stated_texts short database Fd frame target is shows found = data_texts short database frame target is shows found

-- ---- lines

rest_texts : (rest : List ℕ) → AreBytes rest → AreTexts (rest_members rest)
rest_texts [] are = tt
rest_texts (b ∷ rest) are =
    bytes_texts (codes "rest") (b ∷ rest) (IsUtf8-are_ascii (codes "rest") refl) (IsUtf8-are_ascii (codes "rest_hex") refl) are

interface_bytes : (body : List ℕ) → AreBytes body → AreBytes (interface_of body)
unfolding interface_of
interface_bytes body are = word_bytes (after_first_word body) (after_bytes body are)

rest_bytes : (body : List ℕ) → AreBytes body → AreBytes (rest_of body)
unfolding rest_of
rest_bytes body are =
    after_bytes (after_first_word (after_first_word body)) (after_bytes (after_first_word body) (after_bytes body are))

known_texts : (bus : Bus) (body : List ℕ) (frame : Frame) → IsDatabase bus.database → ShowsBytes bus.database → AreBytes body
    → AreTexts (known_members body frame (chosen_target bus.short bus.database frame))
unfolding known_members
known_texts bus body frame is shows are =
    let target = chosen_target bus.short bus.database frame in
    let came = text_members (codes "interface") (interface_of body) in
    let stated = stated_members frame.kind frame target in
    let rest = rest_members (rest_of body) in (
      (IsUtf8-are_ascii (codes "time") refl, tt),
      texts_append came (frame_members frame ++ (stated ++ rest))
          (bytes_texts (codes "interface") (interface_of body) (IsUtf8-are_ascii (codes "interface") refl)
          (IsUtf8-are_ascii (codes "interface_hex") refl) (interface_bytes body are))
          (texts_append (frame_members frame) (stated ++ rest) (frame_texts frame)
          (texts_append stated rest (stated_texts bus.short bus.database frame.kind frame target is shows refl)
          (rest_texts (rest_of body) (rest_bytes body are)))),
    )

line_by : (bus : Bus) (body : List ℕ) (frame : Option Frame) → IsDatabase bus.database → ShowsBytes bus.database → AreBytes body
    → AreTexts (members_by bus body frame)
line_by bus body None is shows are =
    bytes_texts (codes "line") body (IsUtf8-are_ascii (codes "line") refl) (IsUtf8-are_ascii (codes "line_hex") refl) are
line_by bus body (Some frame) is shows are = known_texts bus body frame is shows are

line_texts : (bus : Bus) (line : List ℕ) → IsDatabase bus.database → ShowsBytes bus.database → AreBytes line
    → HasTexts (line_json bus line)
unfolding line_members
line_texts bus line is shows are =
    object_texts (members_by bus (body_of line) (frame_of (body_of line)))
    (line_by bus (body_of line) (frame_of (body_of line)) is shows (body_bytes line are))

pub objects_are_lines : LinesAreGiven → ObjectsAreLines
objects_are_lines given bus line is shows are =
    printed_line (line_json bus line) (line_sound given bus line is).0 (line_texts bus line is shows (are_bytes line are))
