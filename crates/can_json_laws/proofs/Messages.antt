-- The object of a message reads back.
use Rattle.std.proofs.Common.{◌≡◌, ℕ, zero, suc, ◌+◌, ◌-◌, ◌*◌, ◌/◌, ◌%◌, ◌<◌, ◌≤◌, ◌^◌, Bool, true, false, if◌then◌else◌, List}
use Rattle.std.proofs.Common.{[], ◌∷◌, ◌++◌}
use Rattle.std.proofs.Common.{Option, Some, None, map, All, slice_get, refl, sym, ap, ◌∙◌, arith, IsTrue, codes}
use Rattle.std.specs.Prelude.{nat_le, ◌&&◌, ◌==◌}
use Rattle.std.specs.List.{AllByRecursion, enumerate_from, range_with_len}
use Rattle.std.specs.Option.{IfSome}
use Rattle.std.specs.Str.{bytes_eq}
use Rattle.std.proofs.lemmas.Bool.{leb-true, and_parts}
use Rattle.json.specs.Json.{Json, null, boolean, string}
use Rattle.json.proofs.Printed.Trees.{document-print}
use Rattle.can_json_texts.specs.Members.{Member, object_of, text_members}
use Rattle.can_json_texts.specs.Values.{array_of, or_null}
use Rattle.can_json_texts.specs.Records.{whole_json, decimal_json, name_json, names_json, entries_json, ranges_json}
use Rattle.can_json_texts.specs.Records.{own_attribute_json}
use Rattle.can_json_texts.specs.Records.{tag_json}
use Rattle.dbc_records.specs.Records.{Head, IsHead, Signal, IsSignal, Message, IsMessage, Entry, IsEntry, ValueRow, IsValueRow}
use Rattle.dbc_records.specs.Records.{MuxRow, is_intel}
use Rattle.dbc_records.specs.Records.{IsMuxRow, signal_fits, head_fits}
use Rattle.dbc_records.specs.Comments.{Comment}
use Rattle.dbc_records.specs.Attributes.{AttrRow, IsAttrRow}
use Rattle.dbc_records.specs.Databases.{Database, IsDatabase}
use Rattle.can_bits.specs.Bits.{position_of, mirrored, field_of}
use Rattle.can_bits.specs.declared.field.Field.{Field}
use Rattle.can_entries.specs.Rows.{SignalRows, rows_of, first_values, entries_of}
use Rattle.can_entries.specs.Groups.{group_of, group_number_of, is_group_number, is_bad_number, is_extended, format_of}
use Rattle.can_entries.specs.Links.{Link, IsLink}
use Rattle.can_entries.specs.Switches.{mux_parents_of}
use Rattle.can_entries.specs.declared.mux_parent.MuxParent.{MuxParent}
use Rattle.can_layout.specs.Plans.{plan_of, plan_in, row_of}
use Rattle.can_layout.specs.Diagrams.{cause_word, name_of}
use Rattle.can_layout.specs.declared.row.Row.{Row}
use Rattle.can_layout.specs.declared.row.Reading.{Reading}
use Rattle.can_layout.specs.declared.row.Reading.TheVariants.{Refused, Read}
use Rattle.can_json_dump.specs.Subjects.{Subject, is_for, comment_of, attributes_of}
use Rattle.can_json_dump.specs.Messages.{comment_members, attributes_json, remark_members, position_upward, positions_of}
use Rattle.can_json_dump.specs.Messages.{order_word}
use Rattle.can_json_dump.specs.Messages.{refused_json, link_json, chain_json, bit_field_members, scale_members, use_members}
use Rattle.can_json_dump.specs.Messages.{plan_members}
use Rattle.can_json_dump.specs.Messages.{given_members, stated_members, signal_members, signal_member, paired}
use Rattle.can_json_dump.specs.Messages.{identifier_members, head_members, group_json, message_members, message_json}
use Rattle.can_json_laws.specs.DatabaseLaws.{MessagesParseBack}
use Rattle.can_json_laws.proofs.Written.{Reads, MembersRead, ValuesRead, deeper, string_reads, null_reads, boolean_reads}
use Rattle.can_json_laws.proofs.Written.{whole_reads}
use Rattle.can_json_laws.proofs.Written.{or_null_reads, both_read, object_reads, array_reads, list_reads, passed_list_reads}
use Rattle.can_json_laws.proofs.Written.{texts_read}
use Rattle.can_json_laws.proofs.Written.{first_of, rest_of}
use Rattle.can_json_laws.proofs.Records.{decimal_reads, number_small, entries_read, own_attribute_reads, ranges_read, tag_reads}
use Rattle.can_json_laws.proofs.Chains.{AreBounded, chains_bounded, found_is, kept_are}

-- ---- comments and attributes

comment_read : (levels : ℕ) (comment : Option Comment) → MembersRead levels (comment_members comment)
comment_read levels None = (null_reads levels, tt)
comment_read levels (Some comment) = texts_read levels (codes "comment") comment.text

pub remarks_read : (database : Database) (subject : Subject) → IsDatabase database → MembersRead 2 (remark_members database subject)
remarks_read database subject is =
    both_read 2 (comment_members (comment_of database subject))
    ((codes "attributes", attributes_json (attributes_of database subject)) ∷ [])
    (comment_read 2 (comment_of database subject)) (
      passed_list_reads IsAttrRow own_attribute_json 1 (λ row. is_for subject row.target) own_attribute_reads
          database.attributes is.attributes,
      tt,
    )

-- ---- where the bits are

mirrored_small : (position bound : ℕ) → position < bound → mirrored position < bound + 8
mirrored_small position bound below = omega (arith, below)

position_small : (intel : Bool) (start index : ℕ) → start < 2 ^ 16 → index < 2 ^ 16
    → (if intel then start + index else mirrored (mirrored start + index)) < 10 ^ 64
position_small true start index low near = omega (arith, low, near)
position_small false start index low near =
    let first = mirrored_small start (2 ^ 16) low in
    omega (arith, mirrored_small (mirrored start + index) (2 ^ 16 + 8 + 2 ^ 16) (omega (arith, first, near)))

upward_small : (intel : Bool) (length k : ℕ) → length < 2 ^ 16 → k < 2 ^ 16 → (if intel then k else length - 1 - k) < 2 ^ 16
upward_small true length k few near = near
upward_small false length k few near = omega (arith, few)

positions_read : (field : Field) → field.start < 2 ^ 16 → field.length < 2 ^ 16 → (from count : ℕ) → from + count ≤ field.length
    → ValuesRead 0 (map whole_json (map (position_upward field) (range_with_len from count)))
positions_read field low few from zero within = tt
positions_read field low few from (suc count) within = (
  whole_reads 0 (position_upward field from)
      (position_small (is_intel field.order) field.start (if is_intel field.order then from else field.length - 1 - from) low
      (upward_small (is_intel field.order) field.length from few (omega (arith, within, few)))),
  positions_read field low few (from + 1) count (omega (arith, within)),
)

-- ---- signals

names_read : (levels : ℕ) (names : List (List ℕ)) → ValuesRead levels (map name_json names)
names_read levels [] = tt
names_read levels (name ∷ names) = (string_reads levels name, names_read levels names)

length_small : (length : ℕ) → IsTrue (signal_fits length) → length < 2 ^ 16
length_small length fits = omega (arith, leb-true length 14280 (and_parts (nat_le 1 length) (nat_le length 14280) fits).1)

refused_reads : (levels : ℕ) (reading : Reading) → Reads levels (refused_json reading)
refused_reads levels (Refused cause) = string_reads levels (cause_word cause)
refused_reads levels (Read decoder) = null_reads levels

link_reads : (signals : List Signal) (link : Link) → IsLink link → Reads 3 (link_json signals link)
link_reads signals link is =
    let name : Json = name_json (name_of (slice_get signals link.switch)) in
    let members : List Member = (codes "switch", name) ∷ (codes "ranges", ranges_json link.ranges) ∷ [] in
    object_reads 2 members (string_reads 2 (name_of (slice_get signals link.switch)), (ranges_read link.ranges is.ranges, tt))

links_read : (signals : List Signal) (links : List Link) → AllByRecursion IsLink links
    → ValuesRead 3 (map (link_json signals) links)
links_read signals [] are = tt
links_read signals (link ∷ links) are = (link_reads signals link are.0, links_read signals links are.1)

chain_reads : (signals : List Signal) (chain : Option (List Link)) → AreBounded chain → Reads 4 (chain_json signals chain)
chain_reads signals None is = null_reads 4
chain_reads signals (Some links) is = array_reads 3 (map (link_json signals) links) (links_read signals links is)

stated_read : (signal : Signal) → IsSignal signal → MembersRead 4 (stated_members signal)
stated_read signal is =
    let start = whole_reads 4 signal.start (omega (arith, is.start)) in
    let length = whole_reads 4 signal.length (omega (arith, length_small signal.length is.fits)) in
    both_read 4 (bit_field_members signal) (scale_members signal ++ use_members signal)
    (start, (length, (string_reads 4 (order_word signal.intel), (boolean_reads 4 signal.signed, tt))))
    (both_read 4 (scale_members signal) (use_members signal) (
      decimal_reads 4 signal.factor is.factor,
      (
        decimal_reads 4 signal.offset is.offset,
        (decimal_reads 4 signal.minimum is.minimum, (decimal_reads 4 signal.maximum is.maximum, tt)),
      ),
    )
    (both_read 4 (text_members (codes "unit") signal.unit)
    ((codes "receivers", names_json signal.receivers) ∷ (codes "tag", tag_json signal.tag) ∷ [])
    (texts_read 4 (codes "unit") signal.unit) (
      deeper 1 4 (names_json signal.receivers) (omega arith) (array_reads 0 (map name_json signal.receivers)
          (names_read 0 signal.receivers)),
      (tag_reads 4 signal.tag, tt),
    )))

entries_in : (database : Database) (number : ℕ) (name : List ℕ) (row : Option ValueRow) → IfSome row IsValueRow
    → Reads 2 (entries_json (entries_of row))
entries_in database number name None is = entries_read [] (λ k d within. absurd (omega (arith, within)))
entries_in database number name (Some row) is = entries_read row.entries is.entries

members_deeper : (levels more : ℕ) (members : List Member) → levels ≤ more → MembersRead levels members → MembersRead more members
members_deeper levels more [] below read = tt
members_deeper levels more (one ∷ members) below read =
    (deeper levels more one.1 below read.0, members_deeper levels more members below read.1)

given_read : (database : Database) (number : ℕ) (name : List ℕ) → IsDatabase database
    → MembersRead 4 (given_members database number name)
unfolding rows_of
given_read database number name is = (
  deeper 2 4 (entries_json (entries_of (first_values name (rows_of number database)))) (omega arith)
      (entries_in database number name (first_values name (rows_of number database))
      (found_is IsValueRow (λ row. bytes_eq row.signal name) (rows_of number database).values
      (kept_are IsValueRow (λ row. row.number == number) database.values is.values))),
  members_deeper 2 4 (remark_members database (record { number = number; signal = Some name })) (omega arith)
      (remarks_read database (record { number = number; signal = Some name }) is),
)

module _ (database : Database) (message : Message) (is : IsDatabase database) (valid : IsMessage message) where
  abbrev rows : SignalRows
  rows = rows_of message.head.number database

  abbrev row_at : ℕ → Signal → Row
  row_at index signal = row_of rows (mux_parents_of rows message.signals) message.head.size index signal

  muxes_valid : All IsMuxRow rows.muxes
  unfolding rows_of
  muxes_valid = kept_are IsMuxRow (λ row. row.number == message.head.number) database.muxes is.muxes

  plan_read : (index : ℕ) (signal : Signal) → IsSignal signal → MembersRead 4 (plan_members message.signals (row_at index signal))
  plan_read index signal of =
      let field = field_of signal in
      let positions = positions_read field of.start (length_small signal.length of.fits) 0 signal.length (omega arith) in
      let list = array_reads 0 (map whole_json (positions_of field)) positions in
      let row = row_at index signal in
      let chain = chain_reads message.signals row.chain (chains_bounded rows message.signals index muxes_valid valid.signals) in
      (deeper 1 4 (array_of (map whole_json (positions_of field))) (omega arith) list, (refused_reads 4 row.reading, (chain, tt)))

  signal_read : (index : ℕ) (signal : Signal) → IsSignal signal
      → Reads 5 (object_of (signal_members database message signal (row_at index signal)))
  signal_read index signal of =
      object_reads 4 (signal_members database message signal (row_at index signal)) (both_read 4 (stated_members signal)
      (plan_members message.signals (row_at index signal) ++ given_members database message.head.number signal.name)
      (stated_read signal of)
      (both_read 4 (plan_members message.signals (row_at index signal)) (given_members database message.head.number signal.name)
      (plan_read index signal of) (given_read database message.head.number signal.name is)))

  signals_from : (from : ℕ) (signals : List Signal) → All IsSignal signals
      → MembersRead 5 (paired (signal_member database message) signals
      (map (λ placed. row_at placed.0 placed.1) (enumerate_from from signals)))
  signals_from from [] are = tt
  signals_from from (signal ∷ signals) are = (
    signal_read from signal (first_of IsSignal signal signals are),
    signals_from (from + 1) signals (rest_of IsSignal signal signals are),
  )

  signals_read : Reads 6 (object_of (paired (signal_member database message) message.signals (plan_of database message).rows))
  unfolding plan_in
  signals_read =
      let members : List Member = paired (signal_member database message) message.signals (plan_of database message).rows in
      object_reads 5 members (signals_from 0 message.signals valid.signals)

  -- ---- the message

  identifier_by : (test : Bool) (number : ℕ) → number < 2 ^ 32
      → MembersRead 6 (if test then (codes "id", null) ∷ (codes "extended", null) ∷ []
      else (codes "id", whole_json (number % 2 ^ 31)) ∷ (codes "extended", boolean (is_extended number)) ∷ [])
  identifier_by true number low = (null_reads 6, (null_reads 6, tt))
  identifier_by false number low = (whole_reads 6 (number % 2 ^ 31) (omega arith), (boolean_reads 6 (is_extended number), tt))

  head_read : MembersRead 6 (head_members message.head)
  head_read =
      let of = valid.head in (
        string_reads 6 message.head.name,
        (
          whole_reads 6 message.head.number (number_small message.head.number of.number),
          both_read 6 (identifier_members message.head.number)
              ((codes "size", whole_json message.head.size) ∷ (codes "sender", name_json message.head.sender) ∷ [])
              (identifier_by (is_bad_number message.head.number) message.head.number of.number) (
                whole_reads 6 message.head.size (omega (arith, leb-true message.head.size 1785 of.size)),
                (string_reads 6 message.head.sender, tt),
              ),
        ),
      )

  specific_small : (identifier : ℕ) (test : Bool)
      → identifier / 2 ^ 25 % 2 * 2 ^ 17 + identifier / 2 ^ 24 % 2 * 2 ^ 16 + identifier / 2 ^ 16 % 256 * 2 ^ 8
      + (if test then identifier / 2 ^ 8 % 256 else 0) < 10 ^ 64
  specific_small identifier true = omega arith
  specific_small identifier false = omega arith

  group_small : (identifier : ℕ) → group_number_of identifier < 10 ^ 64
  unfolding group_number_of
  group_small identifier = specific_small identifier (nat_le 240 (format_of identifier))

  group_reads : Reads 6 (group_json (group_of message.head.number database))
  unfolding group_of
  group_reads = by (is_group_number message.head.number database)
    where
      by : (test : Bool) → Reads 6 (group_json (if test then Some (group_number_of message.head.number) else None))
      by true = whole_reads 6 (group_number_of message.head.number) (group_small message.head.number)
      by false = null_reads 6

  pub message_reads : Reads 7 (message_json database message)
  message_reads =
      let subject : Subject = record { number = message.head.number; signal = None } in
      let given = remark_members database subject in
      let remarks = members_deeper 2 6 given (omega arith) (remarks_read database subject is) in
      let all : List Member = paired (signal_member database message) message.signals (plan_of database message).rows in
      let signals : List Member = (codes "signals", object_of all) ∷ [] in
      let rest = both_read 6 given signals remarks (signals_read, tt) in
      object_reads 6 (message_members database message)
      (both_read 6 (head_members message.head)
      ((codes "pgn", group_json (group_of message.head.number database)) ∷ (given ++ signals)) head_read (group_reads, rest))

pub messages_parse_back : MessagesParseBack
messages_parse_back database message is valid =
    let reads = message_reads database message is valid in
    document-print (message_json database message) reads.0 (omega (arith, reads.1))
