-- What an edit does to a database: the refusal of the least number whose condition holds, otherwise the changed database. Source:
-- what a message, a signal and their entries are is the DBC file format; the edits are those of candesk.
use Rattle.std.specs.Prelude.{ℕ, Bool, not, ◌&&◌, ◌||◌, ◌==◌, nat_le, nat_lt, List, [], map, length, Option, Some, None, Result, Ok}
use Rattle.std.specs.Prelude.{Err, insert, remove, slice_get, slice_set, if◌then◌else◌}
use Rattle.std.specs.List.{list_any}
use Rattle.std.specs.Str.{bytes_eq}
use Rattle.dbc_records.specs.Records.{Head, Signal, Message, ValueRow, MuxRow, TableRow, most_signals}
use Rattle.dbc_records.specs.Databases.{Database, most_messages}
use Rattle.dbc_records.specs.declared.attribute.AttrValue.{AttrValue}
use Rattle.dbc_records.specs.declared.target.Target.TheVariants as targets
use Rattle.dbc_edits.specs.declared.edit.Edit.{Edit}
use Rattle.dbc_edits.specs.declared.edit.Edit.TheVariants as edits
use Rattle.dbc_edits.specs.declared.refusal.Refusal.{Refusal}
use Rattle.dbc_edits.specs.declared.refusal.Refusal.TheVariants as refusals
use Rattle.dbc_edits.specs.Changes.{Change, changed}
use Rattle.dbc_edits.specs.Rows.{without, with_item, is_of_number, is_of_signal, without_rows, has_row, rows_renumbered}
use Rattle.dbc_edits.specs.Rows.{rows_renamed, has_row_naming, is_values_of, is_mux_of, is_table_of, is_attribute_of}

-- ---- refusals

-- what is done with the message at the index, if there is one
unfoldable pub at_message : Option Message → (Message → Result Database Refusal) → Result Database Refusal
at_message None change = Err refusals.NoMessage
at_message (Some message) change = change message

-- refused if the test holds
unfoldable pub refused_if : Bool → Refusal → Result Database Refusal → Result Database Refusal
refused_if test refusal otherwise = if test then Err refusal else otherwise

-- ---- messages

abbrev pub has_number : ℕ → List Message → Bool
has_number number messages = list_any (λ message. message.head.number == number) messages

unfoldable pub message_added : ℕ → Head → Database → Result Database Refusal
message_added index head database =
    refused_if (nat_lt (length database.messages) index) refusals.BadPlace
    (refused_if (nat_le most_messages (length database.messages)) refusals.MessagesFull
    (Ok (record database { messages = insert database.messages index (record { head = head; signals = [] }) })))

-- the entries of a CAN identifier are removed if no message has the CAN identifier
abbrev pub cleared_of_number : ℕ → Database → Database
cleared_of_number number database = if has_number number database.messages then database else without_rows (is_of_number number)
    database

unfoldable pub message_removed : ℕ → Database → Result Database Refusal
message_removed index database =
    at_message (slice_get database.messages index) (λ message.
    Ok (cleared_of_number message.head.number (record database { messages = remove database.messages index })))

-- the database with another message at the index
abbrev pub with_message : ℕ → Message → Database → Database
with_message index message database = record database { messages = slice_set database.messages index message }

unfoldable pub message_changed : ℕ → Change → Database → Result Database Refusal
message_changed index change database =
    at_message (slice_get database.messages index) (λ message.
    Ok (with_message index (record message { head = changed change message.head }) database))

unfoldable pub message_renumbered : ℕ → ℕ → Database → Result Database Refusal
message_renumbered index number database =
    at_message (slice_get database.messages index) (λ message.
    refused_if (has_number number database.messages || has_row (is_of_number number) database) refusals.IdTaken
    (refused_if (has_number message.head.number (remove database.messages index)) refusals.IdShared
    (Ok (rows_renumbered message.head.number number
    (with_message index (record message { head = record message.head { number = number } }) database)))))

-- ---- signals

abbrev pub is_named : List ℕ → Signal → Bool
is_named name signal = bytes_eq signal.name name

-- a signal of the name is among them
abbrev pub has_named : List ℕ → List Signal → Bool
has_named name signals = list_any (is_named name) signals

-- a message of the CAN identifier has a signal of the name
abbrev pub has_signal : ℕ → List ℕ → List Message → Bool
has_signal number name messages = list_any (λ message. message.head.number == number && has_named name message.signals) messages

unfoldable pub signal_added : ℕ → ℕ → Signal → Database → Result Database Refusal
signal_added index at signal database =
    at_message (slice_get database.messages index) (λ message.
    refused_if (nat_lt (length message.signals) at) refusals.BadPlace
    (refused_if (has_named signal.name message.signals) refusals.SignalExists
    (refused_if (nat_le most_signals (length message.signals)) refusals.SignalsFull
    (Ok (with_message index (record message { signals = insert message.signals at signal }) database)))))

-- the entries of a signal are removed if no message of the CAN identifier has a signal of the name
abbrev pub cleared_of_signal : ℕ → List ℕ → Database → Database
cleared_of_signal number name database =
    if has_signal number name database.messages then database else without_rows (is_of_signal number name) database

unfoldable pub signal_removed : ℕ → List ℕ → Database → Result Database Refusal
signal_removed index name database =
    at_message (slice_get database.messages index) (λ message.
    refused_if (not (has_named name message.signals)) refusals.NoSignal
    (Ok (cleared_of_signal message.head.number name
    (with_message index (record message { signals = without (is_named name) message.signals }) database))))

-- this signal replaces the signal of the same name
abbrev pub replaced_by : Signal → Signal → Signal
replaced_by signal old = if is_named signal.name old then signal else old

unfoldable pub signal_changed : ℕ → Signal → Database → Result Database Refusal
signal_changed index signal database =
    at_message (slice_get database.messages index) (λ message.
    refused_if (not (has_named signal.name message.signals)) refusals.NoSignal
    (Ok (with_message index (record message { signals = map (replaced_by signal) message.signals }) database)))

abbrev pub with_name : List ℕ → List ℕ → Signal → Signal
with_name old new signal = if is_named old signal then record signal { name = new } else signal

-- a message of the CAN identifier has a signal of one of the two names
abbrev pub has_either : ℕ → List ℕ → List ℕ → List Message → Bool
has_either number old new messages = has_signal number old messages || has_signal number new messages

-- the signal and all entries that name it take the new name
abbrev pub named_anew : ℕ → Message → List ℕ → List ℕ → Database → Database
named_anew index message old new database =
    rows_renamed (record { number = message.head.number; old = old; new = new })
    (with_message index (record message { signals = map (with_name old new) message.signals }) database)

unfoldable pub signal_renamed : ℕ → List ℕ → List ℕ → Database → Result Database Refusal
signal_renamed index old new database =
    at_message (slice_get database.messages index) (λ message.
    refused_if (not (has_named old message.signals)) refusals.NoSignal
    (refused_if (has_named new message.signals) refusals.SignalExists
    (refused_if (has_row_naming message.head.number new database) refusals.NameTaken
    (refused_if (has_either message.head.number old new (remove database.messages index)) refusals.NameShared
    (Ok (named_anew index message old new database))))))

-- ---- entries of signals

-- what is done if a message of the CAN identifier has the signal
abbrev pub for_signal : ℕ → List ℕ → Database → Result Database Refusal → Result Database Refusal
for_signal number name database change =
    refused_if (not (has_number number database.messages)) refusals.NoMessage
    (refused_if (not (has_signal number name database.messages)) refusals.NoSignal change)

unfoldable pub mux_set : MuxRow → Database → Result Database Refusal
mux_set row database =
    for_signal row.number row.signal database
    (Ok (record database { muxes = with_item (is_mux_of row.number row.signal) row database.muxes }))

unfoldable pub values_set : ValueRow → Database → Result Database Refusal
values_set row database =
    for_signal row.number row.signal database
    (Ok (record database { values = with_item (is_values_of row.number row.signal) row database.values }))

unfoldable pub mux_dropped : ℕ → List ℕ → Database → Result Database Refusal
mux_dropped number name database =
    refused_if (not (list_any (is_mux_of number name) database.muxes)) refusals.NoRow
    (Ok (record database { muxes = without (is_mux_of number name) database.muxes }))

unfoldable pub values_dropped : ℕ → List ℕ → Database → Result Database Refusal
values_dropped number name database =
    refused_if (not (list_any (is_values_of number name) database.values)) refusals.NoRow
    (Ok (record database { values = without (is_values_of number name) database.values }))

-- ---- value tables

unfoldable pub table_set : TableRow → Database → Result Database Refusal
table_set row database = Ok (record database { tables = with_item (is_table_of row.name) row database.tables })

unfoldable pub table_dropped : List ℕ → Database → Result Database Refusal
table_dropped name database =
    refused_if (not (list_any (is_table_of name) database.tables)) refusals.NoRow
    (Ok (record database { tables = without (is_table_of name) database.tables }))

-- ---- attributes of messages

unfoldable pub attribute_set : List ℕ → ℕ → AttrValue → Database → Result Database Refusal
attribute_set name number value database =
    refused_if (not (has_number number database.messages)) refusals.NoMessage
    (refused_if (not (list_any (λ definition. bytes_eq definition.name name) database.definitions)) refusals.NoDefinition
    (Ok (record database {
      attributes = with_item (is_attribute_of name number) (record {
        name = name;
        target = targets.Message number;
        value = value;
      }) database.attributes;
    })))

unfoldable pub attribute_dropped : List ℕ → ℕ → Database → Result Database Refusal
attribute_dropped name number database =
    refused_if (not (list_any (is_attribute_of name number) database.attributes)) refusals.NoRow
    (Ok (record database { attributes = without (is_attribute_of name number) database.attributes }))

-- ---- all edits

abbrev pub edited : Database → Edit → Result Database Refusal
edited database (edits.AddMessage index head) = message_added index head database
edited database (edits.RemoveMessage index) = message_removed index database
edited database (edits.ChangeMessage index change) = message_changed index change database
edited database (edits.Renumber index number) = message_renumbered index number database
edited database (edits.AddSignal index at signal) = signal_added index at signal database
edited database (edits.RemoveSignal index name) = signal_removed index name database
edited database (edits.ChangeSignal index signal) = signal_changed index signal database
edited database (edits.RenameSignal index old new) = signal_renamed index old new database
edited database (edits.SetMux row) = mux_set row database
edited database (edits.SetValues row) = values_set row database
edited database (edits.DropMux number signal) = mux_dropped number signal database
edited database (edits.DropValues number signal) = values_dropped number signal database
edited database (edits.DropTable name) = table_dropped name database
edited database (edits.SetTable row) = table_set row database
edited database (edits.SetAttribute name number value) = attribute_set name number value database
edited database (edits.DropAttribute name number) = attribute_dropped name number database
