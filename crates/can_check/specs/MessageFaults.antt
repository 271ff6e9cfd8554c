-- The diagnostics of a message and its signals, by ascending code; within a code the message itself, then its signals in order.
-- Source: the DBC file format, "Message Definitions", "Signal Definitions". What is reported is the profile of candesk.
use Rattle.std.specs.Prelude.{ℤ, Bool, false, List, [], ◌∷◌, ◌++◌, Option, Some, None, map, slice_get, if◌then◌else◌}
use Rattle.std.specs.List.{flat_map, enumerate_from}
use Rattle.std.specs.Ordering.{int_eq}
use Rattle.dbc_records.specs.Records.{Head, Signal, Message, Entry}
use Rattle.dbc_records.specs.Databases.{Database}
use Rattle.can_bits.specs.Bits.{field_of}
use Rattle.can_entries.specs.Rows.{SignalRows, rows_of, first_values, first_mux}
use Rattle.can_entries.specs.Rows.{entries_of}
use Rattle.can_entries.specs.Switches.{walks_of}
use Rattle.can_entries.specs.declared.walk.Walk.{Walk}
use Rattle.can_overlap.specs.Overlaps.{overlapping}
use Rattle.can_overlap.specs.declared.pair.Pair.{Pair}
use Rattle.can_diagnostics.specs.Diagnostics.{of_signal, of_pair, of_value}
use Rattle.can_diagnostics.specs.declared.code.Code.{Code}
use Rattle.can_diagnostics.specs.declared.code.Code.TheVariants as codes
use Rattle.can_diagnostics.specs.declared.diagnostic.Diagnostic.{Diagnostic}
use Rattle.can_references.specs.Finding.{where_true, occurs_in, each_after}
use Rattle.can_references.specs.HeadFaults.{is_pseudo, head_faults, unknown_nodes}
use Rattle.can_references.specs.RawRanges.{is_out_of_range}
use Rattle.can_check.specs.SignalRules.{has_no_switch, is_loop, is_bad_row, signal_outside, is_float, is_long, has_no_scale}

-- ---- its signals

-- the signals that pass a test
abbrev pub signals_where : Code → Head → (Signal → Bool) → List Signal → List Diagnostic
signals_where code head test signals = flat_map (λ signal. where_true (test signal) (of_signal code head signal)) signals

abbrev pub walk_passes : (Walk → Bool) → Option Walk → Bool
walk_passes test None = false
walk_passes test (Some walk) = test walk

-- the signals whose multiplexing chains, which are at their indices, pass a test
abbrev pub walks_where : Code → Head → (Walk → Bool) → List Signal → List Walk → List Diagnostic
walks_where code head test signals walks =
    flat_map (λ placed. where_true (walk_passes test (slice_get walks placed.0)) (of_signal code head placed.1))
    (enumerate_from 0 signals)

-- a bit of a signal is not in the message
unfoldable pub outside : Message → List Diagnostic
outside m = if is_pseudo m.head then [] else signals_where codes.Outside m.head (signal_outside m.head.size) m.signals

abbrev pub pair_between : Head → Option Signal → Option Signal → List Diagnostic
pair_between head (Some first) (Some second) = of_pair codes.Overlap head first second ∷ []
pair_between head (Some first) None = []
pair_between head None second = []

abbrev pub pair_at : Message → Pair → List Diagnostic
pair_at m pair = pair_between m.head (slice_get m.signals pair.first) (slice_get m.signals pair.second)

-- two signals share a bit and can be active at once
unfoldable pub overlaps : Message → List Walk → List Diagnostic
overlaps m walks = if is_pseudo m.head then [] else flat_map (pair_at m) (overlapping (map field_of m.signals) walks)

-- a multiplexed signal has no multiplexor
unfoldable pub no_switch : Message → List Walk → List Diagnostic
no_switch m walks = walks_where codes.NoSwitch m.head has_no_switch m.signals walks

-- the first entry of its multiplexing states something impossible
unfoldable pub bad_mux_row : SignalRows → Message → List Diagnostic
bad_mux_row rows m = signals_where codes.BadMuxRow m.head (λ signal. is_bad_row m.signals (first_mux signal.name rows)) m.signals

-- its multiplexors (switches) form a loop
unfoldable pub switch_loop : Message → List Walk → List Diagnostic
switch_loop m walks = walks_where codes.SwitchLoop m.head is_loop m.signals walks

unfoldable pub floats : SignalRows → Message → List Diagnostic
floats rows m = signals_where codes.Float m.head (is_float rows) m.signals

unfoldable pub long : Message → List Diagnostic
long m = signals_where codes.Long m.head is_long m.signals

unfoldable pub no_scale : Message → List Diagnostic
no_scale m = signals_where codes.Scale m.head has_no_scale m.signals

-- ---- value descriptions

-- the value descriptions of a signal, by its first entry
abbrev pub named : SignalRows → Signal → List Entry
named rows signal = entries_of (first_values signal.name rows)

abbrev pub out_of_range : Head → Signal → Entry → List Diagnostic
out_of_range head signal entry = where_true (is_out_of_range signal entry) (of_value codes.ValueOutOfRange head signal entry.number)

-- a value description that the signal never has
unfoldable pub values_out_of_range : SignalRows → Message → List Diagnostic
values_out_of_range rows m = flat_map (λ signal. flat_map (out_of_range m.head signal) (named rows signal)) m.signals

abbrev pub repeated_value : Head → Signal → List ℤ → ℤ → List Diagnostic
repeated_value head signal before number = where_true (occurs_in int_eq number before) (of_value codes.RepeatedValue head signal
    number)

abbrev pub repeated_among : Head → Signal → List Entry → List Diagnostic
repeated_among head signal entries = each_after (repeated_value head signal) [] (map (λ entry. entry.number) entries)

abbrev pub repeated_in : SignalRows → Head → Signal → List Diagnostic
repeated_in rows head signal = repeated_among head signal (named rows signal)

-- a value description that occurs earlier in its `VAL_` entry
unfoldable pub repeated_values : SignalRows → Message → List Diagnostic
repeated_values rows m = flat_map (repeated_in rows m.head) m.signals

-- ---- all of them

-- codes 1 to 5
unfoldable pub place_faults : Database → Message → List Diagnostic
place_faults database m = head_faults database m ++ outside m

-- codes 7 to 9
unfoldable pub switch_faults : SignalRows → Message → List Walk → List Diagnostic
switch_faults rows m walks = no_switch m walks ++ (bad_mux_row rows m ++ switch_loop m walks)

-- codes 10 to 12
unfoldable pub reading_faults : SignalRows → Message → List Diagnostic
reading_faults rows m = floats rows m ++ (long m ++ no_scale m)

-- codes 14 and 15
unfoldable pub value_faults : SignalRows → Message → List Diagnostic
value_faults rows m = values_out_of_range rows m ++ repeated_values rows m

-- codes 7 to 15
unfoldable pub other_faults : Database → SignalRows → Message → List Walk → List Diagnostic
other_faults database rows m walks =
    switch_faults rows m walks ++ (reading_faults rows m ++ (unknown_nodes database m ++ value_faults rows m))

abbrev pub faults_by : Database → SignalRows → Message → List Walk → List Diagnostic
faults_by database rows m walks = place_faults database m ++ (overlaps m walks ++ other_faults database rows m walks)

abbrev pub faults_with : Database → SignalRows → Message → List Diagnostic
faults_with database rows m = faults_by database rows m (walks_of rows m.signals)

unfoldable pub message_faults : Database → Message → List Diagnostic
message_faults database m = faults_with database (rows_of m.head.number database) m

-- ---- its own diagnostics: those of its signals, and of what they name

-- codes 5 to 15, by the multiplexing chains of its signals
abbrev pub own_by : Database → SignalRows → Message → List Walk → List Diagnostic
own_by database rows m walks = outside m ++ (overlaps m walks ++ other_faults database rows m walks)

abbrev pub own_with : Database → SignalRows → Message → List Diagnostic
own_with database rows m = own_by database rows m (walks_of rows m.signals)

-- codes 5 to 15: of the whole database these read only the message, the entries of its CAN identifier and the nodes
unfoldable pub own_faults : Database → Message → List Diagnostic
own_faults database m = own_with database (rows_of m.head.number database) m

-- codes 1 to 4, which compare its head with all others, and then its own
abbrev pub head_then_own : Database → Message → List Diagnostic
head_then_own database m = head_faults database m ++ own_faults database m
