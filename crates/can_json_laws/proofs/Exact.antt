-- The values of signals are reported exactly.
use Rattle.std.proofs.Common.{◌≡◌, ℕ, ◌+◌, List, [], ◌∷◌, map, Option, Some, None, All, refl}
use Rattle.std.specs.List.{enumerate_from}
use Rattle.std.proofs.lemmas.List.Elements.{All-nil, All-cons}
use Rattle.dbc_records.specs.Records.{Signal}
use Rattle.can_entries.specs.Rows.{SignalRows, rows_of}
use Rattle.can_entries.specs.Switches.{mux_parents_of}
use Rattle.can_entries.specs.declared.mux_parent.MuxParent.{MuxParent}
use Rattle.can_layout.specs.declared.refusal.Cause.{Cause}
use Rattle.can_layout.specs.declared.row.Row.{Row}
use Rattle.can_layout.specs.Plans.{plan_in, row_of, reading_unless, cause_of}
use Rattle.can_json_laws.specs.LineLaws.{IsExact, ValuesAreExact}
use Rattle.can_json_laws.proofs.Readings.{fits_of, value_exact}

exact_by : (bytes : List ℕ) (rows : SignalRows) (size : ℕ) (signal : Signal) (cause : Option Cause)
    → cause_of rows size signal ≡ cause → IsExact bytes (reading_unless cause rows signal)
exact_by bytes rows size signal (Some cause) is = tt
exact_by bytes rows size signal None is = value_exact bytes signal (fits_of rows size signal is)

abbrev RowExact : List ℕ → Row → Type 0
RowExact bytes row = IsExact bytes row.reading

rows_exact : (bytes : List ℕ) (rows : SignalRows) (mux_parents : List MuxParent) (size first : ℕ) (signals : List Signal)
    → All (RowExact bytes) (map (λ (placed : ℕ × Signal). row_of rows mux_parents size placed.0 placed.1) (enumerate_from first
    signals))
rows_exact bytes rows mux_parents size first [] = All-nil (RowExact bytes)
rows_exact bytes rows mux_parents size first (signal ∷ signals) =
    All-cons (RowExact bytes) (row_of rows mux_parents size first signal)
    (map (λ (placed : ℕ × Signal). row_of rows mux_parents size placed.0 placed.1) (enumerate_from (first + 1) signals))
    (exact_by bytes rows size signal (cause_of rows size signal) refl) (rows_exact bytes rows mux_parents size (first + 1) signals)

pub values_are_exact : ValuesAreExact
unfolding plan_in
values_are_exact database message bytes =
    let rows = rows_of message.head.number database in
    rows_exact bytes rows (mux_parents_of rows message.signals) message.head.size 0 message.signals
