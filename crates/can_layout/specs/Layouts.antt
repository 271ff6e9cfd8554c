-- The layout of a message, from which both its plan and its diagram are made.
use Rattle.std.specs.Prelude.{◌≡◌, ℕ, List, map, Option, Some, None, Result, Ok, Err}
use Rattle.dbc_values.specs.Scales.{Scale}
use Rattle.dbc_records.specs.Records.{Signal, Message}
use Rattle.can_bits.specs.Bits.{field_of}
use Rattle.can_entries.specs.Rows.{SignalRows}
use Rattle.can_entries.specs.Walks.{walk_of}
use Rattle.can_entries.specs.Switches.{mux_parents_of}
use Rattle.can_entries.specs.declared.mux_parent.MuxParent.{MuxParent}
use Rattle.can_layout.specs.Plans.{cause_of, chain_of, reading_unless}
use Rattle.can_layout.specs.Diagrams.{legend_line}
use Rattle.can_layout.specs.declared.refusal.Cause.{Cause}
use Rattle.can_layout.specs.declared.row.Row.{Row}

-- a signal, and what keeps it from being decoded
pub record SignalLayout : Type 0 where
  pub signal : Signal
  pub cause : Option Cause

abbrev pub layout_of : SignalRows → ℕ → Signal → SignalLayout
layout_of rows size signal = record { signal = signal; cause = cause_of rows size signal }

-- a scale, or what keeps a signal from having one
abbrev pub cause_in : Result Scale Cause → Option Cause
cause_in (Ok scale) = None
cause_in (Err cause) = Some cause

-- a message with the entries of its CAN identifier
pub record Layout : Type 0 where
  pub rows : SignalRows
  pub message : Message

-- what is kept of a message's layout
abbrev pub IsLayout : Layout → List MuxParent → List SignalLayout → Type 0
IsLayout layout mux_parents signals = (mux_parents ≡ mux_parents_of layout.rows layout.message.signals)
    × (signals ≡ map (layout_of layout.rows layout.message.head.size) layout.message.signals)

-- the row of the signal at an index
abbrev pub row_by : SignalRows → List MuxParent → ℕ → SignalLayout → Row
row_by rows mux_parents index layout =
    record {
      name = layout.signal.name;
      field = field_of layout.signal;
      chain = chain_of (walk_of mux_parents index);
      reading = reading_unless layout.cause rows layout.signal;
    }

-- its line of the legend
abbrev pub legend_by : List Signal → List MuxParent → ℕ → SignalLayout → List ℕ
legend_by signals mux_parents index layout = legend_line signals index layout.signal layout.cause (walk_of mux_parents index)
