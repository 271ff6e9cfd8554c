-- The diagram of a message: its bits, byte by byte, and below them each signal with what keeps it from being decoded and
-- with the raw values of its multiplexors (switches). It reads only the message and the entries of its CAN identifier. The
-- form is candesk's own.
use Rattle.std.specs.Prelude.{ℕ, List, [], ◌∷◌, ◌++◌, Option, Some, None, map, slice_get, codes, decimal, if◌then◌else◌}
use Rattle.std.specs.List.{flat_map, enumerate_from}
use Rattle.dbc_records.specs.Records.{Head, Signal, Message}
use Rattle.dbc_records.specs.Databases.{Database}
use Rattle.dbc_records.specs.declared.mux_row.Range.{Range}
use Rattle.can_bits.specs.Bits.{field_of}
use Rattle.can_bits.specs.Grids.{right, grid_text}
use Rattle.can_entries.specs.Rows.{SignalRows, rows_of}
use Rattle.can_entries.specs.Links.{Link}
use Rattle.can_entries.specs.Walks.{walk_of}
use Rattle.can_entries.specs.Switches.{mux_parents_of}
use Rattle.can_layout.specs.Plans.{cause_of}
use Rattle.can_entries.specs.declared.mux_parent.MuxParent.{MuxParent}
use Rattle.can_layout.specs.declared.refusal.Cause.{Cause}
use Rattle.can_layout.specs.declared.refusal.Cause.TheVariants as causes
use Rattle.can_entries.specs.declared.walk.Walk.{Walk}
use Rattle.can_entries.specs.declared.walk.Walk.TheVariants as walks

-- `Message name number size`
unfoldable pub title_line : Head → List ℕ
title_line head =
    codes "Message " ++ (head.name ++ (codes " " ++ (decimal head.number ++ (codes " " ++ (decimal head.size ++ codes "\n")))))

-- `start|length@order` and the sign
unfoldable pub span_text : Signal → List ℕ
span_text signal =
    decimal signal.start
    ++ (codes "|"
    ++ (decimal signal.length ++ (codes "@" ++ ((if signal.intel then codes "1" else codes "0")
    ++ (if signal.signed then codes "-" else codes "+")))))

abbrev pub cause_word : Cause → List ℕ
cause_word causes.Outside = codes "outside"
cause_word causes.Float = codes "float"
cause_word causes.Long = codes "long"
cause_word causes.Scale = codes "scale"

-- ` ?outside`, or nothing
abbrev pub cause_text : Option Cause → List ℕ
cause_text None = []
cause_text (Some cause) = codes " ?" ++ cause_word cause

-- `a-b`
unfoldable pub range_text : Range → List ℕ
range_text range = decimal range.first ++ (codes "-" ++ decimal range.last)

unfoldable pub further_range : Range → List ℕ
further_range range = codes "," ++ range_text range

-- `a-b,c-d`
abbrev pub ranges_text : List Range → List ℕ
ranges_text [] = []
ranges_text (range ∷ ranges) = range_text range ++ flat_map further_range ranges

abbrev pub name_of : Option Signal → List ℕ
name_of None = []
name_of (Some signal) = signal.name

-- ` when switch a-b,c-d`
unfoldable pub link_text : List Signal → Link → List ℕ
link_text signals link = codes " when " ++ (name_of (slice_get signals link.switch) ++ (codes " " ++ ranges_text link.ranges))

-- the chain from the signal up, or ` never` if there is none
abbrev pub walk_text : List Signal → Walk → List ℕ
walk_text signals (walks.Chain links) = flat_map (link_text signals) links
walk_text signals (walks.Absent own) = codes " never"
walk_text signals walks.Loop = codes " never"

-- `   2 V 8|8@1+`
unfoldable pub signal_text : ℕ → Signal → List ℕ
signal_text index signal = right (decimal index) ++ (codes " " ++ (signal.name ++ (codes " " ++ span_text signal)))

-- `   2 V 8|8@1+ ?outside when N 3-3,5-6 when M 1-1`
unfoldable pub legend_line : List Signal → ℕ → Signal → Option Cause → Walk → List ℕ
legend_line signals index signal cause walk = signal_text index signal
    ++ (cause_text cause ++ (walk_text signals walk ++ codes "\n"))

-- a line for each signal, where `mux_parents` are the multiplexing parents of the signals
abbrev pub legend_text : SignalRows → List MuxParent → ℕ → List Signal → List ℕ
legend_text rows mux_parents size signals =
    flat_map (λ placed. legend_line signals placed.0 placed.1 (cause_of rows size placed.1) (walk_of mux_parents placed.0))
    (enumerate_from 0 signals)

-- the title, a line for each byte, and the legend
unfoldable pub picture_in : SignalRows → Message → List ℕ
picture_in rows message =
    title_line message.head
    ++ (grid_text message.head.size (map field_of message.signals)
    ++ legend_text rows (mux_parents_of rows message.signals) message.head.size message.signals)

abbrev pub picture_of : Database → Message → List ℕ
picture_of database message = picture_in (rows_of message.head.number database) message
