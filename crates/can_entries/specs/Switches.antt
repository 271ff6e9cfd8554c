-- The multiplexing parent of a signal. Source: the DBC file format, "Signal Definitions" (multiplexer indicator) and "Extended
-- Multiplexing". That an entry counts before the multiplexer indicator is the profile of candesk.
use Rattle.std.specs.Prelude.{◌==◌, ℕ, Bool, true, false, List, [], ◌∷◌, length, Option, Some, None, map, position, count_by}
use Rattle.std.specs.Prelude.{if◌then◌else◌}
use Rattle.std.specs.List.{range_with_len}
use Rattle.std.specs.Str.{bytes_eq}
use Rattle.dbc_records.specs.Records.{Signal, MuxRow}
use Rattle.dbc_records.specs.declared.tag.Tag.{Tag}
use Rattle.dbc_records.specs.declared.tag.Tag.TheVariants as tags
use Rattle.dbc_records.specs.declared.mux_row.Range.{Range}
use Rattle.can_entries.specs.Rows.{SignalRows, first_mux}
use Rattle.can_entries.specs.Walks.{walk_of}
use Rattle.can_entries.specs.declared.mux_parent.MuxParent.{MuxParent}
use Rattle.can_entries.specs.declared.walk.Walk.{Walk}
use Rattle.can_entries.specs.declared.mux_parent.MuxParent.TheVariants.{Nothing, Missing, Switch}

-- the index of the signal of a name
abbrev pub index_named : List ℕ → List Signal → Option ℕ
index_named name signals = position (λ signal. bytes_eq signal.name name) signals

-- the multiplexer indicator `M`
abbrev pub is_switch : Tag → Bool
is_switch tags.Plain = false
is_switch tags.Switch = true
is_switch (tags.Muxed n) = false
is_switch (tags.Both n) = false

-- the index of the signal with multiplexer indicator `M`, if there is exactly one
unfoldable pub only_switch : List Signal → Option ℕ
only_switch signals = if count_by (λ signal. is_switch signal.tag) signals == 1 then position (λ signal. is_switch signal.tag)
    signals else None

-- the range from a number to itself
abbrev pub just : ℕ → List Range
just n = record { first = n; last = n } ∷ []

abbrev pub under : Option ℕ → List Range → MuxParent
under None ranges = Missing
under (Some switch) ranges = Switch (record { switch = switch; ranges = ranges })

-- by the multiplexer indicator: `m<n>` and `m<n>M` are under the only multiplexor (switch)
abbrev pub by_tag : Option ℕ → Tag → MuxParent
by_tag only tags.Plain = Nothing
by_tag only tags.Switch = Nothing
by_tag only (tags.Muxed n) = under only (just n)
by_tag only (tags.Both n) = under only (just n)

-- by the entry, whatever the multiplexer indicator
abbrev pub by_row : List Signal → Tag → Option MuxRow → MuxParent
by_row signals tag None = by_tag (only_switch signals) tag
by_row signals tag (Some row) = under (index_named row.switch signals) row.ranges

unfoldable pub mux_parent_of : SignalRows → List Signal → Signal → MuxParent
mux_parent_of rows signals signal = by_row signals signal.tag (first_mux signal.name rows)

-- the multiplexing parents of a message's signals
abbrev pub mux_parents_of : SignalRows → List Signal → List MuxParent
mux_parents_of rows signals = map (mux_parent_of rows signals) signals

-- the multiplexing chains from each signal of a message
abbrev pub walks_of : SignalRows → List Signal → List Walk
walks_of rows signals = map (walk_of (mux_parents_of rows signals)) (range_with_len 0 (length signals))
