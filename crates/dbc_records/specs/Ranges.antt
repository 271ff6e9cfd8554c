-- The raw values of a multiplexor (switch), as ranges. Source: the DBC file format, "Extended Multiplexing".
use Rattle.std.specs.Prelude.{ℕ, nat_le, nat_lt, Bool, ◌&&◌}
use Rattle.dbc_records.specs.declared.mux_row.Range.{Range}

-- both ends are in a range
abbrev pub in_range : ℕ → Range → Bool
in_range raw range = nat_le range.first raw && nat_le raw range.last

-- no number is in the range
abbrev pub is_empty_range : Range → Bool
is_empty_range range = nat_lt range.last range.first
