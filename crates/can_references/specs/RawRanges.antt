-- Value descriptions that a signal never has.
-- Source: the DBC file format, "Signal Definitions", "Signal Value Descriptions (Value Encodings)".
use Rattle.std.specs.Prelude.{ℕ, ℤ, pos, negsuc, ◌-◌, ◌^◌, ◌&&◌, nat_lt, Bool, true, not, List, [], ◌∷◌, Option, Some, None}
use Rattle.std.specs.Prelude.{length, slice_get, if◌then◌else◌}
use Rattle.std.specs.List.{flat_map}
use Rattle.dbc_records.specs.Records.{Signal, Entry}

-- a raw value of this many bits: with a sign from -2^(bits - 1) to 2^(bits - 1) - 1, and otherwise from 0 to 2^bits - 1
abbrev pub in_raw_range : Bool → ℕ → ℤ → Bool
in_raw_range signed bits (pos n) = nat_lt n (2 ^ (if signed then bits - 1 else bits))
in_raw_range signed bits (negsuc n) = signed && nat_lt n (2 ^ (bits - 1))

-- a value description that the signal never has
abbrev pub is_out_of_range : Signal → Entry → Bool
is_out_of_range signal entry = not (in_raw_range signal.signed signal.length entry.number)

-- the raw value of a value description that the signal never has
abbrev pub number_out_of_range : Signal → Entry → List ℤ
number_out_of_range signal entry = if is_out_of_range signal entry then entry.number ∷ [] else []

-- the raw values of those that the signal never has, in order
abbrev pub numbers_out_of_range : Signal → List Entry → List ℤ
numbers_out_of_range signal entries = flat_map (number_out_of_range signal) entries

-- the signal can have the value description, if there is one
abbrev pub has_at : Signal → Option Entry → Bool
has_at signal None = true
has_at signal (Some entry) = not (is_out_of_range signal entry)

-- the signal can have the first and the last of the value descriptions
abbrev pub has_both_ends : Signal → List Entry → Bool
has_both_ends signal entries = has_at signal (slice_get entries 0) && has_at signal (slice_get entries (length entries - 1))
