-- How many lines were decoded when a stream ended.
use Rattle.std.specs.Prelude.{ℕ, List, length, Result, Ok, Err}
use Rattle.can_layout.specs.Meters.{Meter, repeated, with_line}
use Rattle.can_line_stream.specs.declared.fault.StreamFault.{StreamFault}
use Rattle.can_line_stream.specs.declared.fault.StreamFault.TheVariants as faults

-- one if memory ran out for a line
abbrev pub refused_count : Result ℕ StreamFault → ℕ
refused_count (Ok count) = 0
refused_count (Err faults.LongLine) = 0
refused_count (Err faults.Read) = 0
refused_count (Err faults.Write) = 0
refused_count (Err faults.Memory) = 1

-- the meter after the lines whose texts were made, and the one for which memory ran out
abbrev pub counted : Result ℕ StreamFault → List (List ℕ) → Meter → Meter
counted result lines meter = repeated (refused_count result) with_line (repeated (length lines) with_line meter)
