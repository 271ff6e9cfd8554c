use Rattle.std.proofs.Common.{◌≡◌, ℕ, ◌+◌, ◌-◌, ◌/◌, ◌%◌, ◌<◌, ◌≤◌, List, All, length}
use Rattle.std.specs.List.{sum_by}
use Rattle.can_bits.specs.Bits.{bits_from, unsigned_raw}
use Rattle.can_bits.specs.Steps.{part_of, passed_at, IsStep}
use Rattle.can_bits.proofs.steps.Steps.of.Given as goal

abbrev pub invariant-loop-index : goal.invariant-loop-index
invariant-loop-index l = record {
  within : l.index ≤ l.field.length;
  capacity : l.steps.capacity ≡ 9;
  count : l.index < l.field.length → length l.steps.items ≡ (passed_at l.field 0 % 8 + l.index) / 8;
  valid : All IsStep l.steps.items;
  same : (bytes : List ℕ) → sum_by (part_of bytes) l.steps.items ≡ unsigned_raw bytes (bits_from l.field 0 l.index);
}

abbrev pub decreases-loop-index : goal.decreases-loop-index
decreases-loop-index l = l.field.length - l.index
