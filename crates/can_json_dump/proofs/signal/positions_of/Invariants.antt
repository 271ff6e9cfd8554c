use Rattle.std.proofs.Common.{◌≡◌, map}
use Rattle.std.specs.List.{range_with_len}
use Rattle.can_json_dump.specs.Messages.{position_upward}
use Rattle.can_json_dump.proofs.signal.positions_of.Given as goal

-- the bits so far
abbrev pub invariant-loop-k : goal.invariant-loop-k
invariant-loop-k l = l.positions.items ≡ map (position_upward l.field) (range_with_len 0 l.k)
