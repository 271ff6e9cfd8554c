use Rattle.std.proofs.Common.{◌≡◌, ◌≤◌, ◌+◌, ◌*◌, length}
use Rattle.can_frames.proofs.Pieces.{so_far}
use Rattle.can_frames.proofs.reading.push_pairs.Given as goal

-- the bytes that were read, and the digits that are left, spell what all do
abbrev pub invariant-pairs : goal.invariant-pairs
invariant-pairs l = record {
  space : 2 * length l.bytes.items + length l.rest ≤ 128;
  same : so_far l.bytes.items l.rest ≡ so_far l.initial.bytes.items l.digits;
}

abbrev pub decreases-pairs : goal.decreases-pairs
decreases-pairs l = length l.rest
