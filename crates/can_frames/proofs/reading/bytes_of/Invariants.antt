use Rattle.std.proofs.Common.{◌≡◌, ◌+◌, ◌*◌, length}
use Rattle.std.specs.Result.{result_ok}
use Rattle.hex.specs.Hex.{decode_of}
use Rattle.can_frames.proofs.Pieces.{so_far}
use Rattle.can_frames.proofs.reading.bytes_of.Given as goal

-- the bytes that were read, and the digits that are left, spell what all do
abbrev pub invariant-sixteens : goal.invariant-sixteens
invariant-sixteens l = record {
  count : 2 * length l.bytes.items + length l.rest ≡ length l.digits;
  same : so_far l.bytes.items l.rest ≡ result_ok (decode_of l.digits);
}

abbrev pub decreases-sixteens : goal.decreases-sixteens
decreases-sixteens l = length l.rest
