-- Sets of indexes as words of bits.
use Rattle.std.specs.Prelude.{ℕ, ◌/◌, ◌%◌, ◌==◌, Bool, List, slice_index}
use Rattle.std.specs.Int.{bit_at}

-- whether an index's bit is set, with 64 bits in a word
unfoldable pub has : List ℕ → ℕ → Bool
has words index = bit_at (slice_index words (index / 64)) (index % 64) == 1
