use Rattle.std.proofs.Common.{◌≡◌, map}
use Rattle.std.specs.List.{range_with_len}
use Rattle.can_entries.specs.Walks.{walk_of}
use Rattle.can_entries.proofs.walks.walks_below.Given as goal

-- the multiplexing chains from the signals so far
abbrev pub invariant-loop-index : goal.invariant-loop-index
invariant-loop-index l = l.walks.items ≡ map (walk_of l.mux_parents) (range_with_len 0 l.index)
