use Rattle.std.proofs.Common.{◌≡◌, length}
use Rattle.can_overlap.specs.inner.MuxPaths.{AreOwn}
use Rattle.can_overlap.proofs.mux_paths.MuxPaths.of.Given as goal

-- what is kept of the walks before this index
abbrev pub invariant-loop-index : goal.invariant-loop-index
invariant-loop-index l = (length l.own.items ≡ l.index) × AreOwn l.walks l.own.items
