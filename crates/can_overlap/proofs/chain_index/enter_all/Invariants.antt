use Rattle.std.proofs.Common.{◌≡◌, Some, take, drop}
use Rattle.std.specs.Prelude.{slice_get}
use Rattle.can_entries.specs.declared.walk.Walk.TheVariants.{Chain}
use Rattle.can_overlap.specs.inner.MuxPaths.{AreEntered}
use Rattle.can_overlap.proofs.chain_index.enter_all.Given as goal

-- the links passed are entered, and the others are the walk at the owner
abbrev pub invariant-loop-passed : goal.invariant-loop-passed
invariant-loop-passed l = (slice_get l.paths.walks l.owner ≡ Some (Chain (drop l._passed l.links)))
    × AreEntered l.paths.own l.owners (take l._passed l.links)
