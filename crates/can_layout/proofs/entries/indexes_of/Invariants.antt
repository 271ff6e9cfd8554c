use Rattle.std.proofs.Common.{take}
use Rattle.std.specs.Prelude.{ℤ}
use Rattle.std.specs.BTreeMap.{get}
use Rattle.std.specs.Ordering.{int_cmp}
use Rattle.can_layout.specs.Decoders.{IsIndexOf}
use Rattle.can_layout.proofs.entries.indexes_of.Given as goal

-- each raw value has the index of its first entry so far
abbrev pub invariant-loop-index : goal.invariant-loop-index
invariant-loop-index l = (raw : ℤ) → IsIndexOf l.entries (take l.index l.entries) raw (get int_cmp l.indexes raw)
