use Rattle.std.proofs.Common.{take}
use Rattle.can_decode.specs.MessageIndexes.{AreChoices}
use Rattle.can_decode.proofs.message_index.MessageIndex.by.Given as goal

-- the first of the messages so far
abbrev pub invariant-loop-index : goal.invariant-loop-index
invariant-loop-index g l = AreChoices (g.L.Lookup.whole l.lookup) (take l.index l.messages) l.by_number.items l.by_group.items
