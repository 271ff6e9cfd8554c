use Rattle.std.proofs.Common.{◌≡◌, take}
use Rattle.std.specs.List.{flat_map}
use Rattle.can_entries.specs.Groups.{group_of}
use Rattle.can_references.specs.CrossReferences.{perhaps}
use Rattle.can_references.proofs.cross_references.groups_of.Given as goal

-- the groups of the messages so far
abbrev pub invariant-loop-message : goal.invariant-loop-message
invariant-loop-message g l = l.numbers.items
    ≡ flat_map (λ message. perhaps (group_of message.head.number (g.L.Lookup.whole l.lookup))) (take l.message-index l.messages)
