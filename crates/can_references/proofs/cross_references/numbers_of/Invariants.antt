use Rattle.std.proofs.Common.{◌≡◌, map, take}
use Rattle.can_references.proofs.cross_references.numbers_of.Given as goal

-- the CAN identifiers of the messages so far
abbrev pub invariant-loop-message : goal.invariant-loop-message
invariant-loop-message l = l.numbers.items ≡ map (λ message. message.head.number) (take l.message-index l.messages)
