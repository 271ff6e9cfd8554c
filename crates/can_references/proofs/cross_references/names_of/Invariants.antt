use Rattle.std.proofs.Common.{◌≡◌, map, take}
use Rattle.can_references.proofs.cross_references.names_of.Given as goal

-- the names of the messages so far
abbrev pub invariant-loop-message : goal.invariant-loop-message
invariant-loop-message l = map (λ name. name.now) l.names.items
    ≡ map (λ message. message.head.name) (take l.message-index l.messages)
