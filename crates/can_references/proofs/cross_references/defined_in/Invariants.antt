use Rattle.std.proofs.Common.{◌≡◌, map, take}
use Rattle.can_references.proofs.cross_references.defined_in.Given as goal

-- the names so far
abbrev pub invariant-loop-definition : goal.invariant-loop-definition
invariant-loop-definition l = map (λ name. name.now) l.names.items
    ≡ map (λ definition. definition.name) (take l.definition-index l.definitions)
