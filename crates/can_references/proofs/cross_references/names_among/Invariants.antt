use Rattle.std.proofs.Common.{◌≡◌, map, take}
use Rattle.can_references.proofs.cross_references.names_among.Given as goal

-- the names so far
abbrev pub invariant-loop-name : goal.invariant-loop-name
invariant-loop-name l = map (λ name. name.now) l.added.items ≡ take l.name-index l.names
