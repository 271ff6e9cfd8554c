use Rattle.std.proofs.Common.{◌≡◌, map, take}
use Rattle.std.specs.List.{All}
use Rattle.can_references.specs.Hashes.{hashed_bytes}
use Rattle.can_references.proofs.names.hashed_all.Given as goal

-- the names so far
abbrev pub invariant-loop-name : goal.invariant-loop-name
invariant-loop-name l = record {
  keys : map (λ hashed. hashed.key.now) l.keys.items ≡ map (λ name. name.now) (take l.name-index l.names);
  hashes : All (λ hashed. hashed.hash ≡ hashed_bytes 0 hashed.key.now) l.keys.items;
}
