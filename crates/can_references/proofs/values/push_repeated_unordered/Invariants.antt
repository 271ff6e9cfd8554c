use Rattle.std.proofs.Common.{◌≡◌, ◌++◌, map, take}
use Rattle.can_references.specs.Values.{numbers_repeated}
use Rattle.can_references.proofs.values.push_repeated_unordered.Given as goal

-- the entries so far
abbrev pub invariant-loop-entry : goal.invariant-loop-entry
invariant-loop-entry l = record {
  found : l.found.items ≡ l.initial.found.items ++ numbers_repeated (take l.entry-index l.entries);
  seen : l.seen ≡ map (λ entry. entry.number) (take l.entry-index l.entries);
}
