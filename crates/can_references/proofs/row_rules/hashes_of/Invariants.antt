use Rattle.std.proofs.Common.{◌≡◌, map, take}
use Rattle.can_references.specs.Hashes.{entry_hash}
use Rattle.can_references.proofs.row_rules.hashes_of.Given as goal

-- the entries so far
abbrev pub invariant-loop-row : goal.invariant-loop-row
invariant-loop-row g l = l.hashes.items ≡ map entry_hash (map g.R.DatabaseEntry.key_of (take l.row-index l.rows))
