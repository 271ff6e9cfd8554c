use Rattle.std.proofs.Common.{◌≡◌, take, map}
use Rattle.std.specs.List.{All}
use Rattle.can_entries.specs.Indexes.{has_own_hash}
use Rattle.can_entries.proofs.index.entries_of.Given as goal

-- the entries so far, each with its number
abbrev pub invariant-loop-row : goal.invariant-loop-row
invariant-loop-row g l = record {
  rows : map (λ entry. entry.row.now) l.entries.items ≡ take l.row-index l.rows;
  hashes : All (has_own_hash g.R.Keyed.number_of g.R.Keyed.signal_of) l.entries.items;
}
