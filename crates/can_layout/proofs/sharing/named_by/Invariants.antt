use Rattle.std.proofs.Common.{◌≡◌, ◌++◌, map, filter, drop}
use Rattle.dbc_records.specs.Records.{ValueRow}
use Rattle.can_layout.specs.Shares.{row_of, is_shared}
use Rattle.can_layout.proofs.sharing.named_by.Given as goal

-- those of the entries so far are there, and those of the entries to come remain
abbrev pub invariant-loop-row : goal.invariant-loop-row
invariant-loop-row l =
    map row_of l.all.items ++ filter (λ (row : ValueRow). is_shared l.numbers row.number) (drop l.row-index l.rows)
    ≡ filter (λ (row : ValueRow). is_shared l.numbers row.number) l.rows
