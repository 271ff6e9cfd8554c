use Rattle.std.proofs.Common.{◌≡◌, drop}
use Rattle.std.specs.List.{find}
use Rattle.can_entries.specs.Groups.{gives_format}
use Rattle.can_entries.proofs.format.first_format_row.Given as goal

-- none of the entries so far gives the format of the message
abbrev pub invariant-loop-row : goal.invariant-loop-row
invariant-loop-row l = find (gives_format l.number) (drop l.row-index l.rows) ≡ find (gives_format l.number) l.rows
