use Rattle.std.proofs.Common.{◌≡◌, drop, bytes_eq}
use Rattle.std.specs.List.{find}
use Rattle.can_entries.proofs.row.first_attributed.Given as goal

-- none of the statements so far is of the attribute
abbrev pub invariant-loop-statement : goal.invariant-loop-statement
invariant-loop-statement g l = find (λ statement. bytes_eq (g.R.Attributed.attribute_of statement) l.name)
    (drop l.statement-index l.statements) ≡ find (λ statement. bytes_eq (g.R.Attributed.attribute_of statement) l.name) l.statements
