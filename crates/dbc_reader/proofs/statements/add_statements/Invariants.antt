use Rattle.std.proofs.Common.{◌≡◌}
use Rattle.dbc_reader.specs.inner.Cursors.{left_at}
use Rattle.dbc_reader.specs.inner.Readers.{size}
use Rattle.dbc_reader.specs.inner.Databases.{statements_into}
use Rattle.dbc_reader.proofs.statements.add_statements.Given as goal

abbrev pub invariant-statements : goal.invariant-statements
invariant-statements l = statements_into l.database (left_at l.at) ≡ statements_into l.initial.database (left_at l.initial.at)

abbrev pub decreases-statements : goal.decreases-statements
decreases-statements l = size (left_at l.at)
