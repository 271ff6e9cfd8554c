use Rattle.std.proofs.Common.{◌≡◌}
use Rattle.dbc_reader.specs.inner.Cursors.{left_at}
use Rattle.dbc_reader.specs.inner.Readers.{size}
use Rattle.dbc_reader.specs.inner.Located.{all_located_into}
use Rattle.dbc_reader.proofs.located.add_all_located.Given as goal

abbrev pub invariant-statements : goal.invariant-statements
invariant-statements l = all_located_into l.read (left_at l.at) ≡ all_located_into l.initial.read (left_at l.initial.at)

abbrev pub decreases-statements : goal.decreases-statements
decreases-statements l = size (left_at l.at)
