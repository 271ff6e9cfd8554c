use Rattle.std.proofs.Common.{◌≡◌, length}
use Rattle.dbc_records.specs.Records.{are_distinct, names_of}
use Rattle.dbc_records.proofs.message.names_differ.Given as goal

abbrev pub invariant-loop-rest : goal.invariant-loop-rest
invariant-loop-rest l = are_distinct (names_of l.rest) ≡ are_distinct (names_of l.signals)

abbrev pub decreases-loop-rest : goal.decreases-loop-rest
decreases-loop-rest l = length l.rest
