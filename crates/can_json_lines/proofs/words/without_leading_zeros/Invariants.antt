use Rattle.std.proofs.Common.{◌≡◌, length}
use Rattle.can_json_lines.specs.Lines.{without_leading_zeros}
use Rattle.can_json_lines.proofs.words.without_leading_zeros.Given as goal

-- the zeros that were passed over count for nothing
abbrev pub invariant-loop-rest : goal.invariant-loop-rest
invariant-loop-rest l = without_leading_zeros l.rest ≡ without_leading_zeros l.digits

abbrev pub decreases-loop-rest : goal.decreases-loop-rest
decreases-loop-rest l = length l.rest
