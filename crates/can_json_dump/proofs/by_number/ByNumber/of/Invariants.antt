use Rattle.std.proofs.Common.{take}
use Rattle.can_json_dump.specs.Subjects.{IsByNumber}
use Rattle.can_json_dump.proofs.by_number.ByNumber.of.Given as goal

-- the entries so far
abbrev pub invariant-loop-row : goal.invariant-loop-row
invariant-loop-row g l = IsByNumber (λ kept. kept) g.T.Targeted.target_of l.by_number (take l.row-index l.rows)
