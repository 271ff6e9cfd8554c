use Rattle.std.proofs.Common.{◌≡◌, None, take}
use Rattle.std.specs.List.{find}
use Rattle.can_json_dump.specs.Subjects.{is_for}
use Rattle.can_json_dump.proofs.by_number.first_for.Given as goal

-- none of the entries so far
abbrev pub invariant-loop-index : goal.invariant-loop-index
invariant-loop-index g l = find (λ row. is_for l.subject (g.T.Targeted.target_of row)) (take l.index l.rows) ≡ None
