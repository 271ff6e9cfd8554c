use Rattle.std.proofs.Common.{rules}
use Rattle.can_json_dump.specs.Subjects.{is_for}
use Rattle.can_json_dump.proofs.Found.{found_here, none_here}
use Rattle.can_json_dump.proofs.by_number.first_for.Goals as goal

pub returns-then-is_for : goal.returns-then-is_for
returns-then-is_for g c =
    found_here (λ row. is_for c.args.subject.now (g.T.Targeted.target_of row)) c.args.rows.now c.loop-index.index
    c.row-row.result.now c.row-row.ensures c.loop-index.invariant (search rules)

pub loop-index-preserved : goal.loop-index-preserved
loop-index-preserved g c =
    none_here (λ row. is_for c.args.subject.now (g.T.Targeted.target_of row)) c.args.rows.now c.loop-index.index
    c.row-row.result.now c.row-row.ensures c.loop-index.invariant (search rules)
