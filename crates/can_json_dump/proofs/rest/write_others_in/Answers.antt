use Rattle.std.proofs.Common.{not}
use Rattle.json.specs.Tree.{json_tokens}
use Rattle.can_json_dump.proofs.Filtered.{filtered_pushed}
use Rattle.can_json_dump.proofs.rest.write_others_in.Goals as goal

pub loop-index-preserved : goal.loop-index-preserved
loop-index-preserved g c =
    filtered_pushed (λ row. not (g.T.SaysOfTarget.is_given c.args.known.now row)) (λ row. json_tokens (g.T.ToJson.json_of row))
    c.args.rows.now c.loop-index.index c.row_at.result.now c.args.text.now c.loop-index.text c.write_other.new.text
    c.in_ok-write_other.ensures c.loop-index.invariant c.row_at.ensures
