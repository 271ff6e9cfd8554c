use Rattle.json.specs.Tree.{json_tokens}
use Rattle.can_json_texts.specs.Records.{own_attribute_json}
use Rattle.can_json_dump.specs.Subjects.{is_for}
use Rattle.can_json_dump.proofs.Filtered.{filtered_pushed}
use Rattle.can_json_dump.proofs.annotations.write_attributes_in.Goals as goal

pub loop-index-preserved : goal.loop-index-preserved
loop-index-preserved c =
    filtered_pushed (λ row. is_for c.args.subject.now row.target) (λ row. json_tokens (own_attribute_json row))
    c.args.rows.now c.loop-index.index c.row.result.now c.args.text.now c.loop-index.text c.write_attribute_if.new.text
    c.in_ok-write_attribute_if.ensures c.loop-index.invariant c.row.ensures
