use Rattle.can_json_texts.proofs.Tokens.{array_written}
use Rattle.can_json_findings.specs.Findings.{range_json}
use Rattle.can_json_findings.proofs.finding.write_ranges.Goals as goal

pub returns : goal.returns
returns c =
    array_written range_json c.args.ranges.now c.args.text.now c.begin_array.new.self c.write_each.new.text c.end_array.new.self
    c.in_ok-end_array.ensures c.in_ok-write_each.ensures c.in_ok-begin_array.ensures
