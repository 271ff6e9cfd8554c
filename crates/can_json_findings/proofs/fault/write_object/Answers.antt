use Rattle.can_json_texts.proofs.Tokens.{object_written}
use Rattle.can_json_findings.specs.Faults.{fault_members}
use Rattle.can_json_findings.proofs.fault.write_object.Goals as goal

pub returns : goal.returns
returns c =
    object_written (fault_members c.args.size c.args.details.now c.args.is_guess) c.args.text.now c.begin_object.new.self
    c.write_members.new.text c.end_object.new.self c.in_ok-end_object.ensures c.in_ok-write_members.ensures
    c.in_ok-begin_object.ensures
