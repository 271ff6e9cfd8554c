use Rattle.can_json_findings.proofs.Beginnings.{begins_with_fault}
use Rattle.can_json_findings.proofs.fault.lines_of.Goals as goal

pub returns : goal.returns
returns c =
    begins_with_fault c.args.text.now c.in_ok-words.words.items _ c.push_guesses.new.lines.items c.args.first.now c.requires
    c.in_ok-push_guesses.ensures c.in_ok-words.ensures
