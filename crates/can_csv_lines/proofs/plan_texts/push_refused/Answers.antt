use Rattle.std.proofs.Common.{◌++◌, rules}
use Rattle.std.specs.Prelude.{codes}
use Rattle.can_layout.specs.Diagrams.{cause_word}
use Rattle.can_csv_lines.proofs.Fields.{two_empty}
use Rattle.can_csv_lines.proofs.plan_texts.push_refused.Goals as goal

pub returns : goal.returns
returns c =
    two_empty c.args.text.now.items c.push_cause.new.text.items c.push_piece.new.self.items (codes "?" ++ cause_word c.args.cause)
    (search rules) (search rules)
