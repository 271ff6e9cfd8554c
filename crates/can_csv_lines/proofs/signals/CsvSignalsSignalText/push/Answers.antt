use Rattle.std.proofs.Common.{rules}
use Rattle.can_csv_lines.proofs.Rows.{signal_pushed}
use Rattle.can_csv_lines.proofs.signals.CsvSignalsSignalText.push.Goals as goal

pub returns : goal.returns
returns c =
    λ row here.
    signal_pushed c.args._some c.args.text.now.items c.push_bytes.new.text.items c.push_to.new.text.items
    c.push_after_label.new.text.items c.args.self.now.came c.args.self.now.message c.args.bytes.now row (search rules)
    (search rules) (search rules)
