use Rattle.std.proofs.Common.{rules}
use Rattle.can_csv_lines.proofs.Rows.{rows_pushed}
use Rattle.can_csv_lines.proofs.line.push_message.Goals as goal

pub returns : goal.returns
returns c =
    rows_pushed c.args.text.now.items c.push_signal_rows.new.text.items c.as_slice.result.now c.as_slice-2.result.now
    c.args.body.now c.args.frame.now c.args.target.now c.in_ok-push_signal_rows.ensures (search rules) (search rules) (search rules)
