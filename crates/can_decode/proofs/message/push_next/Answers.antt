use Rattle.std.proofs.lemmas.Result.{on_ok_weaker}
use Rattle.can_decode.proofs.Labels.{labelled_then}
use Rattle.can_decode.proofs.message.push_next.Goals as goal

pub returns : goal.returns
returns c =
    on_ok_weaker c.push_reading.result
    (λ read. labelled_then c.args.some c.args.text.now.items c.push_label.new.text.items c.push_reading.new.text.items
    c.args.bytes.now c.args.row.now read c.in_ok-push_label.ensures)
    c.push_reading.ensures
