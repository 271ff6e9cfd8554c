use Rattle.std.proofs.Common.{filter, not}
use Rattle.can_json_texts.proofs.Tokens.{array_written}
use Rattle.can_json_dump.proofs.rest.write_other_array.Goals as goal

pub returns : goal.returns
returns g c =
    array_written g.T.ToJson.json_of (filter (λ row. not (g.T.SaysOfTarget.is_given c.args.known.now row)) c.args.rows.now)
    c.args.text.now c.begin_array.new.self c.write_others_in.new.text c.end_array.new.self
    c.in_ok-end_array.ensures c.in_ok-write_others_in.ensures c.in_ok-begin_array.ensures
