use Rattle.std.proofs.Common.{filter, map, not}
use Rattle.can_json_texts.specs.Values.{array_of}
use Rattle.can_json_texts.proofs.Tokens.{member_written}
use Rattle.can_json_dump.proofs.rest.write_others.Goals as goal

pub returns : goal.returns
returns g c =
    member_written c.args.key.now
    (array_of (map g.T.ToJson.json_of (filter (λ row. not (g.T.SaysOfTarget.is_given c.args.known.now row)) c.args.rows.now)))
    c.args.text.now c.key.new.self c.write_other_array.new.text
    c.in_ok-write_other_array.ensures c.in_ok-key.ensures
