use Rattle.can_json_texts.proofs.Tokens.{array_written}
use Rattle.can_json_texts.proofs.value.write_array.Goals as goal

pub returns : goal.returns
returns g c =
    array_written g.T.ToJson.json_of c.args.values.now c.args.text.now c.begin_array.new.self c.write_values.new.text
    c.end_array.new.self c.in_ok-end_array.ensures c.in_ok-write_values.ensures c.in_ok-begin_array.ensures
