use Rattle.can_json_texts.proofs.Tokens.{array_written}
use Rattle.can_json_dump.specs.Messages.{link_json}
use Rattle.can_json_dump.proofs.signal.write_link_array.Goals as goal

pub returns : goal.returns
returns c =
    array_written (link_json c.args.signals.now) c.args.links.now
    c.args.text.now c.begin_array.new.self c.write_links.new.text c.end_array.new.self
    c.in_ok-end_array.ensures c.in_ok-write_links.ensures c.in_ok-begin_array.ensures
