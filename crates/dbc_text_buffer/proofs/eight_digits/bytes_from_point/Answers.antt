use Rattle.std.proofs.Common.{ap, ◌∙◌, ◌-◌, take}
use Rattle.dbc_text_buffer.proofs.WordBytes.{bytes_from_point_are}
use Rattle.dbc_text_buffer.proofs.eight_digits.bytes_from_point.Goals as goal

pub returns : goal.returns
returns c = ap (take (8 - c.args.at)) c.to_le_bytes.ensures ∙ bytes_from_point_are c.args.word c.args.at c.requires
