use Rattle.std.proofs.Common.{ap, ◌∙◌, ◌-◌, take}
use Rattle.dbc_text_buffer.proofs.WordBytes.{bytes_from_are}
use Rattle.dbc_text_buffer.proofs.eight_digits.bytes_from.Goals as goal

pub returns : goal.returns
returns c = ap (take (8 - c.args.from)) c.to_le_bytes.ensures ∙ bytes_from_are c.args.word c.args.from c.requires
