use Rattle.std.proofs.Common.{[], ◌∷◌, ◌++◌, map}
use Rattle.std.specs.Prelude.{codes}
use Rattle.can_json_dump.specs.Messages.{bit_field_members, scale_members, use_members}
use Rattle.can_json_texts.proofs.Tokens.{members_then}
use Rattle.can_json_dump.proofs.message.write_stated.Goals as goal

pub returns : goal.returns
returns c =
    members_then (bit_field_members c.args.signal.now)
    (scale_members c.args.signal.now ++ use_members c.args.signal.now)
    c.args.text.now c.write_bit_field.new.text c.write_use_of.new.text
    c.in_ok-write_use_of.ensures c.in_ok-write_bit_field.ensures
