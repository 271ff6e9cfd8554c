use Rattle.std.proofs.Common.{[], ◌∷◌, ◌++◌, map}
use Rattle.std.specs.Prelude.{codes}
use Rattle.can_json_texts.specs.Members.{text_members}
use Rattle.can_json_texts.specs.Values.{array_of, or_null}
use Rattle.can_json_texts.specs.Records.{decimal_json, names_json, table_json, definition_json, default_json, tag_json}
use Rattle.can_json_texts.specs.Records.{comment_json}
use Rattle.can_json_texts.specs.Records.{attribute_json, values_json, float_json, mux_json, kept_json}
use Rattle.can_json_texts.proofs.Tokens.{members_then}
use Rattle.can_json_dump.proofs.rest.write_symbols_and_timing.Goals as goal

pub returns : goal.returns
returns c =
    members_then
    ((codes "symbols", names_json c.args.symbols.now) ∷ [])
    ((codes "bit_timing", or_null (λ numbers. array_of (map decimal_json numbers)) c.args.timing.now) ∷ [])
    c.args.text.now c.write_array_member.new.text c.write_timing.new.text
    c.in_ok-write_timing.ensures c.in_ok-write_array_member.ensures
