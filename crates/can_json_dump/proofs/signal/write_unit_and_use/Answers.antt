use Rattle.std.proofs.Common.{[], ◌∷◌, ◌++◌, map}
use Rattle.std.specs.Prelude.{codes}
use Rattle.can_json_texts.specs.Members.{text_members}
use Rattle.can_json_texts.specs.Values.{array_of, or_null}
use Rattle.can_json_texts.specs.Records.{decimal_json, names_json, table_json, definition_json, default_json, tag_json}
use Rattle.can_json_texts.specs.Records.{comment_json}
use Rattle.can_json_texts.specs.Records.{attribute_json, values_json, float_json, mux_json, kept_json}
use Rattle.can_json_texts.proofs.Tokens.{members_then}
use Rattle.can_json_dump.proofs.signal.write_unit_and_use.Goals as goal

pub returns : goal.returns
returns c =
    members_then
    (text_members (codes "unit") c.args.unit.now)
    ((codes "receivers", names_json c.args.receivers.now)
    ∷ (codes "tag", tag_json c.args.tag.now) ∷ [])
    c.args.text.now c.write_text.new.text c.write_receivers_and_tag.new.text
    c.in_ok-write_receivers_and_tag.ensures c.in_ok-write_text.ensures
