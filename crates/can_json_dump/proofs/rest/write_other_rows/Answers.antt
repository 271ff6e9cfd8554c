use Rattle.std.proofs.Common.{[], ◌∷◌, ◌++◌, map}
use Rattle.std.specs.Prelude.{codes}
use Rattle.can_json_texts.specs.Members.{text_members}
use Rattle.can_json_texts.specs.Values.{array_of, or_null}
use Rattle.can_json_texts.specs.Records.{decimal_json, names_json, table_json, definition_json, default_json, tag_json}
use Rattle.can_json_texts.specs.Records.{comment_json}
use Rattle.can_json_texts.specs.Records.{attribute_json, values_json, float_json, mux_json, kept_json}
use Rattle.can_json_dump.specs.Dumps.{other_comments, other_attributes, other_values, other_floats, other_muxes}
use Rattle.can_json_texts.proofs.Tokens.{members_then}
use Rattle.can_json_dump.proofs.rest.write_other_rows.Goals as goal

pub returns : goal.returns
returns g c =
    members_then
    ((codes "values", array_of (map values_json (other_values c.args.known.now)))
    ∷ (codes "value_types", array_of (map float_json (other_floats c.args.known.now))) ∷ [])
    ((codes "multiplexing", array_of (map mux_json (other_muxes c.args.known.now)))
    ∷ (codes "kept", array_of (map kept_json c.args.known.now.kept)) ∷ [])
    c.args.text.now c.write_other_values.new.text c.write_multiplexing_and_kept.new.text
    c.in_ok-write_multiplexing_and_kept.ensures c.in_ok-write_other_values.ensures
