use Rattle.std.proofs.Common.{[], ◌∷◌, ◌++◌, filter, map, not, ap, ◌∙◌, rules}
use Rattle.std.specs.Prelude.{codes}
use Rattle.can_json_texts.specs.Values.{array_of, tokens_of}
use Rattle.can_json_texts.specs.Records.{attribute_json}
use Rattle.can_json_dump.specs.Dumps.{is_given}
use Rattle.can_json_dump.proofs.rest.write_attributes.Goals as goal

pub returns : goal.returns
returns g c =
    c.in_ok-write_others.ensures
    ∙ ap (λ rows. c.args.text.now ++ tokens_of ((
      codes "attributes",
      array_of
          (map attribute_json (filter (λ row. not (is_given c.args.known.now row.target)) rows)),
    ) ∷ []))
    (search rules)
