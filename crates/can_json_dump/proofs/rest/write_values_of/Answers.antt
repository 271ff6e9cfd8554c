use Rattle.std.proofs.Common.{[], ◌∷◌, ◌++◌, filter, map, not, ap, ◌∙◌, rules}
use Rattle.std.specs.Prelude.{codes}
use Rattle.can_json_texts.specs.Values.{array_of, tokens_of}
use Rattle.can_json_texts.specs.Records.{values_json}
use Rattle.can_json_dump.specs.Dumps.{has_signal}
use Rattle.can_json_dump.proofs.rest.write_values_of.Goals as goal

pub returns : goal.returns
returns g c =
    c.in_ok-write_others.ensures
    ∙ ap (λ rows. c.args.text.now ++ tokens_of ((
      codes "values",
      array_of
          (map values_json (filter (λ row. not (has_signal c.args.known.now row.number row.signal)) rows)),
    ) ∷ []))
    (search rules)
