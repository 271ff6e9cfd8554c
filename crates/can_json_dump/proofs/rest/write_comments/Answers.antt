use Rattle.std.proofs.Common.{[], ◌∷◌, ◌++◌, filter, map, not, ap, ◌∙◌, rules}
use Rattle.std.specs.Prelude.{codes}
use Rattle.can_json_texts.specs.Values.{array_of, tokens_of}
use Rattle.can_json_texts.specs.Records.{comment_json}
use Rattle.can_json_dump.specs.Dumps.{is_given}
use Rattle.can_json_dump.proofs.rest.write_comments.Goals as goal

pub returns : goal.returns
returns g c =
    c.in_ok-write_others.ensures
    ∙ ap (λ rows. c.args.text.now ++ tokens_of ((
      codes "comments",
      array_of
          (map comment_json (filter (λ row. not (is_given c.args.known.now row.target)) rows)),
    ) ∷ []))
    (search rules)
