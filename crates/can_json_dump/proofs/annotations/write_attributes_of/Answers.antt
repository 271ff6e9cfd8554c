use Rattle.std.proofs.Common.{◌≡◌, [], ◌++◌, ap, sym, ◌∙◌, append-nil, rules}
use Rattle.std.specs.List.{flat_map}
use Rattle.json.specs.Tree.{json_tokens}
use Rattle.can_json_texts.specs.Records.{own_attribute_json}
use Rattle.can_json_dump.proofs.Found.{all_at}
use Rattle.can_json_dump.proofs.annotations.write_attributes_of.Goals as goal

pub returns-in_ok-write_attributes_in-in-Some : goal.returns-in_ok-write_attributes_in-in-Some
returns-in_ok-write_attributes_in-in-Some c =
    c.in_ok-write_attributes_in-in-Some.ensures
    ∙ ap (λ rows. c.args.text.now ++ flat_map (λ row. json_tokens (own_attribute_json row)) rows)
    (all_at (λ row. row.target) c.args.subject.now c.args.attributes.now c.in-Some.rows.now (search rules))

pub returns-in-None : goal.returns-in-None
returns-in-None c =
    sym (append-nil c.args.text.now)
    ∙ ap (λ rows. c.args.text.now ++ flat_map (λ row. json_tokens (own_attribute_json row)) rows)
    (all_at (λ row. row.target) c.args.subject.now c.args.attributes.now [] (search rules))
