use Rattle.std.proofs.Common.{◌≡◌, ◌++◌, filter, take}
use Rattle.std.specs.List.{flat_map}
use Rattle.json.specs.Tree.{json_tokens}
use Rattle.can_json_texts.specs.Records.{own_attribute_json}
use Rattle.can_json_dump.specs.Subjects.{is_for}
use Rattle.can_json_dump.proofs.annotations.write_attributes_in.Given as goal

-- the entries so far
abbrev pub invariant-loop-index : goal.invariant-loop-index
invariant-loop-index l =
    l.text ≡ l.initial.text ++ flat_map (λ row. json_tokens (own_attribute_json row))
    (filter (λ row. is_for l.subject row.target) (take l.index l.rows))
