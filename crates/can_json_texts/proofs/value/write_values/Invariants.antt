use Rattle.std.proofs.Common.{◌≡◌, ◌++◌, take}
use Rattle.std.specs.List.{flat_map}
use Rattle.json.specs.Tree.{json_tokens}
use Rattle.can_json_texts.proofs.value.write_values.Given as goal

-- the values so far
abbrev pub invariant-loop-value : goal.invariant-loop-value
invariant-loop-value g l =
    l.text ≡ l.initial.text ++ flat_map (λ value. json_tokens (g.T.ToJson.json_of value)) (take l.value-index l.values)
