use Rattle.std.proofs.Common.{◌≡◌, ◌++◌, filter, not, take}
use Rattle.std.specs.List.{flat_map}
use Rattle.json.specs.Tree.{json_tokens}
use Rattle.can_json_dump.proofs.rest.write_others_in.Given as goal

-- the entries so far
abbrev pub invariant-loop-index : goal.invariant-loop-index
invariant-loop-index g l =
    l.text ≡ l.initial.text ++ flat_map (λ row. json_tokens (g.T.ToJson.json_of row))
    (filter (λ row. not (g.T.SaysOfTarget.is_given l.known row)) (take l.index l.rows))
