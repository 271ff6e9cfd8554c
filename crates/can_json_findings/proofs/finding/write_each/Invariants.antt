use Rattle.std.proofs.Common.{◌≡◌, ◌++◌, take}
use Rattle.std.specs.List.{flat_map}
use Rattle.json.specs.Tree.{json_tokens}
use Rattle.can_json_findings.specs.Findings.{range_json}
use Rattle.can_json_findings.proofs.finding.write_each.Given as goal

-- the ranges so far
abbrev pub invariant-loop-range : goal.invariant-loop-range
invariant-loop-range l = l.text ≡ l.initial.text ++ flat_map (λ range. json_tokens (range_json range)) (take l.range-index l.ranges)
