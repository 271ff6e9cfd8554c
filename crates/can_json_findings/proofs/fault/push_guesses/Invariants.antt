use Rattle.std.proofs.Common.{◌≡◌, ◌++◌, true, take}
use Rattle.std.specs.List.{flat_map}
use Rattle.can_json_findings.specs.Faults.{fault_line}
use Rattle.can_json_findings.proofs.fault.push_guesses.Given as goal

-- the guesses so far
abbrev pub invariant-loop-details : goal.invariant-loop-details
invariant-loop-details l =
    l.lines.items ≡ l.initial.lines.items ++ flat_map (λ details. fault_line l.size details true) (take l.details-index l.guesses)
