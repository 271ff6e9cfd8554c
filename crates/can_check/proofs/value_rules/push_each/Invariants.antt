use Rattle.std.proofs.Common.{◌≡◌, ◌++◌, [], ◌∷◌, take}
use Rattle.std.specs.List.{flat_map}
use Rattle.can_diagnostics.specs.Diagnostics.{of_value}
use Rattle.can_check.proofs.value_rules.push_each.Given as goal

-- the values so far
abbrev pub invariant-loop-value : goal.invariant-loop-value
invariant-loop-value l = l.found.items ≡ l.initial.found.items ++ flat_map (λ value. of_value l.code l.head l.signal value ∷ [])
    (take l.value-index l.values)
