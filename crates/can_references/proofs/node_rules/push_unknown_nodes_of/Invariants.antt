use Rattle.std.proofs.Common.{◌≡◌, ◌++◌, take}
use Rattle.std.specs.List.{flat_map}
use Rattle.can_references.specs.HeadFaults.{unknown_receiver}
use Rattle.can_references.proofs.node_rules.push_unknown_nodes_of.Given as goal

-- the nodes so far
abbrev pub invariant-loop-node : goal.invariant-loop-node
invariant-loop-node g l = l.found.items ≡ l.initial.found.items ++ flat_map (unknown_receiver l.known l.head l.signal)
    (take l.node-index l.nodes)
