use Rattle.std.proofs.Common.{◌≡◌, ◌++◌, take}
use Rattle.std.specs.List.{flat_map}
use Rattle.can_json_findings.specs.Locations.{receiver_location, location_line}
use Rattle.can_json_findings.proofs.message_locations.push_receivers.Given as goal

-- the lines of the receivers so far
abbrev pub invariant-loop-node : goal.invariant-loop-node
invariant-loop-node l =
    l.lines.items ≡ l.initial.lines.items
    ++ flat_map (λ node. location_line l.text (receiver_location l.at.head.now l.at.signal.now l.at.start node))
    (take l.node-index l.nodes)
