use Rattle.can_json_findings.specs.Locations.{receiver_location, location_line}
use Rattle.can_json_findings.proofs.Beginnings.{one_more_line}
use Rattle.std.proofs.Common.{refl}
use Rattle.can_json_findings.proofs.message_locations.push_receivers.Goals as goal

pub loop-node-preserved : goal.loop-node-preserved
loop-node-preserved c =
    one_more_line (λ node. location_line c.args.text.now
    (receiver_location c.args.at.head.now c.args.at.signal.now c.args.at.start node))
    c.args.nodes.now c.loop-node.node-index c.node-item.result c.args.lines.now.items c.loop-node.lines.items
    c.push_receiver.new.lines.items _ c.loop-node-test.true c.in_ok-push_receiver.ensures refl c.node-item.is
    c.loop-node.invariant
