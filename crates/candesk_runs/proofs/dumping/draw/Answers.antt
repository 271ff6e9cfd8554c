use Rattle.std.proofs.Common.{◌≡◌, get_or, ap, subst, ◌∙◌}
use Rattle.byte_devices.specs.Device.{Broke}
use Rattle.can_layout.specs.Diagrams.{picture_of}
use Rattle.candesk_runs.proofs.Diagram.{Broke-item}
use Rattle.candesk_runs.proofs.dumping.draw.Goals as goal

pub returns-in-Err : goal.returns-in-Err
returns-in-Err g c =
    let drawn : c.as_slice.result.now ≡ picture_of (g.L.Lookup.whole c.args.lookup.now)
    (get_or c.args.messages.now c.loop-message.message-index c.message-item.result) =
    c.as_slice.ensures.value ∙ c.in-Ok.ensures.picture ∙ ap (picture_of (g.L.Lookup.whole c.args.lookup.now)) c.message-item.is in
    Broke-item (picture_of (g.L.Lookup.whole c.args.lookup.now)) c.args.messages.now c.loop-message.message-index
    c.message-item.result c.loop-message-test.true _ _ _ c.loop-message.invariant
    (subst (Broke (g.W.Sink.written c.loop-message.sink) (g.W.Sink.written c.put_all.new.sink)) drawn c.in-Err.ensures)
