use Rattle.std.proofs.Common.{sym}
use Rattle.std.proofs.lemmas.List.{map_more, map-append}
use Rattle.can_layout.specs.Diagrams.{picture_of}
use Rattle.can_layout.specs.Meters.{with_picture}
use Rattle.can_layout.proofs.Meters.{some, one_step}
use Rattle.can_layout.proofs.diagram.pictures_of.Goals as goal

pub returns-in_err-picture_with-clause-at_most : goal.returns-in_err-picture_with-clause-at_most
returns-in_err-picture_with-clause-at_most g c =
    some _ with_picture c.loop-message.message-index _ _ _ c.loop-message-test.true c.loop-message.invariant.counted
    c.picture_with.ensures.counted

pub returns-in_err-push-clause-at_most : goal.returns-in_err-push-clause-at_most
returns-in_err-push-clause-at_most g c =
    some _ with_picture c.loop-message.message-index _ _ _ c.loop-message-test.true c.loop-message.invariant.counted
    c.picture_with.ensures.counted

pub loop-message-preserved : goal.loop-message-preserved
loop-message-preserved g c = record {
  pictures =
      rw (
        c.in_ok-push.ensures.items,
        map-append,
        c.loop-message.invariant.pictures,
        c.in_ok-picture_with.ensures.picture,
        c.message-item.is,
      )
      (sym (map_more (picture_of (g.L.Lookup.whole c.args.lookup.now)) c.args.messages.now c.loop-message.message-index
      c.message-item.result c.loop-message-test.true));
  counted = one_step with_picture c.loop-message.message-index _ _ _ c.loop-message.invariant.counted
      c.picture_with.ensures.counted;
}
