use Rattle.std.proofs.Common.{sym}
use Rattle.std.proofs.lemmas.List.{map_more}
use Rattle.can_layout.specs.Plans.{plan_of}
use Rattle.can_layout.specs.Meters.{with_plan}
use Rattle.can_layout.proofs.Meters.{some, one_step}
use Rattle.can_layout.proofs.making.plans_of.Goals as goal

pub returns-in_err-plan_sharing-clause-at_most : goal.returns-in_err-plan_sharing-clause-at_most
returns-in_err-plan_sharing-clause-at_most g c =
    some _ with_plan c.loop-message.message-index _ _ _ c.loop-message-test.true c.loop-message.invariant.counted
    c.plan_sharing.ensures.counted

pub returns-in_err-push-clause-at_most : goal.returns-in_err-push-clause-at_most
returns-in_err-push-clause-at_most g c =
    some _ with_plan c.loop-message.message-index _ _ _ c.loop-message-test.true c.loop-message.invariant.counted
    c.plan_sharing.ensures.counted

pub loop-message-preserved : goal.loop-message-preserved
loop-message-preserved g c = record {
  plans =
      rw (c.in_ok-push.ensures.items, c.in_ok-plan_sharing.ensures.plan, c.loop-message.invariant.plans, c.message-item.is)
      (sym (map_more (plan_of c.args.sharing.now) c.args.messages.now c.loop-message.message-index
      c.message-item.result c.loop-message-test.true));
  counted = one_step with_plan c.loop-message.message-index _ _ _ c.loop-message.invariant.counted c.plan_sharing.ensures.counted;
}
