use Rattle.std.proofs.Common.{◌≡◌, map, take}
use Rattle.can_layout.specs.Plans.{plan_of}
use Rattle.can_layout.specs.Meters.{with_plan, repeated}
use Rattle.can_layout.proofs.making.plans_of.Given as goal

-- the plans of the messages so far, each counted
abbrev pub invariant-loop-message : goal.invariant-loop-message
invariant-loop-message g l = record {
  plans : l.plans.items ≡ map (plan_of l.sharing) (take l.message-index l.messages);
  counted : l.meter ≡ repeated l.message-index with_plan l.initial.meter;
}
