use Rattle.can_layout.specs.Plans.{plan_of}
use Rattle.can_layout.specs.Diagrams.{picture_of}
use Rattle.session_laws.proofs.Steps.{next_of_map}
use Rattle.session_laws.proofs.showing.of_messages.Goals as goal

pub loop-index-preserved : goal.loop-index-preserved
loop-index-preserved c =
    let database = c.args.session.now.state.database in
    record {
      plans =
          rw c.in_ok-push.ensures.items
          (next_of_map (λ plan. plan.now) (plan_of database) database.messages c.loop-index.index c.loop-index.plans.items
          c.plan.result c.plan.ensures c.loop-index.invariant.plans);
      pictures =
          rw c.in_ok-push-2.ensures.items
          (next_of_map (λ picture. picture.now) (picture_of database) database.messages c.loop-index.index
          c.loop-index.pictures.items c.picture.result c.picture.ensures c.loop-index.invariant.pictures);
    }
