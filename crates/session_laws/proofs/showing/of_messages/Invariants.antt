use Rattle.std.proofs.Common.{◌≡◌, map, take}
use Rattle.can_layout.specs.Plans.{plan_of}
use Rattle.can_layout.specs.Diagrams.{picture_of}
use Rattle.session_laws.proofs.showing.of_messages.Given as goal

-- those so far are there
abbrev pub invariant-loop-index : goal.invariant-loop-index
invariant-loop-index l =
    let database = l.session.state.database in
    record {
      plans : map (λ plan. plan.now) l.plans.items ≡ take l.index (map (plan_of database) database.messages);
      pictures : map (λ picture. picture.now) l.pictures.items ≡ take l.index (map (picture_of database) database.messages);
    }
