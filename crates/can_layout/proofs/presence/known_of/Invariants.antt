use Rattle.can_layout.specs.Presence.{AreKnown, IsCached}
use Rattle.can_layout.proofs.presence.known_of.Given as goal

-- what was found so far is so
abbrev pub invariant-loop-index : goal.invariant-loop-index
invariant-loop-index l = record {
  known : AreKnown l.bytes l.plan.rows l.known.items;
  cached : IsCached l.bytes l.plan.rows l.cached.switch l.cached.raw;
}
