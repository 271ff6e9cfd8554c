use Rattle.std.proofs.Common.{ap, ◌∙◌}
use Rattle.std.specs.List.{list_any}
use Rattle.can_references.specs.SignalNames.{same_signal, named_signal}
use Rattle.can_references.proofs.HashedKeys.{any_alike, signals_alike}
use Rattle.can_references.proofs.hashed_signals.HashedSignals.has.Goals as goal

pub returns : goal.returns
returns c =
    c.has.ensures
    ∙ any_alike _ _ (same_signal (c.args.key.0, c.args.key.1.now)) (λ hashed. named_signal hashed.key)
    (λ x is. signals_alike _ _ _ _ _ (x.key.0, x.key.1.now) x.hash c.hashed.ensures.hash c.hashed.ensures.number
    c.hashed.ensures.name is)
    c.self.inside.keys c.self.invariant ∙ ap (list_any (same_signal (c.args.key.0, c.args.key.1.now))) c.self.view_is
