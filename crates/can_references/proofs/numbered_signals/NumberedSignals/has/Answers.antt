use Rattle.std.proofs.Common.{ap, subst, sym, ◌∙◌}
use Rattle.std.specs.List.{All, list_any}
use Rattle.can_references.specs.SignalNames.{same_signal}
use Rattle.can_references.specs.inner.SignalRuns.{is_signal, signal_of, HasHash}
use Rattle.can_references.proofs.Runs.{any_map}
use Rattle.can_references.proofs.numbered_signals.NumberedSignals.has.Goals as goal

pub returns : goal.returns
returns c =
    c.starts_with_signal.ensures ∙ c.from_number-signals.ensures.all c.args.key.1.now
    ∙ ap (list_any (is_signal c.args.key.0 c.args.key.1.now)) c.as_slice.ensures.value
    ∙ any_map (same_signal (c.args.key.0, c.args.key.1.now)) signal_of c.self.inside.signals.items
    ∙ ap (list_any (same_signal (c.args.key.0, c.args.key.1.now))) c.self.view_is

pub starts_with_signal-requires-clause-hashes : goal.starts_with_signal-requires-clause-hashes
starts_with_signal-requires-clause-hashes c =
    c.from_number-signals.ensures.hashes c.self.inside.is_hashed
    (subst (All (HasHash c.self.inside.is_hashed)) (sym c.as_slice.ensures.value) c.self.invariant.hashes)
