use Rattle.std.proofs.Common.{List, ℕ, true, map, sym, subst, ap, ◌∙◌}
use Rattle.std.specs.List.Sorted.{IsPermutation}
use Rattle.can_references.specs.SignalNames.{named_signal}
use Rattle.can_references.specs.inner.SignalRuns.{signal_of, DifferAfter, AreSearchable}
use Rattle.can_references.proofs.NameHashes.{same_signals, written, hashed_searchable}
use Rattle.can_references.proofs.numbered_signals.NumberedSignals.of.Goals as goal

pub invariant_of-result-2 : goal.invariant_of-result-2
invariant_of-result-2 c =
    subst (AreSearchable true) (written c.in_ok-signals.signals.items c.as_mut_slice.result.now c.hash_all.new.signals _
    c.hash_all.ensures c.as_mut_slice.ensures.value c.as_mut_slice.ensures.len)
    (hashed_searchable c.in_ok-signals.signals.items c.in_ok-signals.ensures.ordered
    (subst (DifferAfter 32) c.as_slice-2.ensures.value (c.differ_after-2.ensures.0 c.if-not-differ_after.false)))

pub returns : goal.returns
returns c =
    subst (λ (l : List (ℕ × List ℕ)). IsPermutation (map named_signal c.args.signals.now) l)
    (sym (same_signals c.in_ok-signals.signals.items) ∙ ap (map signal_of) (written c.in_ok-signals.signals.items
    c.as_mut_slice.result.now c.hash_all.new.signals _ c.hash_all.ensures c.as_mut_slice.ensures.value
    c.as_mut_slice.ensures.len))
    c.in_ok-signals.ensures.permutation
