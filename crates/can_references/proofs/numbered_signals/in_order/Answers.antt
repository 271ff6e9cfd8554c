use Rattle.std.proofs.Common.{List, ℕ, false, map, subst, rules}
use Rattle.std.specs.List.Sorted.{IsPermutation}
use Rattle.std.proofs.lemmas.List.Sorted.{IsNonDecreasingBy-from_sort_by_key, IsPermutation-map, All-permutation}
use Rattle.can_references.specs.inner.SignalRuns.{message_number, signal_of, HasHash}
use Rattle.can_references.proofs.numbered_signals.in_order.Goals as goal

pub returns-clause-permutation : goal.returns-clause-permutation
returns-clause-permutation c =
    let moved = c.sort_unstable_by_key.ensures.permutation in
    subst (λ (l : List (ℕ × List ℕ)). IsPermutation l (map signal_of c.sort_unstable_by_key.new.self.items))
    c.in_ok-ordered.ensures.signals (IsPermutation-map signal_of _ _ moved)

pub returns-clause-ordered : goal.returns-clause-ordered
returns-clause-ordered c =
    IsNonDecreasingBy-from_sort_by_key message_number _ c.sort_unstable_by_key.ensures.sorted (λ a r q k. search rules)

pub returns-clause-hashes : goal.returns-clause-hashes
returns-clause-hashes c =
    All-permutation (HasHash false) _ _ c.sort_unstable_by_key.ensures.permutation
    c.in_ok-ordered.ensures.hashes
