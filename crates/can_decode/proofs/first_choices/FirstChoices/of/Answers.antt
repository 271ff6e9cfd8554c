use Rattle.std.proofs.Common.{false, rules}
use Rattle.std.proofs.lemmas.List.Sorted.{answers_always, IsNonDecreasingBy-from_sort_by_key}
use Rattle.can_decode.specs.inner.FirstChoices.{key_of}
use Rattle.can_decode.proofs.FirstChoices.{first_choice-stable}
use Rattle.can_decode.proofs.first_choices.FirstChoices.of.Goals as goal

pub invariant_of-result : goal.invariant_of-result
invariant_of-result c =
    IsNonDecreasingBy-from_sort_by_key key_of _ c.in_ok-sort_by_key.ensures.sorted (λ a r q k. search rules)

pub returns : goal.returns
returns c = λ key. first_choice-stable key (record { index = 0; group = false }) c.args.entries.items
    c.sort_by_key.new.self.items
    (c.sort_by_key.ensures.stable key_of (answers_always _ _ _ (λ f a r g h. search rules)))
