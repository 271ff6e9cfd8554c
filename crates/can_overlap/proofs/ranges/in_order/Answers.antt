use Rattle.std.proofs.Common.{rules, ◌≤◌, List, sym, ◌∙◌}
use Rattle.std.proofs.lemmas.List.Sorted.{All-permutation, list_any-IsPermutation, IsNonDecreasingBy-from_sort_by_key}
use Rattle.dbc_records.specs.declared.mux_row.Range.{Range}
use Rattle.can_overlap.proofs.Ordered.{in_order}
use Rattle.can_overlap.proofs.ranges.in_order.Goals as goal

pub returns : goal.returns
returns c =
    let before : List Range = c.in_ok-ordered.ordered.items in
    let after : List Range = c.sort_by_key.new.self.items in
    record {
      order = in_order after
          (All-permutation (λ x. x.first ≤ x.last) before after c.in_ok-sort_by_key.ensures.permutation
          c.in_ok-ordered.ensures.hold)
          (IsNonDecreasingBy-from_sort_by_key (λ x. x.first) after c.in_ok-sort_by_key.ensures.sorted (λ a r q k. search rules));
      same = λ test none.
          sym (list_any-IsPermutation test before after c.in_ok-sort_by_key.ensures.permutation)
          ∙ c.in_ok-ordered.ensures.same test none;
    }
