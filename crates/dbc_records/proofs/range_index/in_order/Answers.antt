use Rattle.std.proofs.Common.{rules, sym, ap, ◌∙◌, List}
use Rattle.std.specs.List.{list_any}
use Rattle.std.proofs.lemmas.List.Sorted.{list_any-IsPermutation, IsNonDecreasingBy-from_sort_by_key}
use Rattle.dbc_records.specs.declared.mux_row.Range.{Range}
use Rattle.dbc_records.proofs.range_index.in_order.Goals as goal

pub returns-clause-firsts : goal.returns-clause-firsts
returns-clause-firsts c =
    IsNonDecreasingBy-from_sort_by_key (λ (range : Range). range.first) c.sort_by_key.new.self.items
    c.in_ok-sort_by_key.ensures.sorted (λ a r q k. search rules)

pub returns-clause-same : goal.returns-clause-same
returns-clause-same c = λ test.
    sym (list_any-IsPermutation test c.in_ok-ordered.ordered.items c.sort_by_key.new.self.items
    c.in_ok-sort_by_key.ensures.permutation)
    ∙ ap (λ (ranges : List Range). list_any test ranges) c.in_ok-ordered.ensures.items
