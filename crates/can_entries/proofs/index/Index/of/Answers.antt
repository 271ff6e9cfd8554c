use Rattle.std.proofs.Common.{Bool, List, ap, ◌∙◌, rules}
use Rattle.std.specs.Ordering.{is_lt}
use Rattle.std.specs.Cmp.{IsStrictWeakOrder}
use Rattle.std.proofs.lemmas.List.MinMax.{ranks_by}
use Rattle.std.proofs.lemmas.List.Sorted.{All-permutation}
use Rattle.can_entries.specs.declared.index.Entry.{Entry}
use Rattle.can_entries.specs.Rows.{first_row}
use Rattle.can_entries.specs.Indexes.{key_order, key_of, has_own_hash}
use Rattle.can_entries.proofs.IndexedRows.{key_order-total, first-stable, sorted_by, stable_by}
use Rattle.can_entries.proofs.index.Index.of.Goals as goal

pub invariant_of-result : goal.invariant_of-result
invariant_of-result g c =
    let before : List (Entry g.row.R.Denot) = c.in_ok-entries.entries.items in
    let after : List (Entry g.row.R.Denot) = c.sort_by.new.self.items in
    let is_before : Entry g.row.R.Denot → Entry g.row.R.Denot → Bool =
    λ a b. is_lt (key_order (key_of g.R.Keyed.signal_of a) (key_of g.R.Keyed.signal_of b)) in
    let weak : IsStrictWeakOrder is_before = ranks_by key_order-total (key_of g.R.Keyed.signal_of) in
    record {
      own_hashes = All-permutation (has_own_hash g.R.Keyed.number_of g.R.Keyed.signal_of) before after
          c.sort_by.ensures.permutation c.in_ok-entries.ensures.hashes;
      in_order = sorted_by is_before weak after c.in_ok-sort_by.ensures.sorted (λ a r q k. search rules);
      first_rows = λ number name.
          first-stable g.R.Keyed.number_of g.R.Keyed.signal_of number name before after c.in_ok-entries.ensures.hashes
          c.sort_by.ensures.permutation (stable_by is_before weak before after c.sort_by.ensures.stable (λ a r q k. search rules))
          ∙ ap (first_row g.R.Keyed.number_of g.R.Keyed.signal_of number name) c.in_ok-entries.ensures.rows;
    }
