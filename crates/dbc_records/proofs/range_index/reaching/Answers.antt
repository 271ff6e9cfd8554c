use Rattle.std.proofs.Common.{ℕ, ◌∷◌, [], ◌++◌, List, take, get_or, max, sym, ap, ◌∙◌}
use Rattle.std.proofs.lemmas.List.{take_more}
use Rattle.dbc_records.specs.declared.mux_row.Range.{Range}
use Rattle.dbc_records.specs.inner.RangeIndexes.{reaching}
use Rattle.dbc_records.proofs.Reaching.{most_of, most_of-push, reaching-push}
use Rattle.dbc_records.proofs.range_index.reaching.Goals as goal

pub loop-range-preserved : goal.loop-range-preserved
loop-range-preserved c =
    let d : Range = record { first = 0; last = 0 } in
    let more = take_more c.args.ordered.now c.loop-range.range-index d c.loop-range-test.true in
    let so_far : List Range = take c.loop-range.range-index c.args.ordered.now in
    record {
      index =
          c.in_ok-push.ensures.items
          ∙ ap (λ (index : List Range). index ++ record {
            first = (get_or c.args.ordered.now c.loop-range.range-index d).first;
            last = c.greater-most.result;
          } ∷ []) c.loop-range.invariant.index
          ∙ ap (λ (last : ℕ). reaching 0 so_far ++ record {
            first = (get_or c.args.ordered.now c.loop-range.range-index d).first;
            last = last;
          } ∷ []) (c.greater-most.ensures ∙ ap (λ (most : ℕ). max most
          (get_or c.args.ordered.now c.loop-range.range-index d).last) c.loop-range.invariant.most)
          ∙ sym (reaching-push 0 so_far (get_or c.args.ordered.now c.loop-range.range-index d))
          ∙ ap (λ (ranges : List Range). reaching 0 ranges) (sym more);
      most =
          c.greater-most.ensures
          ∙ ap (λ (most : ℕ). max most (get_or c.args.ordered.now c.loop-range.range-index d).last) c.loop-range.invariant.most
          ∙ sym (most_of-push 0 so_far (get_or c.args.ordered.now c.loop-range.range-index d))
          ∙ ap (λ (ranges : List Range). most_of 0 ranges) (sym more);
    }
