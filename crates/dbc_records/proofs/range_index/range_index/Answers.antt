use Rattle.std.proofs.Common.{◌≡◌, List, subst, sym, ap, ◌∙◌}
use Rattle.dbc_records.specs.declared.mux_row.Range.{Range}
use Rattle.dbc_records.specs.Ranges.{in_range}
use Rattle.dbc_records.specs.inner.RangeIndexes.{reaching, IsRangeIndex}
use Rattle.dbc_records.proofs.Reaching.{firsts_rise, lasts_rise, same_numbers}
use Rattle.dbc_records.proofs.range_index.range_index.Goals as goal

pub returns : goal.returns
returns c =
    let ordered : List Range = c.in_ok-ordered.ordered.items in
    let is : c.in_ok-index.index.items ≡ reaching 0 ordered =
    c.in_ok-index.ensures ∙ ap (λ (ranges : List Range). reaching 0 ranges) c.as_slice.ensures.value in
    subst (λ (index : List Range). IsRangeIndex index c.args.ranges.now) (sym is) (record {
      firsts = firsts_rise ordered c.in_ok-ordered.ensures.firsts;
      lasts = lasts_rise ordered;
      same = λ raw. same_numbers ordered c.in_ok-ordered.ensures.firsts raw ∙ c.in_ok-ordered.ensures.same (in_range raw);
    })
