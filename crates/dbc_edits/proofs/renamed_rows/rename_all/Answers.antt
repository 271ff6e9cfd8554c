use Rattle.std.proofs.Common.{◌≡◌, ◌<◌, length, get_or, refl, sym, ap, ◌∙◌, arith}
use Rattle.std.specs.Prelude.{slice_set}
use Rattle.dbc_edits.proofs.renamed_rows.rename_all.Goals as goal
use Rattle.dbc_edits.proofs.renamed_rows.rename_all.Goals.{in-Some, in_default}
use Rattle.dbc_edits.proofs.Changing.{first_changed, as_many, next_is, one_set, one_kept, all_changed}

pub offset_bounds-as_slice-index : goal.offset_bounds-as_slice-index
offset_bounds-as_slice-index g c =
    let within : c.loop-index.index < length c.args.items.now = rw c.as_slice-count.ensures.value at c.loop-index-test.true in
    rw (
      c.as_slice.ensures.value,
      c.loop-index.invariant.items,
      as_many (g.R.Rename.renamed c.args.change.now) c.loop-index.index
          c.args.items.now,
    ) (omega (arith, within))

pub bounds-as_slice-index : goal.bounds-as_slice-index
bounds-as_slice-index g c =
    let within : c.loop-index.index < length c.args.items.now = rw c.as_slice-count.ensures.value at c.loop-index-test.true in
    rw (
      c.as_slice.ensures.value,
      c.loop-index.invariant.items,
      as_many (g.R.Rename.renamed c.args.change.now) c.loop-index.index
          c.args.items.now,
    ) within

pub set-requires-clause-index : goal.set-requires-clause-index
set-requires-clause-index g c =
    let within : c.loop-index.index < length c.args.items.now = rw c.as_slice-count.ensures.value at c.loop-index-test.true in
    rw (c.loop-index.invariant.items, as_many (g.R.Rename.renamed c.args.change.now) c.loop-index.index c.args.items.now) within

pub loop-index-preserved : goal.loop-index-preserved
loop-index-preserved g c =
    let f = g.R.Rename.renamed c.args.change.now in
    let index = c.loop-index.index in
    let items = c.args.items.now in
    let item = c.index-as_slice-index.result in
    let within : index < length items = rw c.as_slice-count.ensures.value at c.loop-index-test.true in
    let here : item ≡ get_or items index item =
    c.index-as_slice-index.is ∙ ap (λ xs. get_or xs index item) (c.as_slice.ensures.value ∙ c.loop-index.invariant.items)
    ∙ next_is f index items item in
    elim c.match-branch-2.branch [
      | in-Some w ↦
          let made : w.in-Some.other ≡ f item = rw w.in-Some.is at c.in_ok-other.ensures.new in
          record {
            items =
                w.items-is ∙ w.set.ensures.new ∙ ap (λ xs. slice_set xs index w.in-Some.other) c.loop-index.invariant.items
                ∙ ap (λ other. slice_set (first_changed f index items) index other) (made ∙ ap f here)
                ∙ one_set f index items item within;
            valid = rw w.items-is w.set.ensures.valid;
          }
      | in_default w ↦
          let same : item ≡ f item = rw w.in_default.is at c.in_ok-other.ensures.new in
          record {
            items = w.items-is ∙ c.loop-index.invariant.items ∙ one_kept f index items item within (sym here ∙ same ∙ ap f here);
            valid = rw w.items-is c.loop-index.invariant.valid;
          }
    ]

pub returns-clause-new : goal.returns-clause-new
returns-clause-new g c =
    let items = c.args.items.now in
    let all : c.loop-index.index ≡ length items = omega (
      arith,
      c.loop-index-test.false,
      c.loop-index.auto.index-end,
      ap length c.as_slice-count.ensures.value,
    ) in
    c.loop-index.invariant.items ∙ ap (λ count. first_changed (g.R.Rename.renamed c.args.change.now) count items) all
    ∙ all_changed (g.R.Rename.renamed c.args.change.now) items
