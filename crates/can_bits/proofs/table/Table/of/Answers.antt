use Rattle.std.proofs.Common.{◌≡◌, ℕ, ◌*◌, List, take, length, sym, subst, ◌∙◌, arith, take_all}
use Rattle.std.specs.List.{enumerate_from}
use Rattle.std.proofs.lemmas.List.FromFn.{length-enumerate_from}
use Rattle.can_bits.specs.declared.field.Field.{Field}
use Rattle.can_bits.specs.Cells.{IsTable}
use Rattle.can_bits.proofs.Marks.{more_placed, marked_table}
use Rattle.can_bits.proofs.table.Table.of.Goals as goal

pub loop-index-preserved : goal.loop-index-preserved
loop-index-preserved c =
    let fields : List Field = c.args.fields.now in
    let index : ℕ = c.loop-index.index in
    let size : c.mark.new.self.size ≡ c.args.size = c.mark.ensures.size ∙ c.loop-index.invariant.size in
    let count : length c.mark.new.self.cells.items ≡ 8 * c.args.size = omega (
      arith,
      c.mark.new.self.covers_bytes,
      c.mark.new.self.cells.ok.0,
      size,
    ) in
    let marked = marked_table c.args.size (take index (enumerate_from 0 fields)) index _ c.loop-index.table.cells.items
    c.mark.new.self.cells.items c.loop-index.invariant.marked count
    (λ position within. c.mark.ensures.each position (rw c.loop-index.invariant.size within)) in
    record {
      size = size;
      marked = subst (λ (placed : List (ℕ × Field)). IsTable c.args.size placed c.mark.new.self.cells.items)
          (sym (more_placed fields index _ c.loop-index-test.true)) marked;
    }

pub returns : goal.returns
returns c =
    let fields : List Field = c.args.fields.now in
    subst (λ (placed : List (ℕ × Field)). IsTable c.args.size placed c.loop-index.table.cells.items)
    (take_all c.loop-index.index (enumerate_from 0 fields) (omega (arith, c.loop-index-test.false, length-enumerate_from 0 fields)))
    c.loop-index.invariant.marked
