use Rattle.std.proofs.Common.{◌≡◌, ℕ, ◌+◌, ◌*◌, ◌≤◌, min, Bool, sym, ap, ◌∙◌}
use Rattle.can_bits.specs.declared.field.Field.{Field}
use Rattle.can_bits.specs.Bits.{has_position}
use Rattle.can_bits.specs.Steps.{passed_at}
use Rattle.can_bits.specs.Cells.{cell_at, marked_if, numbered}
use Rattle.can_bits.proofs.Tables.{covers, covers_all, has_position_is, numbered_within}
use Rattle.can_bits.proofs.table.Table.mark.Goals as goal

pub returns-clause-each : goal.returns-clause-each
returns-clause-each c = λ position within.
    let field : Field = c.args.field in
    let start : ℕ = passed_at field 0 in
    let top : ℕ = 8 * c.args.self.now.size in
    let end : c.min-end.result ≡ min (start + field.length) top = rw (
      ← c.passed-start.ensures,
      ← c.from.ensures,
      ← c.from-2.ensures,
    ) c.min-end.ensures in
    let no_further : start ≤ c.min-end.result → c.loop-passed.passed ≤ c.min-end.result =
    rw (← c.passed-start.ensures) c.loop-passed.auto.passed-end in
    let walked : covers start c.loop-passed.passed (numbered field.order position) ≡ has_position field position =
    covers_all start field.length top c.min-end.result c.loop-passed.passed (numbered field.order position)
    (numbered_within field.order position c.args.self.now.size within) end c.loop-passed-test.false no_further
    ∙ sym (has_position_is field position) in
    c.loop-passed.invariant.each position within ∙ ap (λ (has : Bool). marked_if has (cell_at c.args.self.now.cells.items position)
    c.args.index) walked
