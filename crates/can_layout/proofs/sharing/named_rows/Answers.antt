use Rattle.std.proofs.Common.{sym, ◌∙◌}
use Rattle.can_layout.proofs.Shares.{none_named}
use Rattle.can_layout.proofs.sharing.named_rows.Goals as goal

pub returns-then-is_empty : goal.returns-then-is_empty
returns-then-is_empty c =
    none_named c.new.result.items c.args.numbers.now c.args.rows.now c.new.ensures.items
    (sym c.is_empty.ensures ∙ c.if-is_empty.true)
