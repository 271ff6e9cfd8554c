use Rattle.std.proofs.Common.{List, ◌∷◌, sym, ap, ◌∙◌}
use Rattle.dbc_ranges.specs.Ranges.{Item, item_of, items_left, described_value}
use Rattle.dbc_ranges.proofs.Skipped.{value_after_same, value_after_other}
use Rattle.dbc_ranges.proofs.items.Items.described_value.Goals as goal

pub items-preserved-then-is : goal.items-preserved-then-is
items-preserved-then-is c =
    sym (value_after_same _ c.items.before (item_of c.in-Some.item) (item_of c.in_ok-take.field-0)
    (items_left c.take-in-Some.new.self) (sym c.is.ensures ∙ c.if-is.true) c.if-before-eq0.false)
    ∙ ap (described_value _ c.items.before) (sym (c.in-Some.ensures
    ∙ ap (λ (rest : List Item). item_of c.in-Some.item ∷ rest) c.in_ok-take.ensures))
    ∙ c.items.invariant

pub items-preserved : goal.items-preserved
items-preserved c =
    sym (value_after_other _ c.items.before (item_of c.in-Some.item) (item_of c.in_ok-take.field-0)
    (items_left c.take-in-Some.new.self) (sym c.is.ensures ∙ c.if-is.false))
    ∙ ap (described_value _ c.items.before) (sym (c.in-Some.ensures
    ∙ ap (λ (rest : List Item). item_of c.in-Some.item ∷ rest) c.in_ok-take.ensures))
    ∙ c.items.invariant
