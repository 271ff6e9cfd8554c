use Rattle.std.proofs.Common.{◌≤◌, not, ◌&&◌, length, false, List, ap, ◌∙◌, arith}
use Rattle.std.specs.List.{list_any}
use Rattle.std.proofs.lemmas.List.{take_all}
use Rattle.dbc_records.specs.declared.byte_order.ByteOrder.TheVariants as orders
use Rattle.can_bits.specs.declared.field.Field.{Field}
use Rattle.can_bits.specs.Bits.{has_position}
use Rattle.can_overlap.specs.inner.Occupancy.{is_marked}
use Rattle.can_overlap.proofs.Cleared.{none_left}
use Rattle.can_overlap.proofs.table.clear_all.Goals as goal

pub returns : goal.returns
returns c = λ position index.
    let all : length c.args.fields.now ≤ c.loop-field.field-index = omega arith in
    let nowhere : Field = record { start = 0; length = 0; order = orders.Motorola } in
    c.loop-field.invariant position index
    ∙ ap (λ (fields : List Field). is_marked c.args.rows.now position index && not (list_any (λ field. has_position field position)
    fields)) (take_all c.loop-field.field-index c.args.fields.now all)
    ∙ none_left c.args.fields.now c.args.rows.now nowhere c.requires.marked position index
