use Rattle.std.proofs.Common.{ap, ◌-◌, length, take, drop}
use Rattle.std.specs.List.{flat_map}
use Rattle.dbc_records.specs.Layout.{layout_text}
use Rattle.byte_devices.proofs.Outs.{Took-nil, Sends-as}
use Rattle.dbc_model.proofs.Layouts.{separated-none, separated-some, Sends-then, Sends-broke}
use Rattle.dbc_model.proofs.printing.style.send_separated.Goals as goal

pub returns-in-empty : goal.returns-in-empty
returns-in-empty g c =
    rw (separated-none g.F.Style.layout g.S.Style.layout c.args.items.now c.in-empty.len_below) (Took-nil _ _)

pub returns-in_ok-send_item-in-len1-up : goal.returns-in_ok-send_item-in-len1-up
returns-in_ok-send_item-in-len1-up g c =
    Sends-as _ _ _ _ _ _ (ap layout_text (separated-some g.F.Style.layout g.S.Style.layout c.args.items.now c.first-item.result _
    c.in-len1-up.len_at_least c.first-item.is))
    (Sends-then _ _ _ _ _ _ _ c.in_ok-send_item-in-len1-up.ensures c.send_items.ensures)

pub returns-in_err-send_item-in-len1-up : goal.returns-in_err-send_item-in-len1-up
returns-in_err-send_item-in-len1-up g c =
    let further = take (length c.args.items.now - 1) (drop 1 c.args.items.now) in
    Sends-as _ _ _ _ _ _ (ap layout_text (separated-some g.F.Style.layout g.S.Style.layout c.args.items.now c.first-item.result _
    c.in-len1-up.len_at_least c.first-item.is))
    (Sends-broke _ _ _ _ (g.F.Style.layout c.first-item.result) (flat_map g.S.Style.layout further) c.from_residual.ensures.0
    c.in_err-send_item-in-len1-up.ensures)
