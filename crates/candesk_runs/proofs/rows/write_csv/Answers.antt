use Rattle.std.proofs.Common.{refl, inl, subst}
use Rattle.byte_devices.specs.Device.{Wrote, Broke}
use Rattle.candesk_runs.proofs.FromText.{after_header}
use Rattle.candesk_runs.proofs.rows.write_csv.Goals as goal

pub returns-in-Ok : goal.returns-in-Ok
returns-in-Ok g c =
    after_header _ _ _ _ _ _ c.stream_rows.result (subst (Wrote _ _) c.header.ensures c.in-Ok.ensures) c.stream_rows.ensures

pub returns-in-Err : goal.returns-in-Err
returns-in-Err g c =
    inl (record { fault_is = refl; unread = refl; broke = subst (Broke _ _) c.header.ensures c.in-Err.ensures })
