use Rattle.std.proofs.Common.{Some, cond, ap, sym, ◌∙◌}
use Rattle.dbc_records.specs.Records.{ValueRow}
use Rattle.can_references.specs.inner.ManyRows.{kept_at}
use Rattle.can_references.proofs.KeptRows.{key_is, kept_added}
use Rattle.can_references.proofs.many_rows.keep_row.Goals as goal

pub returns : goal.returns
returns c =
    kept_added c.args.row.now (c.row.inside.number, c.as_bytes.result) c.args.by_key.now c.insert.new.self
    (ap (λ (row : ValueRow). row.number) c.row.view_is)
    (c.as_bytes.ensures.value ∙ ap (λ (row : ValueRow). row.signal) c.row.view_is)
    (sym c.contains_key.ensures ∙ c.if-contains_key.false)
    (λ other. c.in_ok-insert.ensures.updates.0 other
    ∙ ap (λ (row : ValueRow). cond (key_is other.0 other.1.now (c.row.inside.number, c.as_bytes.result)) (Some row)
    (kept_at other.0 other.1.now c.args.by_key.now)) c.in_ok-values.ensures)
