use Rattle.std.proofs.Common.{ℕ, List, refl, sym, subst}
use Rattle.dbc_faults.specs.Headlines.{BeginsSo}
use Rattle.candesk_runs.proofs.FromText.{report_begins, no_report}
use Rattle.candesk_runs.proofs.explaining.explain_fault.Goals as goal

pub returns-in-Ok : goal.returns-in-Ok
returns-in-Ok g c = (
  refl,
  c.as_slice.result.now,
  subst (λ (words : List ℕ). BeginsSo c.args.fault words) (sym c.as_slice.ensures.value) (report_begins c.args.text.now
      c.args.fault c.in-Ok-Some.field-0 c.in-Ok-Some.report c.in-Ok-Some.field-0-is c.requires c.in-Ok-Some.ensures.location
      c.in-Ok-Some.ensures.words),
  c.in-Ok.ensures,
)

pub returns-in-Ok-Some : goal.returns-in-Ok-Some
returns-in-Ok-Some g c = (
  c.as_slice.result.now,
  subst (λ (words : List ℕ). BeginsSo c.args.fault words) (sym c.as_slice.ensures.value) (report_begins c.args.text.now
      c.args.fault c.in-Ok-Some.field-0 c.in-Ok-Some.report c.in-Ok-Some.field-0-is c.requires c.in-Ok-Some.ensures.location
      c.in-Ok-Some.ensures.words),
  c.in-Err-put_all.ensures,
)

pub unreachable-requires : goal.unreachable-requires
unreachable-requires g c =
    no_report c.args.text.now c.args.fault c.in-Ok-None.field-0 c.in-Ok-None.field-0-is c.requires c.in-Ok-None.ensures.location
