use Rattle.std.proofs.Common.{◌≡◌, ◌⊎◌, ◌∙◌, ap, subst}
use Rattle.dbc_records.specs.Databases.{IsDatabase}
use Rattle.dbc_records.specs.CanonicalText.{canonical_text}
use Rattle.dbc_reader.specs.Grammar as grammar
use Rattle.dbc_reader.specs.Pattern.{memory_fault}
use Rattle.dbc_reader.specs.Texts.{HasDatabase, HasFirstFault}
use Rattle.dbc_read.proofs.Reprinted.{printed_read, printed_faultless}
use Rattle.dbc_read.proofs.rereading.reread.Goals as goal

pub returns-in-Ok-clause-same : goal.returns-in-Ok-clause-same
returns-in-Ok-clause-same c =
    let has = subst (λ text. HasDatabase text c.in-Ok.again) (c.deref.ensures.value ∙ c.in_ok-text.ensures) c.in-Ok.ensures in
    printed_read c.args.database.now c.in-Ok.again has (subst IsDatabase c.database.view_is c.database.invariant)

pub returns-in-Ok-clause-bytes : goal.returns-in-Ok-clause-bytes
returns-in-Ok-clause-bytes c =
    let has = subst (λ text. HasDatabase text c.in-Ok.again) (c.deref.ensures.value ∙ c.in_ok-text.ensures) c.in-Ok.ensures in
    ap canonical_text (printed_read c.args.database.now c.in-Ok.again has (subst IsDatabase c.database.view_is
    c.database.invariant))

pub unreachable-requires : goal.unreachable-requires
unreachable-requires c =
    let found = subst (λ text. (c.in-Err.fault ≡ memory_fault) ⊎ HasFirstFault grammar.text text c.in-Err.fault)
    (c.deref.ensures.value ∙ c.in_ok-text.ensures) c.in-Err.ensures in
    printed_faultless c.args.database.now c.in-Err.fault found c.in_default.not-Memory (subst IsDatabase c.database.view_is
    c.database.invariant)
