use Rattle.std.proofs.Common.{sym, ap, ◌∙◌}
use Rattle.dbc_reader.specs.inner.Located.{located_database_at}
use Rattle.dbc_reader.proofs.Texts.LocatedReadings.{located_read, located_refused}
use Rattle.dbc_reader.proofs.located.read_with_starts.Goals as goal

pub returns-in-Ok : goal.returns-in-Ok
returns-in-Ok c = located_read c.args.text.now c.in-Ok.read _
    (sym (ap located_database_at c.new-at.ensures) ∙ c.in-Ok.ensures)

pub returns-in-Err : goal.returns-in-Err
returns-in-Err c = located_refused c.args.text.now _ c.in-Err.stopped c.fault_of.result c.new-at.ensures c.in-Err.ensures
    c.fault_of.ensures
