use Rattle.dbc_reader.proofs.Texts.Readings.{database_refused}
use Rattle.dbc_reader.proofs.reader.read.Goals as goal

pub returns-in-Err : goal.returns-in-Err
returns-in-Err c = database_refused c.args.text.now _ c.in-Err.stopped c.fault_of.result c.new-at.ensures c.in-Err.ensures
    c.fault_of.ensures
