use Rattle.can_references.specs.RowFaults.{row_faults}
use Rattle.session_database.proofs.OwnParts.{own_there}
use Rattle.session_database.proofs.shown.CompiledDatabase.own_parts.Goals as goal

pub returns : goal.returns
returns c =
    let database = c.args.self.now in
    let there = own_there database database.messages (row_faults database) in
    let law = c.faults_in_order.ensures.all database in cc
