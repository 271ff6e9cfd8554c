use Rattle.dbc_read.proofs.Texts.Joined.{lines_join}
use Rattle.dbc_read.proofs.print_laws.lines_join.Goals as goal

pub returns : goal.returns
returns c = lines_join
