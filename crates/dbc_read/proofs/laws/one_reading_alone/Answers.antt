use Rattle.dbc_read.proofs.Readable.OneReadings.{one_reading_alone}
use Rattle.dbc_read.proofs.laws.one_reading_alone.Goals as goal

pub returns : goal.returns
returns c = one_reading_alone
