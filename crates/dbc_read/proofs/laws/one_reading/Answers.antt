use Rattle.dbc_read.proofs.Readable.OneReadings.{one_reading}
use Rattle.dbc_read.proofs.laws.one_reading.Goals as goal

pub returns : goal.returns
returns c = one_reading
