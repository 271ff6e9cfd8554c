use Rattle.std.proofs.Common.{map, take}
use Rattle.session_log.specs.Logs.{bytes_of}
use Rattle.session_log.specs.inner.Indexes.{Covers}
use Rattle.session_log.proofs.log.Log.touched.Given as goal

-- those of the lines that the CAN identifiers so far touch are there
abbrev pub invariant-loop-at : goal.invariant-loop-at
invariant-loop-at l = Covers (take l.at l.numbers) (map bytes_of l.self) l.positions.items
