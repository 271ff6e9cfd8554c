use Rattle.std.proofs.Common.{◌≡◌, [], map}
use Rattle.session_log.specs.Logs.{bytes_of}
use Rattle.session_log.specs.inner.Indexes.{numbers_in, serials_of}
use Rattle.session_log.proofs.Reached.{found_by_key}
use Rattle.session_log.proofs.log.Log.positions_of.Goals as goal

pub returns-in-Some : goal.returns-in-Some
returns-in-Some c =
    let first = c.self.inside.first in
    let found = found_by_key first (map bytes_of c.self.inside.lines.items) c.self.inside.index c.args.number
    c.self.invariant.indexed in
    let under : numbers_in c.in-Some.serials.now ≡ serials_of c.args.number c.self.inside.index = c.in-Some.ensures in
    rw (← c.self.view_is, ← found, ← under) c.positions.ensures

pub returns-in-None : goal.returns-in-None
returns-in-None c =
    let first = c.self.inside.first in
    let found = found_by_key first (map bytes_of c.self.inside.lines.items) c.self.inside.index c.args.number
    c.self.invariant.indexed in
    let under : [] ≡ serials_of c.args.number c.self.inside.index = c.in-None.ensures in
    rw (← c.self.view_is, ← found, ← under) c.new.ensures.items
