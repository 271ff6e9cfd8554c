use Rattle.std.proofs.Common.{map, take, get_or}
use Rattle.std.proofs.lemmas.List.{take_more}
use Rattle.session_log.specs.Logs.{bytes_of}
use Rattle.session_log.proofs.Covered.{covers_none, covers_more}
use Rattle.session_log.proofs.log.Log.touched.Goals as goal

pub loop-at-init : goal.loop-at-init
loop-at-init c = rw c.new-positions.ensures.items (covers_none (map bytes_of c.args.self.now))

pub loop-at-preserved : goal.loop-at-preserved
loop-at-preserved c =
    let numbers = c.args.numbers.now in
    rw (
      take_more numbers c.loop-at.at 0 c.loop-at-test.true,
      c.in_ok-add_positions.ensures,
      c.as_slice.ensures.value,
      c.in_ok-found.ensures,
    )
    (covers_more (take c.loop-at.at numbers) (get_or numbers c.loop-at.at 0) (map bytes_of c.args.self.now)
    c.loop-at.positions.items
    c.loop-at.invariant)
