use Rattle.std.proofs.Common.{◌≡◌, ◌++◌, map}
use Rattle.std.specs.VecDeque.Iter.{deque_iter_rest}
use Rattle.session_log.specs.Positions.{position_from}
use Rattle.session_log.specs.inner.Indexes.{numbers_in}
use Rattle.session_log.proofs.keyed_serials.Serials.positions.Given as goal

-- those of the serial numbers so far are there
abbrev pub invariant-loop-serial : goal.invariant-loop-serial
invariant-loop-serial l = l.positions.items ++ map (position_from l.first) (deque_iter_rest l.serial-iterator) ≡ map (position_from
    l.first)
    (numbers_in l.self)
