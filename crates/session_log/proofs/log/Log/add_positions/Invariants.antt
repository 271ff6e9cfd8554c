use Rattle.std.proofs.Common.{◌≡◌, ◌++◌, map, filter, drop}
use Rattle.session_log.specs.Logs.{bytes_of}
use Rattle.session_log.specs.inner.Indexes.{is_untouched_at}
use Rattle.session_log.proofs.log.Log.add_positions.Given as goal

-- those of the indexes so far are there
abbrev pub invariant-loop-position : goal.invariant-loop-position
invariant-loop-position l =
    let passes = is_untouched_at l.earlier (map bytes_of l.self) in
    l.positions.items ++ filter passes (drop l.position-index l.found) ≡ l.initial.positions.items ++ filter passes l.found
