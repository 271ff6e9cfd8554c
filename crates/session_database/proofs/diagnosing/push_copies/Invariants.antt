use Rattle.std.proofs.Common.{◌≡◌, ◌++◌, take}
use Rattle.session_database.proofs.diagnosing.push_copies.Given as goal

-- the copies so far are there
abbrev pub invariant-loop-one : goal.invariant-loop-one
invariant-loop-one l = l.found.items ≡ l.initial.found.items ++ take l.one-index l.copied
