use Rattle.std.proofs.Common.{◌≡◌, take}
use Rattle.can_entries.specs.inner.Hashes.{name_hash}
use Rattle.can_entries.proofs.index.name_hash.Given as goal

-- the number of the bytes so far
abbrev pub invariant-loop-byte : goal.invariant-loop-byte
invariant-loop-byte l = l.hash ≡ name_hash (take l.byte-index l.name)
