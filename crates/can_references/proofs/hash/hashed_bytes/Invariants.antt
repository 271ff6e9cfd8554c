use Rattle.std.proofs.Common.{◌≡◌, take}
use Rattle.can_references.specs.Hashes.{hashed_bytes}
use Rattle.can_references.proofs.hash.hashed_bytes.Given as goal

abbrev pub invariant-loop-byte : goal.invariant-loop-byte
invariant-loop-byte l = l.hashed ≡ hashed_bytes l.hash (take l.byte-index l.bytes)
