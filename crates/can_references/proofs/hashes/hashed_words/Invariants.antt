use Rattle.std.proofs.Common.{◌≡◌, length}
use Rattle.can_references.specs.inner.SignalHashes.{hashed_words}
use Rattle.can_references.proofs.hashes.hashed_words.Given as goal

-- the hash so far and the bytes that are left make the hash of all
abbrev pub invariant-words : goal.invariant-words
invariant-words l = hashed_words l.hash l.rest ≡ hashed_words 0 l.bytes

abbrev pub decreases-words : goal.decreases-words
decreases-words l = length l.rest
