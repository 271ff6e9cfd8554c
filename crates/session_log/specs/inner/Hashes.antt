-- How the index of a log is hashed.
-- Source: J.-P. Aumasson and D. J. Bernstein, "SipHash: a fast short-input PRF".
use Rattle.std.specs.Hash.DefaultHasher.{initial}
use Rattle.std.specs.declared.hash.DefaultHasher.{DefaultHasher}
use Rattle.std.specs.RandomState.{initial_hasher}
use Rattle.session_log.specs.declared.log_hash.LogHash.{LogHash}
use Rattle.session_log.specs.declared.log_hash.LogHash.TheVariants.{Fixed, Keyed}

-- the hasher of a key before its first byte
abbrev pub initial_hasher_of : LogHash → DefaultHasher
initial_hasher_of Fixed = initial
initial_hasher_of (Keyed keys) = initial_hasher keys
