-- Numbers of keys, by which most keys differ: those of equal keys are equal.
use Rattle.std.specs.Prelude.{ℕ, ◌+◌, ◌*◌, ◌%◌, ◌^◌, List}
use Rattle.std.specs.List.{fold}

-- the number of a name after one more byte
unfoldable pub hashed_byte : ℕ → ℕ → ℕ
hashed_byte hash byte = ((hash * 2654435761) % 2 ^ 32 + byte) % 2 ^ 32

unfoldable pub name_hash : List ℕ → ℕ
name_hash name = fold hashed_byte 0 name

-- keys with a lower message ID have a lower number
abbrev pub key_hash : ℕ → List ℕ → ℕ
key_hash number name = number * 4294967296 + name_hash name
