-- Marks: 32-bit hashes of names. Those of equal names are equal.
use Rattle.std.specs.Prelude.{ℕ, ◌+◌, ◌-◌, ◌*◌, ◌/◌, ◌%◌, ◌^◌, Bool, if◌then◌else◌, nat_le, List, [], ◌∷◌, length, drop}
use Rattle.std.specs.Int.{w64, from_le_bytes}
use Rattle.can_references.specs.Hashes.{hashed_bytes}

-- the hash after eight more bytes
unfoldable pub hashed_word : ℕ → List ℕ → ℕ
hashed_word hash word = ((hash + from_le_bytes w64 word) % 2 ^ 64 * 11400714819323198485) % 2 ^ 64

-- the hash after more bytes, eight at a time, except fewer than eight at their end
unfoldable pub hashed_words : ℕ → List ℕ → ℕ
hashed_words hash (a ∷ (b ∷ (c ∷ (d ∷ (e ∷ (f ∷ (g ∷ (h ∷ rest)))))))) =
    hashed_words (hashed_word hash (a ∷ (b ∷ (c ∷ (d ∷ (e ∷ (f ∷ (g ∷ (h ∷ []))))))))) rest
hashed_words hash bytes = hash

-- the hash of a name: of its bytes eight at a time, and then of the last eight, which run to its end
unfoldable pub hashed_name : List ℕ → ℕ
hashed_name name = if nat_le 8 (length name) then hashed_word (hashed_words 0 name) (drop (length name - 8) name)
    else (hashed_bytes 0 name * 11400714819323198485) % 2 ^ 64

unfoldable pub name_hash : List ℕ → ℕ
name_hash name = hashed_name name / 2 ^ 32

-- the mark of a signal of this name: 0 if signals are not marked
abbrev pub hash_of : Bool → List ℕ → ℕ
hash_of is_hashed name = if is_hashed then name_hash name else 0
