-- Parts of bytes, one after the other: their count, each by its index, and one more.
use Rattle.std.proofs.Common.{◌≡◌, ℕ, ◌+◌, ◌<◌, ◌≤◌, List, [], ◌∷◌, ◌++◌, length, get_or, ap, arith, suc, zero, refl, length-append}
use Rattle.std.proofs.lemmas.Grind.{common_steps}
use Rattle.std.specs.Prelude.{Some, None, slice_get}
use Rattle.std.specs.List.{slice_range}
use Rattle.std.proofs.lemmas.List.Elements.{All-push}
use Rattle.dbc_values.specs.Pieces.{IsPiece}
use Rattle.dbc_values.specs.inner.Parts.{parts_from, ArePlaces, HoldPieces}

pub parts_count : (start : ℕ) (ends bytes : List ℕ) → length (parts_from start ends bytes) ≡ length ends
parts_count start [] bytes = refl
parts_count start (end ∷ ends) bytes = ap suc (parts_count end ends bytes)

-- no part ends after the last
pub starts_within : (start : ℕ) (ends : List ℕ) (total : ℕ) → ArePlaces start ends total → start ≤ total
starts_within start [] total are = omega (arith, are)
starts_within start (end ∷ ends) total are = omega (arith, are.0, starts_within end ends total are.1)

-- a part ends after its beginning
pub part_rises : (start : ℕ) (ends : List ℕ) (total index : ℕ) → ArePlaces start ends total → index < length ends
    → get_or (start ∷ ends) index 0 ≤ get_or ends index 0
part_rises start [] total index are few = absurd (omega (arith, few))
part_rises start (end ∷ ends) total zero are few = are.0
part_rises start (end ∷ ends) total (suc index) are few = part_rises end ends total index are.1 (omega (arith, few))

-- and within all bytes
pub part_within : (start : ℕ) (ends : List ℕ) (total index : ℕ) → ArePlaces start ends total → index < length ends
    → get_or ends index 0 ≤ total
part_within start [] total index are few = absurd (omega (arith, few))
part_within start (end ∷ ends) total zero are few = starts_within end ends total are.1
part_within start (end ∷ ends) total (suc index) are few = part_within end ends total index are.1 (omega (arith, few))

pub no_part : (start : ℕ) (ends bytes : List ℕ) (index : ℕ) → length ends ≤ index → slice_get (parts_from start ends bytes) index
    ≡ None
no_part start [] bytes index few = refl
no_part start (end ∷ ends) bytes zero few = absurd (omega (arith, few))
no_part start (end ∷ ends) bytes (suc index) few = no_part end ends bytes index (omega (arith, few))

pub part_is : (start : ℕ) (ends bytes : List ℕ) (index : ℕ) → index < length ends
    → slice_get (parts_from start ends bytes) index ≡ Some (slice_range bytes (get_or (start ∷ ends) index 0) (get_or ends index 0))
part_is start [] bytes index few = absurd (omega (arith, few))
part_is start (end ∷ ends) bytes zero few = refl
part_is start (end ∷ ends) bytes (suc index) few = part_is end ends bytes index (omega (arith, few))

-- a part that is within the bytes is the same of more bytes
same_part : (bytes more : List ℕ) (start end : ℕ) → start ≤ end → end ≤ length bytes
    → slice_range (bytes ++ more) start end ≡ slice_range bytes start end
same_part bytes more start end rises within = grind (arith, common_steps)

last_part : (bytes more : List ℕ) → slice_range (bytes ++ more) (length bytes) (length bytes + length more) ≡ more
last_part bytes more = grind (arith, common_steps)

pub one_more_part : (start : ℕ) (ends bytes more : List ℕ) → ArePlaces start ends (length bytes)
    → parts_from start (ends ++ (length bytes + length more) ∷ []) (bytes ++ more) ≡ parts_from start ends bytes ++ more ∷ []
one_more_part start [] bytes more are = rw are (ap (λ (part : List ℕ). part ∷ []) (last_part bytes more))
one_more_part start (end ∷ ends) bytes more are =
    let first = same_part bytes more start end are.0 (starts_within end ends (length bytes) are.1) in
    rw (first, one_more_part end ends bytes more are.1) refl

pub one_more_place : (start : ℕ) (ends : List ℕ) (total more : ℕ) → ArePlaces start ends total
    → ArePlaces start (ends ++ (total + more) ∷ []) (total + more)
one_more_place start [] total more are = (omega (arith, are), refl)
one_more_place start (end ∷ ends) total more are = (are.0, one_more_place end ends total more are.1)

-- one more token after those that are held
pub one_more_held : (ends bytes piece more_ends more_bytes : List ℕ) → HoldPieces ends bytes → IsPiece piece
    → more_bytes ≡ bytes ++ piece → more_ends ≡ ends ++ length more_bytes ∷ [] → HoldPieces more_ends more_bytes
one_more_held ends bytes piece more_ends more_bytes held is e k = rw (k, e, length-append bytes piece) (record {
  places = rw (length-append bytes piece) (one_more_place 0 ends (length bytes) (length piece) held.places);
  pieces = rw (one_more_part 0 ends bytes piece held.places) (All-push IsPiece _ _ held.pieces is);
})
