-- The names of the first raw values.
use Rattle.std.proofs.Common.{◌≡◌, ℕ, true, nat_lt, get_or, Result, Ok, Err, ◌+◌, ◌^◌, ◌<◌, List, [], ◌∷◌, ◌++◌, Option, map}
use Rattle.std.proofs.Common.{length, sym, ap, ◌∙◌, arith}
use Rattle.std.specs.Prelude.{ℤ, pos, unsigned_abs}
use Rattle.std.specs.Int.{w64, w128, FitsUnsigned}
use Rattle.std.specs.Result.{OkIff}
use Rattle.std.proofs.lemmas.Int.{ints, to_z-of_z}
use mir.Val.{to_z, of_z}
use Rattle.std.specs.List.{range_with_len}
use Rattle.std.proofs.lemmas.List.FromFn.{map-range_with_len_more, get_or-map-range_with_len}
use Rattle.dbc_records.specs.Records.{Entry}
use Rattle.can_layout.specs.Decoders.{name_of, AreNames}

-- one more name, found by a 128-bit number
pub more_names : (entries : List Entry) (before after : List (Option (List ℕ))) (raw : ℕ) (value : ℤ) (name : Option (List ℕ))
    → raw < 2 ^ 8 → after ≡ before ++ name ∷ []
    → name ≡ name_of (to_z w128 (of_z w128 value)) entries → value ≡ pos raw
    → before ≡ map (λ raw. name_of (pos raw) entries) (range_with_len 0 raw) → after ≡ map (λ raw. name_of (pos raw) entries)
    (range_with_len 0 (raw + 1))
more_names entries before after raw value name small pushed is at so_far =
    let names : ℕ → Option (List ℕ) = λ raw. name_of (pos raw) entries in
    let kept : to_z w128 (of_z w128 value) ≡ pos raw = ap (λ (z : ℤ). to_z w128 (of_z w128 z)) at
    ∙ to_z-of_z w128 (pos raw) (omega (arith, ints, small)) in
    pushed
    ∙ ap (λ (one : Option (List ℕ)). before ++ one ∷ []) (is ∙ ap (λ (z : ℤ). name_of z entries) kept)
    ∙ ap (λ (all : List (Option (List ℕ))). all ++ names raw ∷ []) so_far
    ∙ sym (map-range_with_len_more names 0 raw raw (omega arith))

-- the raw value that is found among those from 0 on
index_is : {E : Type 0} (found : Result ℕ E) (index : ℕ) (raw : ℤ) → OkIff found (FitsUnsigned w64 raw) (unsigned_abs raw)
    → found ≡ Ok index → raw ≡ pos index
index_is (Ok other) index raw (fits, is) same =
    let at : other ≡ index = cc in
    omega (arith, ints, fits.0, is, at)
index_is (Err e) index raw wrong same = absurd (let no : Err e ≡ Ok index = same in cc)

-- a name that is found among them
pub found_name : {E : Type 0} (entries : List Entry) (names : List (Option (List ℕ))) (raw : ℤ) (found : Result ℕ E) (index : ℕ)
    (name : Option (List ℕ)) → AreNames entries names
    → OkIff found (FitsUnsigned w64 raw) (unsigned_abs raw) → found ≡ Ok index → true ≡ nat_lt index (length names)
    → name ≡ get_or names index name → name ≡ name_of raw entries
found_name entries names raw found index name are number same within is =
    let at : raw ≡ pos index = index_is found index raw number same in
    let few : index < length names = grind (arith, within) in
    let all : ℕ → Option (List ℕ) = λ raw. name_of (pos raw) entries in
    is
    ∙ ap (λ (names : List (Option (List ℕ))). get_or names index name) are
    ∙ get_or-map-range_with_len all 0 (length names) index index name few (omega arith)
    ∙ ap (λ (z : ℤ). name_of z entries) (sym at)
