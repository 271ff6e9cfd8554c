-- Serial numbers and indexes: what a further item has, and what becomes of the others when the first is removed.
use Rattle.std.proofs.Common.{◌≡◌, ◌<◌, ◌+◌, ◌-◌, ◌%◌, ◌^◌, ℕ, Bool, true, false, List, [], ◌∷◌, length, map, drop, refl, sym, ap}
use Rattle.std.proofs.Common.{◌∙◌, inl, inr, arith}
use Rattle.std.proofs.Math.Nat.{mod-add-mod, add-mod_right, mod-eq_of_lt, mod_self}
use Rattle.std.proofs.lemmas.Bool.{cases_Bool, cases_lt}
use Rattle.std.proofs.lemmas.List.{drop-map}
use Rattle.std.specs.Prelude.{if◌then◌else◌}
use Rattle.session_log.specs.Positions.{positions_from, position_from}

module _ (m first : ℕ) (within : first < m) where
  further_at : (position : ℕ) → position < m → ((first + position) % m + (m - first)) % m ≡ position
  further_at position fits =
      let round : first + position + (m - first) ≡ position + m = omega (arith, within) in
      mod-add-mod (first + position) m (m - first) ∙ ap (λ n. n % m) round ∙ add-mod_right position m ∙ mod-eq_of_lt fits

  -- relative to the next start each index is one less
  next_at : (serial : ℕ) → (serial + (m - (first + 1) % m)) % m ≡ ((serial + (m - first)) % m + (m - 1)) % m
  next_at serial =
      let back : ((serial + (m - first)) % m + (m - 1)) % m ≡ (serial + (m - first) + (m - 1)) % m =
      mod-add-mod (serial + (m - first)) m (m - 1) in
      (elim (cases_lt (first + 1) m) [
        | inl later ↦
            let start : (first + 1) % m ≡ first + 1 = mod-eq_of_lt later in
            let round : serial + (m - first) + (m - 1) ≡ serial + (m - (first + 1)) + m = omega (arith, later) in
            rw (start, round) (sym (add-mod_right (serial + (m - (first + 1))) m))
        | inr last ↦
            let end : first + 1 ≡ m = omega (arith, within, last) in
            let start : (first + 1) % m ≡ 0 = ap (λ n. n % m) end ∙ mod_self m in
            let round : serial + (m - first) + (m - 1) ≡ serial + (m - 0) = omega (arith, end) in
            rw (start, round) refl
      ]) ∙ sym back

-- an index other than the first, relative to the next start
less : (m position : ℕ) → position + 1 < m → (position + 1 + (m - 1)) % m ≡ position
less m position fits =
    let round : position + 1 + (m - 1) ≡ position + m = omega (arith, fits) in
    ap (λ n. n % m) round ∙ add-mod_right position m ∙ mod-eq_of_lt (omega (arith, fits))

positions_less : {X : Type 0} (m : ℕ) (test : X → Bool) (at : ℕ) (items : List X) → at + length items < m
    → map (λ position. (position + (m - 1)) % m) (positions_from test (at + 1) items) ≡ positions_from test at items
positions_less m test at [] fits = refl
positions_less m test at (item ∷ items) fits =
    let rest = positions_less m test (at + 1) items (omega (arith, fits)) in
    elim (cases_Bool (test item)) [
      | inl t ↦ rw (t, less m at (omega (arith, fits))) (ap (λ positions. at ∷ positions) rest)
      | inr f ↦ rw f rest
    ]

map_twice : (f g h : ℕ → ℕ) → ((n : ℕ) → f n ≡ h (g n)) → (xs : List ℕ) → map f xs ≡ map h (map g xs)
map_twice f g h same [] = refl
map_twice f g h same (x ∷ xs) = rw (same x, map_twice f g h same xs) refl

-- ---- for serial numbers of 64 bits

pub further_position : (first position : ℕ) → first < 2 ^ 64 → position < 2 ^ 64 → position_from first ((first + position) % 2 ^ 64)
    ≡ position
further_position first position within fits = further_at (2 ^ 64) first within position fits

-- those of items after the first, once it is gone
pub rest_positions : {X : Type 0} (first : ℕ) (test : X → Bool) (items : List X) (serials : List ℕ) → first < 2 ^ 64
    → length items < 2 ^ 64
    → map (position_from first) serials ≡ positions_from test 1 items → map (position_from ((first + 1) % 2 ^ 64)) serials
    ≡ positions_from test 0 items
rest_positions first test items serials within fits h =
    map_twice (position_from ((first + 1) % 2 ^ 64)) (position_from first) (λ position. (position + (2 ^ 64 - 1)) % 2 ^ 64)
    (next_at (2 ^ 64) first within) serials
    ∙ ap (map (λ position. (position + (2 ^ 64 - 1)) % 2 ^ 64)) h ∙ positions_less (2 ^ 64) test 0 items (omega (arith, fits))

-- those of all items that pass, once the first is gone, which is one of them or not
pub without_first : {X : Type 0} (first : ℕ) (test : X → Bool) (item : X) (items : List X) (before after : List ℕ) → first < 2 ^ 64
    → length items < 2 ^ 64
    → map (position_from first) before ≡ positions_from test 0 (item ∷ items)
    → (passes : Bool) → test item ≡ passes → after ≡ (if passes then drop 1 before else before)
    → map (position_from ((first + 1) % 2 ^ 64)) after ≡ positions_from test 0 items
without_first first test item items before after within fits h true t is =
    rest_positions first test items after within fits (ap (map (position_from first)) is ∙ sym (drop-map (position_from first) 1
    before)
    ∙ ap (drop 1) h ∙ rw t refl)
without_first first test item items before after within fits h false f is =
    rest_positions first test items after within fits (ap (map (position_from first)) is ∙ h ∙ rw f refl)
