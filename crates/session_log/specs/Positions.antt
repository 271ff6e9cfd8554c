-- Indexes in lists, and serial numbers of items before which others are removed.
use Rattle.std.specs.Prelude.{ℕ, ◌+◌, ◌-◌, ◌%◌, ◌^◌, Bool, List, [], ◌∷◌, if◌then◌else◌}

-- the indexes from `at` on of the items that pass, in order
abbrev pub positions_from : {X : Type 0} → (X → Bool) → ℕ → List X → List ℕ
positions_from test at [] = []
positions_from test at (item ∷ items) = if test item then at ∷ positions_from test (at + 1) items else positions_from test (at + 1)
    items

-- The index of the item with a serial number, if the first item has the serial number `first`: serial numbers rise by one from item
-- to item, and after the last of 64 bits comes 0.
abbrev pub position_from : ℕ → ℕ → ℕ
position_from first serial = (serial + (2 ^ 64 - first)) % 2 ^ 64
