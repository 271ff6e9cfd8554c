-- Ranges in order, by which a number is found.
use Rattle.std.specs.Prelude.{◌≡◌, ℕ, max, List, [], ◌∷◌}
use Rattle.std.specs.List.{list_any}
use Rattle.std.specs.List.Sorted.{IsNonDecreasingBy}
use Rattle.dbc_records.specs.declared.mux_row.Range.{Range}
use Rattle.dbc_records.specs.Ranges.{in_range}

-- each range with the greatest last number of those up to it, where `most` is that of the ranges before
abbrev pub reaching : ℕ → List Range → List Range
reaching most [] = []
reaching most (range ∷ ranges) = record { first = range.first; last = max most range.last } ∷ reaching (max most range.last) ranges

-- ranges that have the numbers that others have, and of which neither the first numbers nor the last ones fall
pub record IsRangeIndex (index ranges : List Range) : Type 0 where
  pub firsts : IsNonDecreasingBy (λ (range : Range). range.first) index
  pub lasts : IsNonDecreasingBy (λ (range : Range). range.last) index
  pub same : (raw : ℕ) → list_any (in_range raw) index ≡ list_any (in_range raw) ranges
