-- Ranges in order of their first numbers.
use Rattle.std.specs.Prelude.{◌≡◌, ◌≤◌, nat_le, Bool, false, List, [], ◌∷◌, All}
use Rattle.std.specs.List.{list_any}
use Rattle.dbc_records.specs.declared.mux_row.Range.{Range}

abbrev pub holds_some : Range → Bool
holds_some range = nat_le range.first range.last

-- each holds a number, and none begins before an earlier one
abbrev pub IsOrdered : List Range → Type 0
IsOrdered [] = Unit {0}
IsOrdered (range ∷ later) = (range.first ≤ range.last) × All (λ next. range.first ≤ next.first) later × IsOrdered later

-- a test that no empty range passes is passed by one of these exactly when it is passed by one of those
abbrev pub IsTestedLike : List Range → List Range → Type 0
IsTestedLike these those = (test : Range → Bool) → ((range : Range) → holds_some range ≡ false → test range ≡ false)
    → list_any test these ≡ list_any test those

-- ranges that hold numbers, in place of others, some of which may be empty
pub record AreWhole (whole ranges : List Range) : Type 0 where
  pub hold : All (λ range. range.first ≤ range.last) whole
  pub same : IsTestedLike whole ranges

-- the same, and they are in order
pub record StandFor (ordered ranges : List Range) : Type 0 where
  pub order : IsOrdered ordered
  pub same : IsTestedLike ordered ranges
