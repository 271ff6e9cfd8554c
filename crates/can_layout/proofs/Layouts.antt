-- What is made of the layouts of signals is what is made of the signals.
use Rattle.std.proofs.Common.{◌≡◌, ℕ, ◌+◌, List, [], ◌∷◌, ◌++◌, map, ap, refl, ◌∙◌}
use Rattle.std.specs.List.{enumerate_from, flat_map}
use Rattle.std.proofs.lemmas.Simd.{map-map}
use Rattle.std.proofs.lemmas.List.Folds.{flat_map-map}
use Rattle.dbc_records.specs.Records.{Signal}
use Rattle.can_entries.specs.Rows.{SignalRows}
use Rattle.can_entries.specs.declared.mux_parent.MuxParent.{MuxParent}
use Rattle.can_layout.specs.Plans.{plan_rows}
use Rattle.can_layout.specs.Diagrams.{legend_text}
use Rattle.can_layout.specs.Layouts.{SignalLayout, layout_of, row_by, legend_by}
use Rattle.can_layout.specs.declared.row.Row.{Row}

-- a list that is made of another has its elements at the same indexes
placed_map : {X Y : Type 0} (f : X → Y) (i : ℕ) (xs : List X)
    → enumerate_from i (map f xs) ≡ map (λ (placed : ℕ × X). (placed.0, f placed.1)) (enumerate_from i xs)
placed_map f i [] = refl
placed_map f i (x ∷ xs) = ap (λ more. (i, f x) ∷ more) (placed_map f (i + 1) xs)

module _ (rows : SignalRows) (mux_parents : List MuxParent) (size : ℕ) (signals : List Signal) where
  abbrev placed : ℕ × Signal → ℕ × SignalLayout
  placed it = (it.0, layout_of rows size it.1)

  pub rows_of_layouts : (made : List Row) (layouts : List SignalLayout)
      → made ≡ map (λ (it : ℕ × SignalLayout). row_by rows mux_parents it.0 it.1) (enumerate_from 0 layouts)
      → layouts ≡ map (layout_of rows size) signals → made ≡ plan_rows rows mux_parents size signals
  rows_of_layouts made layouts is are =
      let row : ℕ × SignalLayout → Row = λ it. row_by rows mux_parents it.0 it.1 in
      is ∙ ap (λ (all : List SignalLayout). map row (enumerate_from 0 all)) are
      ∙ ap (λ all. map row all) (placed_map (layout_of rows size) 0 signals) ∙ map-map row placed (enumerate_from 0 signals)

  -- the lines that were pushed, the push first
  pub pushed_legend : (old now : List ℕ) (layouts : List SignalLayout)
      → now ≡ old ++ flat_map (λ (it : ℕ × SignalLayout). legend_by signals mux_parents it.0 it.1) (enumerate_from 0 layouts)
      → layouts ≡ map (layout_of rows size) signals → now ≡ old ++ legend_text rows mux_parents size signals
  pushed_legend old now layouts is are =
      let line : ℕ × SignalLayout → List ℕ = λ it. legend_by signals mux_parents it.0 it.1 in
      is ∙ ap (λ (all : List SignalLayout). old ++ flat_map line (enumerate_from 0 all)) are
      ∙ ap (λ all. old ++ flat_map line all) (placed_map (layout_of rows size) 0 signals)
      ∙ ap (λ (text : List ℕ). old ++ text) (flat_map-map line placed (enumerate_from 0 signals))
