-- The signals that are searched.
use Rattle.std.specs.Prelude.{ℕ, List}
use Rattle.can_references.specs.declared.signal_search.SignalSearch.{SignalSearch}
use Rattle.can_references.specs.declared.signal_search.SignalSearch.TheVariants as searches

abbrev pub searched_signals : SignalSearch → List (ℕ × List ℕ)
searched_signals (searches.ByNumber signals) = signals
searched_signals (searches.ByHash signals) = signals
