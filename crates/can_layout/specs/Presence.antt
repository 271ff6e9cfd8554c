-- Which signals of a plan are present in data, and what is cached of that while a line is decoded.
use Rattle.std.specs.Prelude.{◌≡◌, ◌≢◌, ℕ, ◌<◌, ◌≤◌, Bool, true, false, ◌&&◌, List, [], ◌∷◌, All, Option, Some, None, length}
use Rattle.std.specs.Prelude.{slice_get, IfSome, is_some, if◌then◌else◌}
use Rattle.std.specs.List.{list_any, list_all}
use Rattle.std.specs.Option.{option_and_then}
use Rattle.dbc_records.specs.declared.mux_row.Range.{Range}
use Rattle.can_bits.specs.Bits.{unsigned_raw}
use Rattle.can_entries.specs.Links.{Link}
use Rattle.dbc_records.specs.Ranges.{in_range}
use Rattle.can_entries.specs.Walks.{walk_of, mux_parent_at}
use Rattle.can_layout.specs.Plans.{chain_of, is_present, is_whole}
use Rattle.can_entries.specs.declared.mux_parent.MuxParent.{MuxParent}
use Rattle.can_entries.specs.declared.mux_parent.MuxParent.TheVariants.{Nothing, Missing, Switch}
use Rattle.can_layout.specs.declared.row.Reading.{Reading}
use Rattle.can_layout.specs.declared.row.Reading.TheVariants.{Refused, Read}
use Rattle.can_layout.specs.declared.cached.CachedMultiplexor.{CachedMultiplexor}
use Rattle.can_layout.specs.declared.cached.Switches.{Switches}
use Rattle.can_layout.specs.declared.row.Row.{Row}
use Rattle.can_layout.specs.declared.runs.Run.{Run}

-- the link from a signal to its multiplexor (switch)
abbrev pub link_of : MuxParent → Option Link
link_of Nothing = None
link_of Missing = None
link_of (Switch link) = Some link

-- the chain of the signal at an index
abbrev pub chain_at : List Row → ℕ → Option (List Link)
chain_at rows index = option_and_then (λ row. row.chain) (slice_get rows index)

-- these are the multiplexing parents of the signals of the rows
abbrev pub AreChained : List Row → List MuxParent → Type 0
AreChained rows mux_parents = (index : ℕ) → chain_at rows index ≡ chain_of (walk_of mux_parents index)

-- no row has a parent multiplexor
abbrev pub ArePlain : List Row → Type 0
ArePlain rows = All (λ row. row.chain ≡ Some []) rows

-- a signal with this chain has no link
abbrev pub is_top : Option (List Link) → Bool
is_top None = false
is_top (Some []) = true
is_top (Some (link ∷ links)) = false

-- no signal has a multiplexor
unfoldable pub are_plain : List Row → Bool
are_plain rows = list_all (λ row. is_top row.chain) rows

-- what is known of indexes is the same from an index on, up to `end`
pub record IsRun {X : Type 0} (given : ℕ → X) (index end : ℕ) : Type 0 where
  pub some : index < end
  pub same : (k : ℕ) → index ≤ k → k < end → given k ≡ given index

-- no longer run of this many indexes begins there
pub record IsLongestRun {X : Type 0} (given : ℕ → X) (count index end : ℕ) : Type 0 where
  pub run : IsRun given index end
  pub within : end ≤ count
  pub last : end < count → given end ≢ given index

-- the multiplexing parent of the signal at an index, if it has a chain
abbrev pub parent_at : List Row → List MuxParent → ℕ → MuxParent
parent_at rows mux_parents index = if is_some (chain_at rows index) then mux_parent_at mux_parents index else Missing

abbrev pub known_at : List (Option Bool) → ℕ → Option Bool
known_at known index = option_and_then (λ there. there) (slice_get known index)

-- what is known of signals is so
abbrev pub AreKnown : List ℕ → List Row → List (Option Bool) → Type 0
AreKnown bytes rows known =
    (index : ℕ) (there : Bool) → known_at known index ≡ Some there → there ≡ is_present bytes rows (slice_get rows index)

-- the raw bits of a multiplexor; one that is refused has none
abbrev pub raw_of : List ℕ → Reading → Option ℕ
raw_of bytes (Refused cause) = None
raw_of bytes (Read decoder) = Some (unsigned_raw bytes decoder.bits)

-- the raw bits of a multiplexor that is present in data with all its bits
abbrev pub switch_raw : List ℕ → List Row → Option Row → Option ℕ
switch_raw bytes rows None = None
switch_raw bytes rows (Some row) = if is_whole bytes row && is_present bytes rows (Some row) then raw_of bytes row.reading else None

-- a range has the raw bits of a multiplexor
abbrev pub is_among : List Range → Option ℕ → Bool
is_among ranges None = false
is_among ranges (Some raw) = list_any (in_range raw) ranges

-- whether a signal is present, by its multiplexing parent if it has a chain
abbrev pub there_by : List ℕ → List Row → MuxParent → Bool
there_by bytes rows Nothing = true
there_by bytes rows Missing = false
there_by bytes rows (Switch link) = is_among link.ranges (switch_raw bytes rows (slice_get rows link.switch))

-- the run that the signal at an index is in, and when its signals are present
pub record IsRunOf (rows : List Row) (index : ℕ) (run : Run) : Type 0 where
  pub first : run.first ≤ index
  pub end : index < run.end
  pub longest : IsLongestRun (chain_at rows) (length rows) run.first run.end
  pub there : (bytes : List ℕ) → is_present bytes rows (slice_get rows index) ≡ there_by bytes rows run.parent

abbrev pub AreRuns : List Row → List Run → Type 0
AreRuns rows runs = (index : ℕ) (run : Run) → slice_get runs index ≡ Some run → IsRunOf rows index run

-- what is cached of a multiplexor is so
abbrev pub IsCached : List ℕ → List Row → ℕ → Option ℕ → Type 0
IsCached bytes rows switch raw = raw ≡ switch_raw bytes rows (slice_get rows switch)

abbrev pub AreAllCached : List ℕ → List Row → List CachedMultiplexor → Type 0
AreAllCached bytes rows kept = All (λ cached. IsCached bytes rows cached.switch cached.raw) kept

-- and what is cached of multiplexors
abbrev pub AreCached : List ℕ → List Row → Switches → Type 0
AreCached bytes rows cached =
    IsCached bytes rows cached.last.switch cached.last.raw × IfSome cached.kept (AreAllCached bytes rows)

-- which signals of these rows are present in data
pub record Presence : Type 0 where
  pub bytes : List ℕ
  pub rows : List Row
