-- Signals that are present by the raw bits of their multiplexor (switch).
use Rattle.std.proofs.Common.{◌≡◌, ℕ, zero, suc, ◌<◌, ◌≤◌, Bool, true, false, ◌&&◌, List, [], ◌∷◌, Option, Some, None}
use Rattle.std.proofs.Common.{slice_get, length, refl, is_some, subst, sym, ap, ◌∙◌, arith, if◌then◌else◌, ⊎_elim}
use Rattle.std.specs.Prelude.{slice_set}
use Rattle.std.specs.List.{list_any}
use Rattle.std.proofs.lemmas.Option.{slice_get_past, slice_get-get_or, slice_get_cases}
use Rattle.dbc_records.specs.declared.mux_row.Range.{Range}
use Rattle.can_bits.specs.Bits.{unsigned_raw}
use Rattle.can_entries.specs.Links.{Link}
use Rattle.dbc_records.specs.Ranges.{in_range}
use Rattle.can_entries.specs.Walks.{mux_parent_at}
use Rattle.can_entries.specs.declared.mux_parent.MuxParent.{MuxParent}
use Rattle.can_entries.specs.declared.mux_parent.MuxParent.TheVariants.{Nothing, Missing, Switch}
use Rattle.can_layout.specs.declared.row.Reading.{Reading}
use Rattle.can_layout.specs.declared.row.Reading.TheVariants.{Refused, Read}
use Rattle.can_layout.specs.declared.row.Row.{Row}
use Rattle.can_layout.specs.Plans.{chain_of, has_number, is_whole, switch_has_number, are_met, is_present}
use Rattle.can_layout.specs.Presence.{AreChained, ArePlain, IsRun, IsCached, chain_at, raw_of, switch_raw, is_among, parent_at}
use Rattle.can_layout.specs.Presence.{AreKnown, IsLongestRun, IsRunOf, known_at, there_by, are_plain}
use Rattle.can_layout.specs.declared.runs.Run.{Run}
use Rattle.can_layout.proofs.RunLaws.{longest_later}
use Rattle.can_layout.proofs.Chains.{present_by_chain, present_under, way, no_links}

true_last : (b : Bool) → (b && true) ≡ b
true_last true = refl
true_last false = refl

false_last : (b : Bool) → (b && false) ≡ false
false_last true = refl
false_last false = refl

module _ (bytes : List ℕ) (ranges : List Range) where
  -- whole, present, and with one of the raw values, in either order
  by_parts : (whole there : Bool) (reading : Reading) → ((whole && has_number bytes ranges reading) && there)
      ≡ is_among ranges (if whole && there then raw_of bytes reading else None)
  by_parts false there reading = refl
  by_parts true false reading = false_last (has_number bytes ranges reading)
  by_parts true true (Refused cause) = refl
  by_parts true true (Read decoder) = true_last (list_any (in_range (unsigned_raw bytes decoder.bits)) ranges)

  by_row : (rows : List Row) (row : Option Row) → (switch_has_number bytes ranges row && is_present bytes rows row)
      ≡ is_among ranges (switch_raw bytes rows row)
  by_row rows None = refl
  by_row rows (Some row) = by_parts (is_whole bytes row) (are_met bytes rows row.chain) row.reading

-- a signal under a multiplexor is there if a range has the raw bits of the multiplexor
pub present_by_raw : (bytes : List ℕ) (rows : List Row) (mux_parents : List MuxParent) → AreChained rows mux_parents → (index : ℕ)
    (link : Link)
    → mux_parent_at mux_parents index ≡ Switch link
    → is_present bytes rows (slice_get rows index) ≡ is_among link.ranges (switch_raw bytes rows (slice_get rows link.switch))
present_by_raw bytes rows mux_parents chained index link is =
    present_under bytes rows mux_parents chained index link is ∙ by_row bytes link.ranges rows (slice_get rows link.switch)

-- whether a signal is present, by its multiplexing parent if it has a chain
module _ (bytes : List ℕ) (rows : List Row) (mux_parents : List MuxParent) (chained : AreChained rows mux_parents) (index : ℕ) where
  by_mux_parent : (mux_parent : MuxParent) → mux_parent_at mux_parents index ≡ mux_parent
      → is_present bytes rows (slice_get rows index) ≡ there_by bytes rows mux_parent
  by_mux_parent Nothing is =
      present_by_chain bytes rows index ∙ ap (are_met bytes rows) (chained index ∙ ap chain_of (way mux_parents index Nothing is))
  by_mux_parent Missing is =
      present_by_chain bytes rows index ∙ ap (are_met bytes rows) (chained index ∙ ap chain_of (way mux_parents index Missing is))
  by_mux_parent (Switch link) is = present_by_raw bytes rows mux_parents chained index link is

  pub there_by_parent : is_present bytes rows (slice_get rows index) ≡ there_by bytes rows (parent_at rows mux_parents index)
  there_by_parent =
      elim (chain_at rows index) as (λ chain. chain_at rows index ≡ chain → is_present bytes rows (slice_get rows index)
      ≡ there_by bytes rows (if is_some chain then mux_parent_at mux_parents index else Missing)) [
        | None ↦ λ is. present_by_chain bytes rows index ∙ ap (are_met bytes rows) is
        | Some links ↦ λ is. by_mux_parent (mux_parent_at mux_parents index) refl
      ] refl

-- there is no multiplexor after the last signal
pub none_cached : (bytes : List ℕ) (rows : List Row) (index : ℕ) → length rows ≤ index → IsCached bytes rows index None
none_cached bytes rows index past = ap (switch_raw bytes rows) (sym (slice_get_past rows index past))

-- if no signal has a parent multiplexor all are there
pub plain_there : (bytes : List ℕ) (rows : List Row) → ArePlain rows → (index : ℕ) (row : Row) → index < length rows
    → true ≡ is_present bytes rows (slice_get rows index)
plain_there bytes rows plain index row within =
    sym (ap (is_present bytes rows) (slice_get-get_or rows index row within) ∙ ap (are_met bytes rows) (plain index row within))

pub plain_present : (bytes : List ℕ) (rows : List Row) → are_plain rows ≡ true → (index : ℕ) → index < length rows
    → true ≡ is_present bytes rows (slice_get rows index)
plain_present bytes rows plain index within =
    ⊎_elim (λ found. plain_there bytes rows (no_links rows plain) index found.0 within)
    (λ past. absurd (omega (arith, within, past.0))) (slice_get_cases rows index).1

-- signals of a run are present if its first one is
pub run_there : (bytes : List ℕ) (rows : List Row) (signal end : ℕ) → IsRun (chain_at rows) signal end → (index : ℕ)
    → signal ≤ index → index < end
    → is_present bytes rows (slice_get rows signal) ≡ is_present bytes rows (slice_get rows index)
run_there bytes rows signal end run index from below =
    present_by_chain bytes rows signal ∙ ap (are_met bytes rows) (sym (run.same index from below))
    ∙ sym (present_by_chain bytes rows index)

-- what is present by the multiplexing parent of a signal is present up to the end of its run
module _ (rows : List Row) (signal : ℕ) (run : Run) (is : IsRunOf rows signal run) where
  pub longest_from : IsLongestRun (chain_at rows) (length rows) signal run.end
  longest_from = longest_later (chain_at rows) (length rows) run.first run.end signal is.longest is.first is.end

  pub there_on : (bytes : List ℕ) (there : Bool) → there ≡ there_by bytes rows run.parent → (index : ℕ) → signal ≤ index
      → index < run.end → there ≡ is_present bytes rows (slice_get rows index)
  there_on bytes there so index from below =
      so ∙ sym (is.there bytes) ∙ run_there bytes rows signal run.end longest_from.run index from below

  -- and so is what is there by the first signal of the run
  pub known_on : (bytes : List ℕ) (there : Bool) → there ≡ is_present bytes rows (slice_get rows run.first) → (index : ℕ)
      → signal ≤ index → index < run.end → there ≡ is_present bytes rows (slice_get rows index)
  known_on bytes there so index from below =
      so ∙ run_there bytes rows run.first run.end is.longest.run index (omega (arith, is.first, from)) below

-- what is found of one more signal is kept
kept : (P : ℕ → Bool → Type 0) (known : List (Option Bool)) (index : ℕ) (there : Bool)
    → ((k : ℕ) (b : Bool) → known_at known k ≡ Some b → P k b) → P index there
    → (k : ℕ) (b : Bool) → known_at (slice_set known index (Some there)) k ≡ Some b → P k b
kept P [] index there all here k b is = all k b is
kept P (x ∷ known) zero there all here zero b is = let same : there ≡ b = cc in subst (P 0) same here
kept P (x ∷ known) zero there all here (suc k) b is = all (suc k) b is
kept P (x ∷ known) (suc index) there all here zero b is = all zero b is
kept P (x ∷ known) (suc index) there all here (suc k) b is =
    kept (λ k. P (suc k)) known index there (λ k. all (suc k)) here k b is

pub known_more : (bytes : List ℕ) (rows : List Row) (known : List (Option Bool)) (index : ℕ) (there : Bool)
    → AreKnown bytes rows known → there ≡ is_present bytes rows (slice_get rows index)
    → AreKnown bytes rows (slice_set known index (Some there))
known_more bytes rows known index there are is =
    kept (λ index there. there ≡ is_present bytes rows (slice_get rows index)) known index there are is
