-- The ranges of a chain are those of entries and multiplexer indicators.
use Rattle.std.proofs.Common.{◌≡◌, ℕ, zero, suc, ◌+◌, ◌<◌, ◌^◌, Bool, true, false, cond, List, [], ◌∷◌, Option, Some, None, map}
use Rattle.std.proofs.Common.{filter, All}
use Rattle.std.proofs.Common.{length, slice_get, refl, ap, sym, ◌∙◌, arith}
use Rattle.std.specs.List.{find, AllByRecursion}
use Rattle.std.specs.Option.{IfSome}
use Rattle.std.specs.Str.{bytes_eq}
use Rattle.dbc_records.specs.Records.{Signal, IsSignal, MuxRow, IsMuxRow, IsRange, IsTag}
use Rattle.dbc_records.specs.declared.tag.Tag.{Tag}
use Rattle.dbc_records.specs.declared.tag.Tag.TheVariants as tags
use Rattle.dbc_records.specs.declared.mux_row.Range.{Range}
use Rattle.can_entries.specs.Rows.{SignalRows, first_mux}
use Rattle.can_entries.specs.Links.{Link, IsLink}
use Rattle.can_entries.specs.Walks.{walk_of, walk_up, walk_mux_parent, with_link, mux_parent_at, mux_parent_or_missing}
use Rattle.can_entries.specs.Switches.{under, just, by_tag, by_row, mux_parent_of, mux_parents_of, index_named, only_switch}
use Rattle.can_entries.specs.declared.mux_parent.MuxParent.{MuxParent}
use Rattle.can_entries.specs.declared.mux_parent.MuxParent.TheVariants.{Nothing, Missing, Switch}
use Rattle.can_entries.specs.declared.walk.Walk.{Walk}
use Rattle.can_entries.specs.declared.walk.Walk.TheVariants as walks
use Rattle.can_layout.specs.Plans.{chain_of}
use Rattle.can_json_laws.proofs.Written.{first_of, rest_of}

-- ---- the multiplexing parent of a signal

abbrev IsBounded : MuxParent → Type 0
IsBounded Nothing = Unit {0}
IsBounded Missing = Unit {0}
IsBounded (Switch link) = All IsRange link.ranges

just_one : (n : ℕ) → n < 2 ^ 64 → All IsRange (just n)
just_one n small zero d within = record { first = small; last = small }
just_one n small (suc k) d within = absurd (omega (arith, within))

under_bounded : (switch : Option ℕ) (ranges : List Range) → All IsRange ranges → IsBounded (under switch ranges)
under_bounded None ranges are = tt
under_bounded (Some switch) ranges are = are

tag_bounded : (only : Option ℕ) (tag : Tag) → IsTag tag → IsBounded (by_tag only tag)
tag_bounded only tags.Plain is = tt
tag_bounded only tags.Switch is = tt
tag_bounded only (tags.Muxed n) is = under_bounded only (just n) (just_one n is)
tag_bounded only (tags.Both n) is = under_bounded only (just n) (just_one n is)

row_bounded : (signals : List Signal) (tag : Tag) (row : Option MuxRow) → IsTag tag → IfSome row IsMuxRow
    → IsBounded (by_row signals tag row)
row_bounded signals tag None is row = tag_bounded (only_switch signals) tag is
row_bounded signals tag (Some row) is valid = under_bounded (index_named row.switch signals) row.ranges valid.ranges

-- what is found is one of the items
module _ {A : Type 0} (P : A → Type 0) (p : A → Bool) where
  pub found_is : (xs : List A) → All P xs → IfSome (find p xs) P
  found_is [] all = tt
  found_is (x ∷ xs) all = by (p x) (first_of P x xs all) (found_is xs (rest_of P x xs all))
    where
      by : (b : Bool) → P x → IfSome (find p xs) P → IfSome (cond b (Some x) (find p xs)) P
      by true here there = here
      by false here there = there

  pub kept_are : (xs : List A) → All P xs → All P (filter p xs)
  kept_are [] all = all
  kept_are (x ∷ xs) all = by (p x) (first_of P x xs all) (kept_are xs (rest_of P x xs all))
    where
      cons : P x → All P (filter p xs) → All P (x ∷ filter p xs)
      cons here there zero d within = here
      cons here there (suc k) d within = there k d (omega (arith, within))

      by : (b : Bool) → P x → All P (filter p xs) → All P (cond b (x ∷ filter p xs) (filter p xs))
      by true here there = cons here there
      by false here there = there

module _ (rows : SignalRows) (all : List Signal) (valid : All IsMuxRow rows.muxes) where
  above_bounded : (signal : Signal) → IsSignal signal → IsBounded (mux_parent_of rows all signal)
  unfolding mux_parent_of
  above_bounded signal is =
      row_bounded all signal.tag (first_mux signal.name rows) is.tag
      (found_is IsMuxRow (λ row. bytes_eq row.signal signal.name) rows.muxes valid)

  bounded_at : (signals : List Signal) → All IsSignal signals → (index : ℕ)
      → IsBounded (mux_parent_or_missing (slice_get (map (mux_parent_of rows all) signals) index))
  bounded_at [] are index = tt
  bounded_at (signal ∷ signals) are zero = above_bounded signal (first_of IsSignal signal signals are)
  bounded_at (signal ∷ signals) are (suc index) = bounded_at signals (rest_of IsSignal signal signals are) index

-- ---- the multiplexing chain

abbrev pub AreBounded : Option (List Link) → Type 0
AreBounded chain = IfSome chain (AllByRecursion IsLink)

module _ (mux_parents : List MuxParent) (bounded : (index : ℕ) → IsBounded (mux_parent_at mux_parents index)) where
  with_bounded : (link : Link) (walk : Walk) → All IsRange link.ranges → AreBounded (chain_of walk)
      → AreBounded (chain_of (with_link link walk))
  with_bounded link (walks.Chain links) here rest = (record { ranges = here }, rest)
  with_bounded link (walks.Absent own) here rest = tt
  with_bounded link walks.Loop here rest = tt

  mux_parent_then : (mux_parent : MuxParent) (further : ℕ → Walk) → IsBounded mux_parent → ((index : ℕ) → AreBounded (chain_of
      (further index)))
      → AreBounded (chain_of (walk_mux_parent mux_parent further))
  mux_parent_then Nothing further is rest = tt
  mux_parent_then Missing further is rest = tt
  mux_parent_then (Switch link) further is rest = with_bounded link (further link.switch) is (rest link.switch)

  walk_bounded : (steps index : ℕ) → AreBounded (chain_of (walk_up steps mux_parents index))
  walk_bounded zero index = tt
  walk_bounded (suc steps) index = mux_parent_then (mux_parent_at mux_parents index) (walk_up steps mux_parents) (bounded index)
      (walk_bounded steps)

-- the ranges of the chains of a message
pub chains_bounded : (rows : SignalRows) (signals : List Signal) (index : ℕ) → All IsMuxRow rows.muxes → All IsSignal signals
    → AreBounded (chain_of (walk_of (mux_parents_of rows signals) index))
chains_bounded rows signals index valid are =
    walk_bounded (mux_parents_of rows signals) (bounded_at rows signals valid signals are) (length (mux_parents_of rows signals) +
    1) index
