-- What is reported of a signal is what its plan decodes it by.
use Rattle.std.proofs.Common.{◌≡◌, ℕ, zero, suc, ◌+◌, ◌-◌, ◌^◌, ◌<◌, ◌≤◌, Bool, true, false, if◌then◌else◌, List, [], ◌∷◌, Some}
use Rattle.std.proofs.Common.{None}
use Rattle.std.proofs.Common.{Option, length, map, slice_get, get_or, refl, sym, ap, ◌∙◌, subst, arith, All}
use Rattle.std.specs.List.{enumerate_from, range_with_len}
use Rattle.std.specs.Option.{option_map}
use Rattle.std.proofs.lemmas.List.FromFn.{get_or-map-range_with_len, length-map-range_with_len}
use Rattle.std.proofs.lemmas.Option.{slice_get-get_or}
use Rattle.dbc_records.specs.Records.{Signal, Message, is_intel}
use Rattle.dbc_records.specs.Databases.{Database}
use Rattle.can_bits.specs.Bits.{Bit, field_of, bit_at, bits_of, position_of, weight_of}
use Rattle.can_bits.specs.declared.field.Field.{Field}
use Rattle.can_entries.specs.Rows.{SignalRows, rows_of, first_values, entries_of}
use Rattle.can_entries.specs.Switches.{mux_parents_of}
use Rattle.can_layout.specs.Plans.{plan_of, plan_in, row_of, reading_of, reading_unless, cause_of}
use Rattle.can_layout.specs.declared.refusal.Cause.{Cause}
use Rattle.can_layout.specs.declared.row.Row.{Row}
use Rattle.can_json_dump.specs.Messages.{position_upward, positions_of, refused_json, signal_member, paired}
use Rattle.can_json_laws.specs.DatabaseLaws.{IsAtItsPosition, TellsReading, SignalsAreAsPlanned}

-- ---- bits

pow_same : (a b : ℕ) → 2 ^ a ≡ 2 ^ b → a ≡ b
pow_same zero zero same = refl
pow_same zero (suc b) same = absurd (omega (arith, same, pow_some b))
  where
    pow_some : (b : ℕ) → 1 ≤ 2 ^ b
    pow_some zero = omega arith
    pow_some (suc b) = omega (arith, pow_some b)
pow_same (suc a) zero same = absurd (omega (arith, same, pow_some a))
  where
    pow_some : (b : ℕ) → 1 ≤ 2 ^ b
    pow_some zero = omega arith
    pow_some (suc b) = omega (arith, pow_some b)
pow_same (suc a) (suc b) same = ap suc (pow_same a b (omega (arith, same)))

-- the index of a bit from the least significant one
abbrev upward : Field → ℕ → ℕ
upward field index = if is_intel field.order then index else field.length - 1 - index

weight_upward : (field : Field) (index : ℕ) → weight_of field index ≡ 2 ^ upward field index
weight_upward field index = by (is_intel field.order)
  where
    by : (intel : Bool) → (if intel then 2 ^ index else 2 ^ (field.length - 1 - index))
        ≡ 2 ^ (if intel then index else field.length - 1 - index)
    by true = refl
    by false = refl

there_and_back : (intel : Bool) (length index : ℕ) → index < length
    → (if intel then (if intel then index else length - 1 - index) else length - 1 - (if intel then index else length - 1 - index))
    ≡ index
there_and_back true length index within = refl
there_and_back false length index within = omega (arith, within)

upward_within : (intel : Bool) (length index : ℕ) → index < length → (if intel then index else length - 1 - index) < length
upward_within true length index within = within
upward_within false length index within = omega (arith, within)

position_at : (field : Field) (k : ℕ) → k < field.length → slice_get (positions_of field) k ≡ Some (position_upward field k)
position_at field k within =
    slice_get-get_or (positions_of field) k 0
    (omega (arith, within, length-map-range_with_len (position_upward field) 0 field.length))
    ∙ ap (λ position. Some position) (get_or-map-range_with_len (position_upward field) 0 field.length k k 0 within (omega arith))

bit_at_its_position : (field : Field) (index : ℕ) → index < field.length → IsAtItsPosition (positions_of field) (bit_at field index)
bit_at_its_position field index within k weighs =
    let same : k ≡ upward field index = pow_same k (upward field index) (sym weighs ∙ weight_upward field index) in
    ap (λ k. slice_get (positions_of field) k) same
    ∙ position_at field (upward field index) (upward_within (is_intel field.order) field.length index within)
    ∙ ap (λ index. Some (position_of field index)) (there_and_back (is_intel field.order) field.length index within)

bits_at_their_positions : (field : Field) → All (IsAtItsPosition (positions_of field)) (bits_of field)
unfolding bits_of
bits_at_their_positions field i d within =
    let count = length-map-range_with_len (bit_at field) 0 field.length in
    subst (IsAtItsPosition (positions_of field))
    (sym (get_or-map-range_with_len (bit_at field) 0 field.length i i d (omega (arith, within, count)) (omega arith)))
    (bit_at_its_position field i (omega (arith, within, count)))

-- ---- entries

module _ {A : Type 0} (f : ℕ × Signal → A) where
  row_from : (from index : ℕ) (signals : List Signal) (signal : Signal) → slice_get signals index ≡ Some signal
      → slice_get (map f (enumerate_from from signals)) index ≡ Some (f (from + index, signal))
  row_from from index [] signal here = absurd (let missing : None ≡ Some signal = here in cc)
  row_from from zero (first ∷ signals) signal here =
      let same : first ≡ signal = cc in
      ap (λ one. Some (f (from, one))) same ∙ ap (λ at. Some (f (at, signal))) (let one : from ≡ from + 0 = omega arith in one)
  row_from from (suc index) (first ∷ signals) signal here =
      row_from (from + 1) index signals signal here
      ∙ ap (λ at. Some (f (at, signal))) (let one : from + 1 + index ≡ from + suc index = omega arith in one)

paired_is : {A B C : Type 0} (f : A → B → C) (xs : List A) (ys : List B) (index : ℕ) (x : A) (y : B) → slice_get xs index ≡ Some x
    → slice_get ys index ≡ Some y → slice_get (paired f xs ys) index ≡ Some (f x y)
paired_is f [] ys index x y here there = absurd (let missing : None ≡ Some x = here in cc)
paired_is f (a ∷ xs) [] index x y here there = absurd (let missing : None ≡ Some y = there in cc)
paired_is f (a ∷ xs) (b ∷ ys) zero x y here there =
    let first : a ≡ x = cc in
    let second : b ≡ y = cc in
    ap (λ one. Some (f one b)) first ∙ ap (λ one. Some (f x one)) second
paired_is f (a ∷ xs) (b ∷ ys) (suc index) x y here there = paired_is f xs ys index x y here there

reading_by : (database : Database) (message : Message) (index : ℕ) (signal : Signal) (cause : Option Cause)
    → let rows = rows_of message.head.number database in
    let row = row_of rows (mux_parents_of rows message.signals) message.head.size index signal in
    row.reading ≡ reading_unless cause rows signal → TellsReading database message signal row (reading_unless cause rows signal)
reading_by database message index signal (Some cause) is = ap refused_json is
reading_by database message index signal None is = (ap refused_json is, bits_at_their_positions (field_of signal), refl)

pub signals_are_as_planned : SignalsAreAsPlanned
unfolding plan_in
signals_are_as_planned database message index signal here =
    let rows = rows_of message.head.number database in
    let row = row_of rows (mux_parents_of rows message.signals) message.head.size index signal in
    let found : slice_get (plan_of database message).rows index ≡ Some row =
    row_from (λ placed. row_of rows (mux_parents_of rows message.signals) message.head.size placed.0 placed.1) 0 index
    message.signals signal here
    ∙ ap (λ at. Some (row_of rows (mux_parents_of rows message.signals) message.head.size at signal))
    (let one : 0 + index ≡ index = omega arith in one) in
    let given =
    paired_is (signal_member database message) message.signals (plan_of database message).rows index signal row here found in
    let reading = reading_by database message index signal (cause_of rows message.head.size signal) refl in
    (row, found, given, reading)
