-- Which lines CAN identifiers touch, by the CAN identifiers of the lines' data frames.
use Rattle.std.proofs.Common.{◌≡◌, ℕ, Bool, true, false, not, List, [], ◌∷◌, ◌++◌, map, refl, sym, ap, ◌∙◌, inl, inr}
use Rattle.std.specs.Prelude.{◌==◌, ◌||◌, ◌&&◌, Option, Some, None, option_and_then, if◌then◌else◌}
use Rattle.std.specs.Option.{option_map_or}
use Rattle.std.proofs.lemmas.Bool.{cases_Bool, eqb-true, eq-eqb, and_parts}
use Rattle.std.proofs.lemmas.List.Folds.{list_any-append}
use Rattle.can_frames.specs.Frames.{Frame, body_of, frame_of, is_data}
use Rattle.can_entries.specs.Groups.{is_extended, is_bad_number, group_number_of}
use Rattle.session_log.specs.Touched.{may_have_group, concerns, is_touched, line_touched, number_touched}
use Rattle.session_log.specs.declared.log_index.LogIndex.{LogIndex}
use Rattle.can_decode.specs.Choices.{number_of_data, data_number}
use Rattle.session_log.specs.declared.line.Line.{Line}
use Rattle.session_log.specs.Logs.{bytes_of, IsNumbered}
use Rattle.session_log.specs.inner.Indexes.{has_number, has_group, serials_of, IsIndexed}
use Rattle.session_log.specs.Positions.{positions_from, position_from}
use Rattle.session_log.proofs.Positions.{positions_same}

by_frame : (numbers : List ℕ) (frame : Option Frame) → option_map_or (is_touched numbers) frame false ≡ number_touched numbers
    (option_and_then number_of_data frame)
unfolding is_touched
by_frame numbers None = refl
by_frame numbers (Some frame) = elim (cases_Bool (is_data frame)) [ inl t ↦ rw t refl | inr f ↦ rw f refl ]

pub touched_by : (numbers : List ℕ) (line : List ℕ) → line_touched numbers line ≡ number_touched numbers (data_number line)
unfolding line_touched data_number
touched_by numbers line = by_frame numbers (frame_of (body_of line))

-- by the CAN identifier that is stored with the line
pub untouched_by_number : (numbers : List ℕ) (line : Line) → IsNumbered line → not (number_touched numbers line.number)
    ≡ not (line_touched numbers (bytes_of line))
untouched_by_number numbers line is = ap (λ n. not (number_touched numbers n)) is
    ∙ ap not (sym (touched_by numbers (bytes_of line)))

-- ---- one more CAN identifier

one_more : (earlier : List ℕ) (number : ℕ) (other : Option ℕ) → number_touched (earlier ++ number ∷ []) other
    ≡ (number_touched earlier other || number_touched (number ∷ []) other)
one_more earlier number None = refl
one_more earlier number (Some other) = list_any-append (concerns other) earlier (number ∷ [])

pub touched_more : (earlier : List ℕ) (number : ℕ) (line : List ℕ) → line_touched (earlier ++ number ∷ []) line
    ≡ (line_touched earlier line || line_touched (number ∷ []) line)
touched_more earlier number line = rw (touched_by, touched_by, touched_by) (one_more earlier number (data_number line))

of_none : (other : Option ℕ) → number_touched [] other ≡ false
of_none None = refl
of_none (Some other) = refl

pub touched_by_none : (line : List ℕ) → line_touched [] line ≡ false
touched_by_none line = touched_by [] line ∙ of_none (data_number line)

-- ---- one key for each CAN identifier

or_false : (b : Bool) → (b || false) ≡ b
or_false true = refl
or_false false = refl

and_false : (b : Bool) → (b && false) ≡ false
and_false true = refl
and_false false = refl

-- a CAN identifier that may have a parameter group is extended (29-bit)
wide : (number : ℕ) → may_have_group number ≡ true → is_extended number ≡ true
unfolding may_have_group
wide number t = (and_parts (is_extended number) (not (is_bad_number number)) t).0

of_itself : (number : ℕ) → true ≡ (if may_have_group number then is_extended number && group_number_of number == group_number_of
    number else true)
of_itself number =
    elim (cases_Bool (may_have_group number)) [
      | inl t ↦ (let bits = wide number t in rw (t, bits, eq-eqb (group_number_of number) (group_number_of number) refl) refl)
      | inr f ↦ rw f refl
    ]

-- a CAN identifier that may have a parameter group concerns the frames of its group, and another those of that CAN identifier
one_key : (other number : ℕ) → concerns other number ≡ (if may_have_group number then is_extended other && group_number_of number ==
    group_number_of other else number == other)
unfolding concerns
one_key other number =
    elim (cases_Bool (number == other)) [
      | inl t ↦ (let same = eqb-true number other t in rw (t, ← same) (of_itself number))
      | inr o ↦ elim (cases_Bool (may_have_group number)) [
        | inl g ↦ rw (o, g) refl
        | inr g ↦ rw (o, g) (and_false (is_extended other))
      ]
    ]

by_key : (number : ℕ) (other : Option ℕ) → number_touched (number ∷ []) other
    ≡ (if may_have_group number then option_map_or (λ n. is_extended n && group_number_of number == group_number_of n) other false
    else option_map_or (λ n. number == n) other false)
by_key number None = elim (cases_Bool (may_have_group number)) [ inl t ↦ rw t refl | inr f ↦ rw f refl ]
by_key number (Some other) =
    or_false (concerns other number) ∙ one_key other number

pub touched_by_key : (number : ℕ) (line : List ℕ) → line_touched (number ∷ []) line
    ≡ (if may_have_group number then has_group (group_number_of number) line else has_number number line)
touched_by_key number line = touched_by (number ∷ []) line ∙ by_key number (data_number line)

-- the indexes for the key are those of the lines that the CAN identifier touches
pub found_by_key : (first : ℕ) (lines : List (List ℕ)) (index : LogIndex) (number : ℕ) → IsIndexed first lines index
    → map (position_from first) (serials_of number index) ≡ positions_from (line_touched (number ∷ [])) 0 lines
found_by_key first lines index number h =
    elim (cases_Bool (may_have_group number)) [
      | inl t ↦ rw t (h.by_group (group_number_of number) ∙ positions_same (has_group (group_number_of number))
          (line_touched (number ∷ [])) (λ line. sym (touched_by_key number line ∙ rw t refl)) 0 lines)
      | inr f ↦ rw f (h.by_number number ∙ positions_same (has_number number) (line_touched (number ∷ []))
          (λ line. sym (touched_by_key number line ∙ rw f refl)) 0 lines)
    ]
