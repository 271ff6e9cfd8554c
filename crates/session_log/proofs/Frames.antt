-- Frames that an edit doesn't touch meet the same message and the same entries.
use Rattle.std.proofs.Common.{◌≡◌, ◌<◌, length, arith, nat_lt, ℕ, Bool, true, false, List, [], ◌∷◌, refl, sym, ap, ◌∙◌, inl, inr}
use Rattle.std.specs.Prelude.{◌⊎◌, not, ◌&&◌, ◌==◌, Option, Some, None, find, position, slice_get, if◌then◌else◌}
use Rattle.std.specs.List.{list_any, position_or_len}
use Rattle.std.specs.Option.{option_or, option_map, option_map_or, option_and_then}
use Rattle.std.proofs.lemmas.Bool.{cases_Bool, both_ways, and_parts, and_from, eqb-true, or_parts, or_left, or_right}
use Rattle.std.proofs.lemmas.Bool.{false_from_ne_true, ltb-true}
use Rattle.std.proofs.lemmas.Option.{slice_get_cases}
use Rattle.dbc_records.specs.Records.{Message}
use Rattle.dbc_records.specs.Databases.{Database}
use Rattle.can_entries.specs.Groups.{is_extended, is_bad_number, group_number_of, is_group_number, frame_format, format_default}
use Rattle.can_entries.specs.Groups.{format_definition, group_of}
use Rattle.can_layout.specs.Plans.{plan_of}
use Rattle.can_layout.specs.Diagrams.{picture_of}
use Rattle.can_frames.specs.Frames.{Frame, body_of, frame_of, is_data, is_data_kind, number_of}
use Rattle.can_frames.specs.declared.frame.Kind.{Kind}
use Rattle.can_frames.specs.declared.frame.Kind.TheVariants as kinds
use Rattle.can_decode.specs.Choices.{has_number, is_group, in_group, exact_index, group_index, index_of_number, chosen_index}
use Rattle.can_decode.specs.declared.short.Short.{Short}
use Rattle.can_decode.specs.DecodedLines.{target_of, text_of_kind, chosen_target, frame_text, body_and_frame, decoded_line}
use Rattle.session_log.specs.Touched.{is_among, may_have_group, concerns, is_touched, line_touched}
use Rattle.session_log.specs.Elsewhere.{is_elsewhere, SameElsewhere}
use Rattle.session_log.proofs.ListFacts.{Implies, find-by_filter, find-same, find-passes, find-position}

-- ---- of CAN identifiers that are elsewhere

group_number-same : (numbers : List ℕ) (d e : Database) (n : ℕ) → SameElsewhere numbers d e → is_among numbers n ≡ false
    → is_group_number n e ≡ is_group_number n d
unfolding is_group_number frame_format format_default format_definition
group_number-same numbers d e n s out = rw (s.formats n out, s.defaults, s.definitions) refl

group-same : (numbers : List ℕ) (d e : Database) (n : ℕ) → SameElsewhere numbers d e → is_among numbers n ≡ false
    → group_of n e ≡ group_of n d
unfolding group_of
group-same numbers d e n s out = rw (group_number-same numbers d e n s out) refl

pub plan-same : (numbers : List ℕ) (d e : Database) (m : Message) → SameElsewhere numbers d e → is_among numbers m.head.number
    ≡ false → plan_of e m ≡ plan_of d m
plan-same numbers d e m s out = rw (s.rows m.head.number out) refl

pub picture-same : (numbers : List ℕ) (d e : Database) (m : Message) → SameElsewhere numbers d e → is_among numbers m.head.number
    ≡ false → picture_of e m ≡ picture_of d m
picture-same numbers d e m s out = rw (s.rows m.head.number out) refl

target-same : (short : Short) (numbers : List ℕ) (d e : Database) (m : Message) → SameElsewhere numbers d e
    → is_among numbers m.head.number ≡ false → target_of short e m ≡ target_of short d m
target-same short numbers d e m s out = rw (plan-same numbers d e m s out, group_number-same numbers d e m.head.number s out) refl

-- ---- CAN identifiers that concern a frame

unconcerned : (frame : ℕ) (numbers : List ℕ) (n : ℕ) → list_any (concerns frame) numbers ≡ false → is_among numbers n ≡ true
    → concerns frame n ≡ false
unconcerned frame [] n none among = absurd (cc)
unconcerned frame (k ∷ ks) n none among =
    let parts = or_parts (concerns frame k) (list_any (concerns frame) ks) none in
    elim (cases_Bool (k == n)) [
      | inl t ↦ (let same = eqb-true k n t in rw (← same) parts.0)
      | inr f ↦ unconcerned frame ks n parts.1 (rw f at among)
    ]

concerned_out : (frame : ℕ) (numbers : List ℕ) (n : ℕ) → list_any (concerns frame) numbers ≡ false → concerns frame n ≡ true
    → is_among numbers n ≡ false
concerned_out frame numbers n none here =
    elim (cases_Bool (is_among numbers n)) [ inl t ↦ absurd (both_ways _ (unconcerned frame numbers n none t) here) | inr f ↦ f ]

exact-concerns : (frame : ℕ) → Implies {X = Message} (has_number frame) (λ message. concerns frame message.head.number)
unfolding concerns
exact-concerns frame m t = or_left _ _ t

-- a message of a parameter group has a CAN identifier that may have one
group-is : (d : Database) (n group : ℕ) → is_group group (group_of n d) ≡ true → (may_have_group n ≡ true)
    × ((group_number_of n == group) ≡ true)
unfolding group_of is_group_number may_have_group
group-is d n group t =
    elim (cases_Bool (is_group_number n d)) [
      | inl is ↦ ((and_parts (is_extended n && not (is_bad_number n)) _ is).0, rw is at t)
      | inr isnt ↦ absurd (both_ways _ (rw isnt refl) t)
    ]

group-concerns : (frame : ℕ) (d : Database) → is_extended frame ≡ true → Implies {X = Message} (in_group d (group_number_of frame))
    (λ message. concerns frame message.head.number)
unfolding concerns
group-concerns frame d wide m t =
    let is = group-is d m.head.number (group_number_of frame) t in
    or_right _ _ (and_from _ _ wide (and_from _ _ is.0 is.1))

-- ---- the message that a frame goes to

module _ (frame : ℕ) (numbers : List ℕ) (d e : Database) (none : list_any (concerns frame) numbers ≡ false)
    (s : SameElsewhere numbers d e) where
  find-same_elsewhere : (p : Message → Bool) → Implies p (λ message. concerns frame message.head.number)
      → find p e.messages ≡ find p d.messages
  find-same_elsewhere p h =
      find-by_filter p (is_elsewhere numbers) (λ m t. rw (concerned_out frame numbers m.head.number none (h m t)) refl) d.messages
      e.messages s.messages

  no_group : (b : Database) (m : Message) → is_extended frame ≡ true → concerns frame m.head.number ≡ false
      → in_group b (group_number_of frame) m ≡ false
  no_group b m wide far = false_from_ne_true _ (λ t. both_ways _ far (group-concerns frame b wide m t))

  in_group-same : is_extended frame ≡ true → (m : Message) → in_group e (group_number_of frame) m
      ≡ in_group d (group_number_of frame) m
  in_group-same wide m =
      elim (cases_Bool (is_among numbers m.head.number)) [
        | inl among ↦ (let far = unconcerned frame numbers m.head.number none among in no_group e m wide far
            ∙ sym (no_group d m wide far))
        | inr out ↦ rw (group-same numbers d e m.head.number s out) refl
      ]

  -- the first message of the CAN identifier, and of the parameter group
  exact-same : find (has_number frame) e.messages ≡ find (has_number frame) d.messages
  exact-same = find-same_elsewhere (has_number frame) (exact-concerns frame)

  grouped-same : is_extended frame ≡ true → find (in_group e (group_number_of frame)) e.messages
      ≡ find (in_group d (group_number_of frame)) d.messages
  grouped-same wide = find-same_elsewhere _ (group-concerns frame e wide) ∙ find-same _ _ (in_group-same wide) d.messages

-- ---- the message at the chosen index

abbrev first_of_group : Database → ℕ → Option Message
first_of_group d frame = if is_extended frame then find (in_group d (group_number_of frame)) d.messages else None

abbrev chosen : Database → ℕ → Option Message
chosen d frame = option_or (find (has_number frame) d.messages) (first_of_group d frame)

position_within : {X : Type 0} (p : X → Bool) (xs : List X) (i : ℕ) → position p xs ≡ Some i → i < length xs
position_within p xs i e =
    elim (cases_Bool (nat_lt (position_or_len p xs) (length xs))) [
      | inl t ↦ (let same : position_or_len p xs ≡ i = (let f = rw t at e in cc) in rw (← same) (ltb-true _ _ t))
      | inr f ↦ absurd (let g = rw f at e in cc)
    ]

found-there : {X : Type 0} (xs : List X) (i : ℕ) → i < length xs → (x : X) × (slice_get xs i ≡ Some x)
found-there xs i within =
    elim (slice_get_cases xs i).1 [
      | inl there ↦ (there.0, there.2)
      | inr past ↦ absurd (omega (arith, within, past.0))
    ]

module _ (d : Database) (frame : ℕ) where
  group_message : option_and_then (slice_get d.messages) (group_index d frame) ≡ first_of_group d frame
  group_message =
      elim (cases_Bool (is_extended frame)) [
        | inl wide ↦ rw wide (find-position (in_group d (group_number_of frame)) d.messages)
        | inr narrow ↦ rw narrow refl
      ]

  by_exact : (o : Option ℕ) → exact_index d frame ≡ o → option_and_then (slice_get d.messages) (option_or o (group_index d frame))
      ≡ chosen d frame
  by_exact None e =
      let none : find (has_number frame) d.messages ≡ None = sym (find-position (has_number frame) d.messages)
      ∙ ap (option_and_then (slice_get d.messages)) e in
      rw none group_message
  by_exact (Some i) e =
      let at : find (has_number frame) d.messages ≡ slice_get d.messages i = sym (find-position (has_number frame) d.messages)
      ∙ ap (option_and_then (slice_get d.messages)) e in
      let there = found-there d.messages i (position_within (has_number frame) d.messages i e) in
      rw (at, there.1) refl

  message_at_index : option_and_then (slice_get d.messages) (index_of_number d frame) ≡ chosen d frame
  unfolding index_of_number
  message_at_index = by_exact (exact_index d frame) refl

map-inside : {X Y Z : Type 0} (f : Y → Z) (g : X → Option Y) (o : Option X) → option_and_then (λ x. option_map f (g x)) o
    ≡ option_map f (option_and_then g o)
map-inside f g None = refl
map-inside f g (Some x) = refl

target_by : (short : Short) (d : Database) (frame : Frame) → is_data frame ≡ true → chosen_target short d frame
    ≡ option_map (target_of short d) (chosen d (number_of frame))
unfolding chosen_target chosen_index
target_by short d frame carries =
    rw carries (map-inside (target_of short d) (slice_get d.messages) (index_of_number d (number_of frame))
    ∙ ap (option_map (target_of short d)) (message_at_index d (number_of frame)))

-- ---- the same message with the same target

if_same_then : {X : Type 0} (test : Bool) (x y z : X) → (test ≡ true → x ≡ y) → (if test then x else z) ≡ (if test then y else z)
if_same_then true x y z same = same refl
if_same_then false x y z same = refl

if_Some : {X : Type 0} (test : Bool) (o : Option X) (x : X) → (if test then o else None) ≡ Some x → (test ≡ true) × (o ≡ Some x)
if_Some true o x e = (refl, e)
if_Some false o x e = absurd (cc)

or_Some : {X : Type 0} (a b : Option X) (x : X) → option_or a b ≡ Some x → (a ≡ Some x) ⊎ (b ≡ Some x)
or_Some None b x e = inr e
or_Some (Some y) b x e = inl e

map_same : {X Y : Type 0} (g h : X → Y) (o : Option X) → ((x : X) → o ≡ Some x → g x ≡ h x) → option_map g o ≡ option_map h o
map_same g h None same = refl
map_same g h (Some x) same = ap Some (same x refl)

chosen-concerns : (frame : ℕ) (d : Database) (m : Message) → chosen d frame ≡ Some m → concerns frame m.head.number ≡ true
chosen-concerns frame d m e =
    elim (or_Some (find (has_number frame) d.messages) (first_of_group d frame) m e) [
      | inl exact ↦ exact-concerns frame m (find-passes (has_number frame) d.messages m exact)
      | inr group ↦ (let wide = if_Some (is_extended frame) _ m group in
          group-concerns frame d wide.0 m (find-passes (in_group d (group_number_of frame)) d.messages m wide.1))
    ]

module _ (short : Short) (numbers : List ℕ) (d e : Database) (s : SameElsewhere numbers d e) where
  chosen-same : (frame : ℕ) → list_any (concerns frame) numbers ≡ false → chosen e frame ≡ chosen d frame
  chosen-same frame none =
      rw (exact-same frame numbers d e none s)
      (ap (option_or (find (has_number frame) d.messages)) (if_same_then (is_extended frame) _ _ _ (grouped-same frame numbers d e
      none s)))

  chosen_target-same : (frame : Frame) → is_data frame ≡ true → list_any (concerns (number_of frame)) numbers ≡ false
      → chosen_target short e frame ≡ chosen_target short d frame
  chosen_target-same frame carries none =
      target_by short e frame carries
      ∙ ap (option_map (target_of short e)) (chosen-same (number_of frame) none)
      ∙ map_same (target_of short e) (target_of short d) (chosen d (number_of frame)) (λ m is.
      target-same short numbers d e m s (concerned_out (number_of frame) numbers m.head.number none
      (chosen-concerns (number_of frame) d m is)))
      ∙ sym (target_by short d frame carries)

  text-same : (kind : Kind) (frame : Frame) → (is_data_kind kind ≡ true → chosen_target short e frame ≡ chosen_target short d frame)
      → text_of_kind kind frame (chosen_target short e frame) ≡ text_of_kind kind frame (chosen_target short d frame)
  text-same kinds.Error frame same = refl
  text-same kinds.Remote frame same = refl
  text-same kinds.Classic frame same = rw (same refl) refl
  text-same kinds.Fd frame same = rw (same refl) refl

  untouched_none : (frame : Frame) → is_touched numbers frame ≡ false → is_data frame ≡ true
      → list_any (concerns (number_of frame)) numbers ≡ false
  unfolding is_touched
  untouched_none frame untouched carries = rw carries at untouched

  frame_text-same : (frame : Frame) → is_touched numbers frame ≡ false → frame_text short e frame ≡ frame_text short d frame
  frame_text-same frame untouched = text-same frame.kind frame (λ carries. chosen_target-same frame carries
      (untouched_none frame untouched carries))

  body-same : (body : List ℕ) (o : Option Frame) → option_map_or (is_touched numbers) o false ≡ false
      → body_and_frame short e body o ≡ body_and_frame short d body o
  body-same body None untouched = refl
  body-same body (Some frame) untouched = rw (frame_text-same frame untouched) refl

  pub decoded_line-same : (line : List ℕ) → line_touched numbers line ≡ false → decoded_line short e line ≡ decoded_line short d
      line
  unfolding line_touched decoded_line
  decoded_line-same line untouched = body-same (body_of line) (frame_of (body_of line)) untouched
