-- One more line in the index of the kept lines, and one less.
use Rattle.std.proofs.Common.{◌≡◌, ◌<◌, ◌+◌, ◌%◌, ◌^◌, ◌==◌, ℕ, Bool, true, false, List, [], ◌∷◌, ◌++◌, length, map, refl, sym, ap}
use Rattle.std.proofs.Common.{◌∙◌, arith}
use Rattle.std.specs.Prelude.{Some, None, ◌&&◌, if◌then◌else◌}
use Rattle.std.proofs.lemmas.List.{append-nil, map_push}
use Rattle.can_entries.specs.Groups.{is_extended, group_number_of}
use Rattle.session_log.specs.declared.log_index.LogIndex.{LogIndex}
use Rattle.can_decode.specs.Choices.{data_number}
use Rattle.session_log.specs.Positions.{positions_from, position_from}
use Rattle.session_log.specs.inner.Indexes.{has_number, has_group, serials_at, SameSerials, Puts, Drops, IsIndexed}
use Rattle.session_log.proofs.Positions.{positions-push}
use Rattle.session_log.proofs.Serials.{without_first}

pub same_serials : (first : ℕ) (lines : List (List ℕ)) (before after : LogIndex) → IsIndexed first lines before
    → SameSerials before after → IsIndexed first lines after
same_serials first lines before after h same = record {
  by_number = λ number. ap (map (position_from first)) (same.by_number number) ∙ h.by_number number;
  by_group = λ group. ap (map (position_from first)) (same.by_group group) ∙ h.by_group group;
}

-- a line without a data frame
pub unlisted : (first : ℕ) (lines : List (List ℕ)) (line : List ℕ) (index : LogIndex) → data_number line ≡ None
    → IsIndexed first lines index → IsIndexed first (lines ++ line ∷ []) index
unlisted first lines line index none h = record {
  by_number = λ number. h.by_number number ∙ sym (positions-push (has_number number) 0 lines line ∙ rw none (append-nil _));
  by_group = λ group. h.by_group group ∙ sym (positions-push (has_group group) 0 lines line ∙ rw none (append-nil _));
}

-- the indexes of the items that pass, with those of one item more
one_more : {X : Type 0} (first : ℕ) (test : X → Bool) (items : List X) (item : X) (serial : ℕ) (before after : List ℕ)
    → position_from first serial ≡ length items
    → map (position_from first) before ≡ positions_from test 0 items → (passes : Bool) → test item ≡ passes
    → after ≡ before ++ (if passes then serial ∷ [] else [])
    → map (position_from first) after ≡ positions_from test 0 (items ++ item ∷ [])
one_more first test items item serial before after at h true t is =
    let here : position_from first serial ≡ 0 + length items = omega (arith, at) in
    ap (map (position_from first)) is ∙ map_push (position_from first) before serial
    ∙ ap (λ positions. positions ++ position_from first serial ∷ []) h
    ∙ ap (λ position. positions_from test 0 items ++ position ∷ []) here ∙ sym (positions-push test 0 items item ∙ rw t refl)
one_more first test items item serial before after at h false f is =
    ap (map (position_from first)) (is ∙ append-nil before) ∙ h ∙ sym (positions-push test 0 items item ∙ rw f (append-nil _))

-- a line with one
pub listed : (first : ℕ) (lines : List (List ℕ)) (line : List ℕ) (number serial : ℕ) (before after : LogIndex)
    → data_number line ≡ Some number → position_from first serial ≡ length lines → IsIndexed first lines before
    → Puts number serial before after → IsIndexed first (lines ++ line ∷ []) after
listed first lines line number serial before after is at h puts = record {
  by_number = λ other. one_more first (has_number other) lines line serial (serials_at other before.numbers)
      (serials_at other after.numbers) at (h.by_number other)
      (other == number) (rw is refl) (puts.by_number other);
  by_group = λ group. one_more first (has_group group) lines line serial (serials_at group before.groups)
      (serials_at group after.groups) at (h.by_group group)
      (is_extended number && group == group_number_of number) (rw is refl) (puts.by_group group);
}

-- ---- the first line goes

-- one without a data frame
pub unlisted_first : (first : ℕ) (line : List ℕ) (lines : List (List ℕ)) (index : LogIndex) → first < 2 ^ 64 → length lines < 2 ^ 64
    → data_number line ≡ None → IsIndexed first (line ∷ lines) index → IsIndexed ((first + 1) % 2 ^ 64) lines index
unlisted_first first line lines index within fits none h = record {
  by_number = λ number. without_first first (has_number number) line lines (serials_at number index.numbers)
      (serials_at number index.numbers) within fits (h.by_number number) false (rw none refl) refl;
  by_group = λ group. without_first first (has_group group) line lines (serials_at group index.groups)
      (serials_at group index.groups) within fits (h.by_group group) false (rw none refl) refl;
}

-- one with one
pub listed_first : (first : ℕ) (line : List ℕ) (lines : List (List ℕ)) (number : ℕ) (before after : LogIndex) → first < 2 ^ 64
    → length lines < 2 ^ 64
    → data_number line ≡ Some number → IsIndexed first (line ∷ lines) before → Drops number before after
    → IsIndexed ((first + 1) % 2 ^ 64) lines after
listed_first first line lines number before after within fits is h drops = record {
  by_number = λ other. without_first first (has_number other) line lines (serials_at other before.numbers)
      (serials_at other after.numbers) within fits (h.by_number other)
      (other == number) (rw is refl) (drops.by_number other);
  by_group = λ group. without_first first (has_group group) line lines (serials_at group before.groups)
      (serials_at group after.groups) within fits (h.by_group group)
      (is_extended number && group == group_number_of number) (rw is refl) (drops.by_group group);
}
