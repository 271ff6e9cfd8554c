-- A text that takes its index leaves fewer texts to assign, and each line no worse than before.
use Rattle.std.proofs.Common.{◌≡◌, ◌<◌, ◌+◌, ℕ, List, [], ◌∷◌, ◌++◌, length, refl, sym, ap, ◌∙◌, inl, inr, arith, take, get_or}
use Rattle.std.proofs.Common.{length-append, get_or-set_same, get_or-set_other}
use Rattle.std.specs.Prelude.{All, slice_set}
use Rattle.std.specs.List.{slice_index_or}
use Rattle.std.proofs.lemmas.List.{get_or_append_left, length-set, get_or_default, take_more, map-append}
use Rattle.std.proofs.lemmas.List.Elements.{All-push}
use Rattle.std.proofs.Math.Seq.{get_or-append_seam}
use Rattle.std.proofs.lemmas.List.Folds.{list_any-append}
use Rattle.std.proofs.lemmas.Bool.{or_from}
use Rattle.std.proofs.lemmas.Bool.Decides.{eqb_tells}
use Rattle.can_decode.specs.DecodedLines.{Bus, bus_line}
use Rattle.session_log.specs.declared.line.Line.{Line}
use Rattle.session_log.specs.declared.line.RedecodedLine.{RedecodedLine}
use Rattle.session_log.specs.Logs.{bytes_of, IsNumbered, IsDecoded, IsTextOf, Completes, TextsAt, position_of}

pub all_but_last : {X : Type 0} (P : X → Type 0) (xs : List X) (y : X) → All P (xs ++ y ∷ []) → All P xs
all_but_last P xs y h = λ k d within. rw (← get_or_append_left xs (y ∷ []) d k within)
    (h k d (omega (arith, length-append xs (y ∷ []))))

pub last_of_all : {X : Type 0} (P : X → Type 0) (xs : List X) (y : X) → All P (xs ++ y ∷ []) → P y
last_of_all P xs y h = rw (← get_or-append_seam xs y [] y) (h (length xs) y (omega (arith, length-append xs (y ∷ []))))

-- a line that takes another text keeps its bytes, and so do the others
bytes_stay : (lines : List Line) (position : ℕ) (line : Line) → position < length lines
    → bytes_of line ≡ bytes_of (slice_index_or lines position line)
    → (k : ℕ) (d : Line) → bytes_of (slice_index_or (slice_set lines position line) k d) ≡ bytes_of (slice_index_or lines k d)
bytes_stay lines position line within same k d =
    elim (eqb_tells k position) [
      | inl here ↦ rw here.1 (ap bytes_of (get_or-set_same lines position line d within) ∙ same
          ∙ ap bytes_of (get_or_default lines position line d within))
      | inr there ↦ ap bytes_of (get_or-set_other lines position k line d there.1)
    ]

-- a line that takes another text keeps its CAN identifier
pub numbered_still : (lines : List Line) (position : ℕ) (line : Line) → position < length lines → IsNumbered line → All IsNumbered
    lines
    → All IsNumbered (slice_set lines position line)
numbered_still lines position line within is all = λ k d inside.
    elim (eqb_tells k position) [
      | inl here ↦ rw (here.1, get_or-set_same lines position line d within) is
      | inr there ↦ rw (get_or-set_other lines position k line d there.1)
          (all k d (omega (arith, inside, length-set lines position line)))
    ]

pub one_given : (bus : Bus) (lines : List Line) (line : Line) (rest : List RedecodedLine) (redecoded : RedecodedLine)
    → bytes_of line ≡ bytes_of (slice_index_or lines redecoded.position line) → line.decoded.items ≡ redecoded.text.items
    → Completes bus lines (rest ++ redecoded ∷ []) → Completes bus (slice_set lines redecoded.position line) rest
one_given bus lines line rest redecoded same text h =
    let last = last_of_all (IsTextOf bus lines) rest redecoded h.texts in
    let stay = bytes_stay lines redecoded.position line last.0 same in
    record {
      texts = λ k d within.
          let old = all_but_last (IsTextOf bus lines) rest redecoded h.texts k d within in
          (rw length-set old.0, λ e. old.1 e ∙ ap (bus_line bus) (sym (stay (slice_index_or rest k d).position e)));
      others = λ k d within out.
          elim (eqb_tells redecoded.position k) [
            | inl here ↦ rw (← here.1) (rw (get_or-set_same lines redecoded.position line d last.0) (text ∙ last.1 line
                ∙ ap (bus_line bus) (sym same)))
            | inr there ↦ rw (get_or-set_other lines redecoded.position k line d (λ e. there.1 (sym e)))
                (h.others k d (omega (arith, length-set lines redecoded.position line)) (list_any-append _ rest (redecoded ∷ [])
                ∙ or_from _ _ out (or_from _ _ there.0 refl)))
          ];
    }

pub all_given : (bus : Bus) (lines : List Line) (redecoded : List RedecodedLine) → length redecoded ≡ 0 → Completes bus lines
    redecoded
    → All (IsDecoded bus) lines
all_given bus lines [] none h = λ k d within. h.others k d within refl
all_given bus lines (text ∷ texts) none h = absurd (omega arith)

-- ---- texts for indexes, one after another

pub one_made : (bus : Bus) (lines : List Line) (positions : List ℕ) (i : ℕ) (texts : List RedecodedLine) (redecoded : RedecodedLine)
    → i < length positions → redecoded.position ≡ get_or positions i redecoded.position → TextsAt bus lines (take i positions) texts
    → IsTextOf bus lines redecoded
    → TextsAt bus lines (take (i + 1) positions) (texts ++ redecoded ∷ [])
one_made bus lines positions i texts redecoded within is h text = record {
  order = map-append position_of texts (redecoded ∷ []) ∙ rw (h.order, is) (sym (take_more positions i redecoded.position within));
  texts = All-push (IsTextOf bus lines) texts redecoded h.texts text;
}
