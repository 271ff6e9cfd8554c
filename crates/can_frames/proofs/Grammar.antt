-- A line contains a frame exactly when the grammar states so.
use Rattle.std.proofs.Common.{◌≡◌, ℕ, ◌+◌, ◌*◌, ◌<◌, ◌==◌, inl, inr, Bool, true, false, not, List, [], ◌∷◌, ◌++◌, length, drop}
use Rattle.std.proofs.Common.{Option, Some, None, refl, sym, ap, subst, ◌∙◌, arith, length-append}
use Rattle.std.specs.Prelude.{option_and_then, option_map, if◌then◌else◌}
use Rattle.std.specs.List.{prefix_len, AllByRecursion}
use Rattle.std.specs.Result.{result_ok}
use Rattle.std.proofs.lemmas.Bool.{not-false, eqb-true}
use Rattle.hex.specs.Hex.{decode_of}
use Rattle.can_frames.specs.declared.frame.Kind.{Kind}
use Rattle.can_frames.specs.declared.frame.Kind.TheVariants.{Error}
use Rattle.can_frames.specs.LogLines.{first_word, after_first_word, is_log_blank, is_stamp, frame_word}
use Rattle.can_frames.specs.Frames.{Frame, Identifier, number_sign, frame_with, frame_of_parts, before_number_sign, following_first}
use Rattle.can_frames.specs.Frames.{after_number_sign, identifier_of, form_of, frame_of_word, frame_of}
use Rattle.can_frames.specs.LogGrammar.{HasNoBlank, SpellsFurther, IsIdentifierText, IsFrameText, IsStampText, IsWord, AreBlanks}
use Rattle.can_frames.specs.LogGrammar.{IsFollowingWord, IsLogLine}
use Rattle.can_frames.proofs.Runs.{all_append, Stops, rest_stops, front_and_rest, front_is, rest_is}
use Rattle.can_frames.proofs.LineWords.{HeadWord, head_word, first_word_is, after_first_word_is, some_blanks, blanks_end}
use Rattle.can_frames.proofs.LineWords.{word_begins, after_ends, is_after, some_in, HasWords, has_words, frame_word_is}
use Rattle.can_frames.proofs.Stamps.{stamp_found, stamp_there, stamp_unbroken}
use Rattle.can_frames.proofs.Hexadecimals.{some_same, no_digit, bytes_found, bytes_there}
use Rattle.can_frames.proofs.Identifiers.{identifier_unbroken, identifier_found, identifier_there}
use Rattle.can_frames.proofs.Tails.{tail_unbroken, form_found, HasForm, form_there}

-- ---- the word of the frame

abbrev no_mark : ℕ → Bool
no_mark b = not (b == number_sign)

marked : (rest tail : List ℕ) → Stops no_mark rest → following_first rest ≡ Some tail → rest ≡ number_sign ∷ tail
marked [] tail stops is = absurd (let no : None ≡ Some tail = is in cc)
marked (b ∷ rest) tail stops is = ap (λ (b : ℕ). b ∷ rest) (eqb-true b number_sign (not-false (b == number_sign) stops))
    ∙ ap (λ rest. number_sign ∷ rest) (some_same rest tail is)

frame_by : (word : List ℕ) (frame : Frame) (identifier : Option Identifier) (tail : Option (List ℕ))
    → identifier_of (before_number_sign word) ≡ identifier → after_number_sign word ≡ tail
    → option_and_then (λ identifier. option_and_then (frame_of_parts identifier) (option_and_then form_of tail)) identifier
    ≡ Some frame → IsFrameText word frame
frame_by word frame None tail is_identifier is_tail is = absurd (let no : None ≡ Some frame = is in cc)
frame_by word frame (Some identifier) None is_identifier is_tail is = absurd (let no : None ≡ Some frame = is in cc)
frame_by word frame (Some identifier) (Some tail) is_identifier is_tail is =
    elim (form_of tail) as (λ form. form_of tail ≡ form → option_and_then (frame_of_parts identifier) form ≡ Some frame
    → IsFrameText word frame) [
      | None ↦ λ is_form is. absurd (let no : None ≡ Some frame = is in cc)
      | Some form ↦ λ is_form is.
          elim (result_ok (decode_of form.digits)) as (λ bytes. result_ok (decode_of form.digits) ≡ bytes
          → option_map (frame_with identifier form) bytes ≡ Some frame → IsFrameText word frame) [
            | None ↦ λ decodes is. absurd (let no : None ≡ Some frame = is in cc)
            | Some bytes ↦ λ decodes is.
                subst (IsFrameText word) (some_same (frame_with identifier form bytes) frame is) (record {
                  identifier = identifier;
                  kind = form.kind;
                  digits = before_number_sign word;
                  tail = tail;
                  parts = front_and_rest no_mark word ∙ ap (λ rest. before_number_sign word ++ rest)
                      (marked (drop (prefix_len no_mark word) word) tail (rest_stops no_mark word) is_tail);
                  identified = identifier_found (before_number_sign word) identifier is_identifier;
                  given = form_found tail bytes form is_form (bytes_found form.digits bytes decodes);
                  kind_is = refl;
                  width = refl;
                  number = refl;
                })
          ] refl is
    ] refl is

frame_found : (word : List ℕ) (frame : Frame) → frame_of_word word ≡ Some frame → IsFrameText word frame
unfolding frame_of_word
frame_found word frame is = frame_by word frame (identifier_of (before_number_sign word)) (after_number_sign word) refl refl is

no_marks : (before : ℕ) (text : List ℕ) (number : ℕ) → SpellsFurther before text number → AllByRecursion (λ b. no_mark b ≡ true)
    text
no_marks before [] number spelled = tt
no_marks before (digit ∷ text) number spelled = (
  ap not (no_digit number_sign digit spelled.0 refl spelled.1),
  no_marks (before * 16 + spelled.0) text number spelled.2,
)

identifier_unmarked : (text : List ℕ) (identifier : Identifier) → IsIdentifierText text identifier
    → AllByRecursion (λ b. no_mark b ≡ true) text
identifier_unmarked text identifier (inl is) = no_marks 0 text identifier.number is.spelled
identifier_unmarked text identifier (inr is) = no_marks 0 text is.number is.spelled

abbrev the_frame : Kind → Bool → ℕ → List ℕ → Frame
the_frame kind extended number bytes = record { kind = kind; extended = extended; identifier = number; bytes = bytes }

frame_of_fields : (kind : Kind) (extended : Bool) (number : ℕ) (frame : Frame) → frame.kind ≡ kind → frame.extended ≡ extended
    → frame.identifier ≡ number → the_frame kind extended number frame.bytes ≡ frame
frame_of_fields kind extended number frame kind_is width number_is =
    let step_one : the_frame kind extended number frame.bytes ≡ the_frame frame.kind extended number frame.bytes =
    ap (λ (k : Kind). the_frame k extended number frame.bytes) (sym kind_is) in
    let step_two : the_frame frame.kind extended number frame.bytes ≡ the_frame frame.kind frame.extended number frame.bytes =
    ap (λ (e : Bool). the_frame frame.kind e number frame.bytes) (sym width) in
    let step_three : the_frame frame.kind frame.extended number frame.bytes ≡ the_frame frame.kind frame.extended frame.identifier
    frame.bytes = ap (λ (n : ℕ). the_frame frame.kind frame.extended n frame.bytes) (sym number_is) in
    step_one ∙ step_two ∙ step_three

pub frame_there : (word : List ℕ) (frame : Frame) → IsFrameText word frame → frame_of_word word ≡ Some frame
unfolding frame_of_word
frame_there word frame is =
    let unmarked : AllByRecursion (λ b. no_mark b ≡ true) is.digits = identifier_unmarked is.digits is.identifier is.identified in
    let front : before_number_sign word ≡ is.digits = ap before_number_sign is.parts
    ∙ front_is no_mark is.digits (number_sign ∷ is.tail) unmarked refl in
    let rest : drop (prefix_len no_mark word) word ≡ number_sign ∷ is.tail = ap (λ word. drop (prefix_len no_mark word) word)
    is.parts ∙ rest_is no_mark is.digits (number_sign ∷ is.tail) unmarked refl in
    let form : HasForm is.kind is.tail frame.bytes = form_there is.kind is.tail frame.bytes is.given in
    let identified : identifier_of (before_number_sign word) ≡ Some is.identifier = ap identifier_of front
    ∙ identifier_there is.digits is.identifier is.identified in
    let after : after_number_sign word ≡ Some is.tail = ap following_first rest in
    rw (identified, after, form.form_is, bytes_there form.digits frame.bytes form.spelled)
    (ap Some (frame_of_fields (if is.identifier.marks_error then Error else is.kind) is.identifier.extended is.identifier.number
    frame is.kind_is is.width is.number))

some_parts : (digits tail : List ℕ) → 0 < length (digits ++ number_sign ∷ tail)
some_parts digits tail = omega (arith, length-append digits (number_sign ∷ tail))

some_word : (word : List ℕ) (frame : Frame) → IsFrameText word frame → 0 < length word
some_word word frame is = subst (λ word. 0 < length word) (sym is.parts) (some_parts is.digits is.tail)

pub frame_unbroken : (word : List ℕ) (frame : Frame) → IsFrameText word frame → HasNoBlank word
frame_unbroken word frame is =
    subst HasNoBlank (sym is.parts) (all_append (λ b. is_log_blank b ≡ false) is.digits (number_sign ∷ is.tail)
    (identifier_unbroken is.digits is.identifier is.identified) (refl, tail_unbroken is.kind is.tail frame.bytes is.given))

frame_word_of : (word : List ℕ) (frame : Frame) → IsFrameText word frame → IsWord word
frame_word_of word frame is = record { some = some_word word frame is; unbroken = frame_unbroken word frame is }

-- ---- the line

line_by : (body : List ℕ) (frame : Frame) (word : Option (List ℕ)) → frame_word body ≡ word → option_and_then frame_of_word word
    ≡ Some frame → IsLogLine body frame
line_by body frame None is_word is = absurd (let no : None ≡ Some frame = is in cc)
line_by body frame (Some word) is_word is =
    let has : HasWords body word = has_words body word is_word in
    let after_stamp : List ℕ = after_first_word body in
    let after_interface : List ℕ = after_first_word after_stamp in
    let first : HeadWord body (first_word body) after_stamp = head_word body in
    let second : HeadWord after_stamp (first_word after_stamp) after_interface = head_word after_stamp in
    let third : HeadWord after_interface (first_word after_interface) (after_first_word after_interface) =
    head_word after_interface in
    let frame_is : IsFrameText (first_word after_interface) frame = subst (λ word. IsFrameText word frame) (sym has.word_is)
    (frame_found word frame is) in
    let some : 0 < length (first_word after_interface) = some_word (first_word after_interface) frame frame_is in
    let some_stamp : 0 < length after_stamp = subst (λ text. 0 < length text) (sym second.parts) (some_in (first_word after_stamp)
    (second.blanks ++ after_interface) has.interface_is) in
    let some_interface : 0 < length after_interface = subst (λ text. 0 < length text) (sym third.parts)
    (some_in (first_word after_interface) (third.blanks ++ after_first_word after_interface) some) in
    record {
      stamp = first_word body;
      stamp_gap = first.blanks;
      interface = first_word after_stamp;
      interface_gap = second.blanks;
      frame_text = first_word after_interface;
      after = third.blanks ++ after_first_word after_interface;
      parts =
          first.parts
          ∙ ap (λ rest. first_word body ++ (first.blanks ++ rest)) (second.parts
          ∙ ap (λ rest. first_word after_stamp ++ (second.blanks ++ rest)) third.parts);
      stamp_is = stamp_found (first_word body) has.stamp_is;
      stamp_gap_is = record {
        some = some_blanks first.blanks after_stamp first.ends first.begins some_stamp;
        blank = first.blank;
      };
      interface_is = record { some = has.interface_is; unbroken = second.unbroken };
      interface_gap_is = record {
        some = some_blanks second.blanks after_interface second.ends second.begins some_interface;
        blank = second.blank;
      };
      frame_is = frame_is;
      after_is = is_after (third.blanks ++ after_first_word after_interface) third.ends;
    }

pub found : (body : List ℕ) (frame : Frame) → frame_of body ≡ Some frame → IsLogLine body frame
unfolding frame_of
found body frame is = line_by body frame (frame_word body) refl is

-- the three words of a line by the grammar
words_there : (stamp stamp_gap interface interface_gap word after : List ℕ) → IsStampText stamp → AreBlanks stamp_gap
    → IsWord interface → AreBlanks interface_gap → IsWord word → IsFollowingWord after
    → frame_word (stamp ++ (stamp_gap ++ (interface ++ (interface_gap ++ (word ++ after))))) ≡ Some word
words_there stamp stamp_gap interface interface_gap word after stamp_is stamp_gap_is interface_is interface_gap_is word_is
    after_is =
    let after_interface : List ℕ = word ++ after in
    let after_stamp : List ℕ = interface ++ (interface_gap ++ after_interface) in
    let body : List ℕ = stamp ++ (stamp_gap ++ after_stamp) in
    let unbroken : HasNoBlank stamp = stamp_unbroken stamp stamp_is in
    let first : first_word body ≡ stamp = first_word_is stamp (stamp_gap ++ after_stamp) unbroken
    (blanks_end stamp_gap after_stamp stamp_gap_is) in
    let first_after : after_first_word body ≡ after_stamp =
    after_first_word_is stamp stamp_gap after_stamp unbroken stamp_gap_is.blank (blanks_end stamp_gap after_stamp stamp_gap_is)
    (word_begins interface (interface_gap ++ after_interface) interface_is) in
    let second : first_word after_stamp ≡ interface = first_word_is interface (interface_gap ++ after_interface)
    interface_is.unbroken (blanks_end interface_gap after_interface interface_gap_is) in
    let second_after : after_first_word after_stamp ≡ after_interface =
    after_first_word_is interface interface_gap after_interface interface_is.unbroken interface_gap_is.blank
    (blanks_end interface_gap after_interface interface_gap_is) (word_begins word after word_is) in
    let third : first_word after_interface ≡ word = first_word_is word after word_is.unbroken (after_ends after after_is) in
    frame_word_is body word (record {
      stamp_is = ap is_stamp first ∙ stamp_there stamp stamp_is;
      interface_is = subst (λ text. 0 < length text) (sym (ap first_word first_after ∙ second)) interface_is.some;
      word_is = ap (λ text. first_word (after_first_word text)) first_after ∙ ap first_word second_after ∙ third;
    })

pub there : (body : List ℕ) (frame : Frame) → IsLogLine body frame → frame_of body ≡ Some frame
unfolding frame_of
there body frame is =
    ap (option_and_then frame_of_word) (ap frame_word is.parts ∙ words_there is.stamp is.stamp_gap is.interface is.interface_gap
    is.frame_text is.after is.stamp_is is.stamp_gap_is is.interface_is is.interface_gap_is (frame_word_of is.frame_text frame
    is.frame_is) is.after_is)
    ∙ frame_there is.frame_text frame is.frame_is

-- a line contains one frame
pub same_frame : (body : List ℕ) (one other : Frame) → IsLogLine body one → IsLogLine body other → one ≡ other
same_frame body one other is_one is_other = some_same one other (sym (there body one is_one) ∙ there body other is_other)
