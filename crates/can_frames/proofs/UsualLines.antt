-- Lines as most are.
use Rattle.std.proofs.Common.{◌≡◌, ℕ, ◌+◌, ◌||◌, Bool, true, false, true≢false, List, [], ◌∷◌, ◌++◌, length, take}
use Rattle.std.proofs.Common.{drop, length-append, take-append-drop, Some, inl, refl, sym, ap, subst, ◌∙◌, arith}
use Rattle.std.specs.List.{list_any}
use Rattle.std.specs.Result.{result_ok}
use Rattle.std.proofs.lemmas.List.{append-nil, append_assoc}
use Rattle.hex.specs.Hex.{decode_of}
use Rattle.dbc_values.specs.Lexical.{space}
use Rattle.can_frames.specs.declared.frame.Kind.TheVariants.{Classic}
use Rattle.can_frames.specs.LogLines.{is_log_blank, first_word, after_first_word, is_stamp}
use Rattle.can_frames.specs.Frames.{Frame, Identifier, number_sign, identifier_of, frame_with, frame_of_word}
use Rattle.can_frames.specs.LogGrammar.{HasNoBlank, IsFrameText}
use Rattle.can_frames.proofs.Runs.{Stops}
use Rattle.can_frames.proofs.LineWords.{first_word_is, after_first_word_is}
use Rattle.can_frames.proofs.Stamps.{stamp_found, stamp_unbroken}
use Rattle.can_frames.proofs.Hexadecimals.{length-SpellsBytes, bytes_found}
use Rattle.can_frames.proofs.Identifiers.{identifier_found}
use Rattle.can_frames.proofs.Grammar.{frame_there, frame_unbroken}

-- ---- the stamp

begins_by : (b : ℕ) (first : Bool) → is_log_blank b ≡ first → first || false ≡ false → is_log_blank b ≡ false
begins_by b true is none = absurd (true≢false none)
begins_by b false is none = is

no_blank_first : (text : List ℕ) → list_any is_log_blank (take 1 text) ≡ false → Stops is_log_blank text
no_blank_first [] none = tt
no_blank_first (b ∷ text) none = begins_by b (is_log_blank b) refl none

pub record BeginsWithStamp (body after : List ℕ) : Type 0 where
  pub stamp : is_stamp (first_word body) ≡ true
  pub rest : after ≡ after_first_word body

begins : (stamp after : List ℕ) → is_stamp stamp ≡ true → list_any is_log_blank (take 1 after) ≡ false
    → BeginsWithStamp (stamp ++ ((space ∷ []) ++ after)) after
begins stamp after is no_blank =
    let unbroken : HasNoBlank stamp = stamp_unbroken stamp (stamp_found stamp is) in
    let first : first_word (stamp ++ ((space ∷ []) ++ after)) ≡ stamp =
    first_word_is stamp ((space ∷ []) ++ after) unbroken refl in
    record {
      stamp = ap is_stamp first ∙ is;
      rest = sym (after_first_word_is stamp (space ∷ []) after unbroken (refl, tt) refl (no_blank_first after no_blank));
    }

-- the first twenty bytes are a stamp and a blank
pub usual_stamp : (body twenty after : List ℕ) → twenty ≡ take 20 body → after ≡ drop 20 body
    → is_stamp (take 19 twenty) ≡ true → drop 19 twenty ≡ space ∷ [] → list_any is_log_blank (take 1 after) ≡ false
    → BeginsWithStamp body after
usual_stamp body twenty after front back is blank no_blank =
    let parts : twenty ≡ take 19 twenty ++ (space ∷ []) = sym (take-append-drop 19 twenty)
    ∙ ap (λ blank. take 19 twenty ++ blank) blank in
    let whole : body ≡ take 19 twenty ++ ((space ∷ []) ++ after) = sym (take-append-drop 20 body)
    ∙ ap (λ front. front ++ drop 20 body) (sym front ∙ parts) ∙ ap (λ back. (take 19 twenty ++ (space ∷ [])) ++ back) (sym back)
    ∙ append_assoc (take 19 twenty) (space ∷ []) after in
    subst (λ body. BeginsWithStamp body after) (sym whole) (begins (take 19 twenty) after is no_blank)

-- ---- the word of the frame

usual_frame_text : (rest digits pairs bytes : List ℕ) (identifier : Identifier) → rest ≡ digits ++ number_sign ∷ pairs
    → length pairs ≡ 16 → identifier_of digits ≡ Some identifier → result_ok (decode_of pairs) ≡ Some bytes
    → IsFrameText rest (frame_with identifier (record { kind = Classic; digits = pairs }) bytes)
usual_frame_text rest digits pairs bytes identifier parts sixteen is_identifier decodes =
    let spelled = bytes_found pairs bytes decodes in
    record {
      identifier = identifier;
      kind = Classic;
      digits = digits;
      tail = pairs;
      parts = parts;
      identified = identifier_found digits identifier is_identifier;
      given = record {
        pairs = pairs;
        code = [];
        parts = sym (append-nil pairs);
        spelled = spelled;
        few = let twice = length-SpellsBytes pairs bytes spelled in omega (arith, sixteen, twice);
        code_is = inl refl;
      };
      kind_is = refl;
      width = refl;
      number = refl;
    }

word_given : (rest : List ℕ) (frame : Frame) → IsFrameText rest frame → frame_of_word (first_word rest) ≡ Some frame
word_given rest frame is =
    let whole : first_word rest ≡ rest = ap first_word (sym (append-nil rest))
    ∙ first_word_is rest [] (frame_unbroken rest frame is) tt in
    ap frame_of_word whole ∙ frame_there rest frame is

-- an identifier, `#` and eight bytes that end the line are the word of a frame
pub usual_word : (rest front digits pairs bytes : List ℕ) (identifier : Identifier) (at : ℕ) → front ≡ take at rest
    → pairs ≡ drop at rest → length front + 16 ≡ length rest → front ≡ digits ++ number_sign ∷ []
    → identifier_of digits ≡ Some identifier → result_ok (decode_of pairs) ≡ Some bytes
    → frame_of_word (first_word rest) ≡ Some (frame_with identifier (record { kind = Classic; digits = pairs }) bytes)
usual_word rest front digits pairs bytes identifier at front_is pairs_are long marked is_identifier decodes =
    let whole : front ++ pairs ≡ rest = ap (λ front. front ++ pairs) front_is ∙ ap (λ pairs. take at rest ++ pairs) pairs_are
    ∙ take-append-drop at rest in
    let sixteen : length pairs ≡ 16 = let both = ap length whole in omega (arith, both, length-append front pairs, long) in
    let parts : rest ≡ digits ++ number_sign ∷ pairs = sym whole ∙ ap (λ front. front ++ pairs) marked
    ∙ append_assoc digits (number_sign ∷ []) pairs in
    word_given rest (frame_with identifier (record { kind = Classic; digits = pairs }) bytes)
    (usual_frame_text rest digits pairs bytes identifier parts sixteen is_identifier decodes)
