-- A log in two parts.
use Rattle.std.proofs.Common.{◌≡◌, ◌==◌, ◌++◌, ℕ, true, false, List, [], ◌∷◌, refl, ap, ◌∙◌}
use Rattle.std.specs.List.{flat_map}
use Rattle.std.proofs.lemmas.List.Concat.{flat_map-append}
use Rattle.dbc_values.specs.Lexical.{line_feed}
use Rattle.can_line_stream.specs.Lines.{lines_of}
use Rattle.can_line_stream.specs.LineTexts.{line_text}
use Rattle.can_decode.specs.DecodedLines.{Bus, bus_line, decoded_log}

-- the lines up to a line feed, of which there is one at least
record Begins (front back : List ℕ) : Type 0 where
  first : List ℕ
  others : List (List ℕ)
  of_front : lines_of (front ++ line_feed ∷ []) ≡ first ∷ others
  of_both : lines_of (front ++ line_feed ∷ back) ≡ first ∷ others ++ lines_of back

begins : (front back : List ℕ) → Begins front back
begins [] back = record { first = []; others = []; of_front = refl; of_both = refl }
begins (b ∷ front) back =
    let further : Begins front back = begins front back in
    elim (b == line_feed) as (λ ends. (b == line_feed) ≡ ends → Begins (b ∷ front) back) [
      | true ↦ λ ends. record {
        first = [];
        others = further.first ∷ further.others;
        of_front = rw (ends, further.of_front) refl;
        of_both = rw (ends, further.of_both) refl;
      }
      | false ↦ λ stays. record {
        first = b ∷ further.first;
        others = further.others;
        of_front = rw (stays, further.of_front) refl;
        of_both = rw (stays, further.of_both) refl;
      }
    ] refl

pub lines_of_parts : (front back : List ℕ) → lines_of (front ++ line_feed ∷ back)
    ≡ lines_of (front ++ line_feed ∷ []) ++ lines_of back
lines_of_parts front back =
    let parts : Begins front back = begins front back in
    rw (parts.of_both, parts.of_front) refl

pub decoded_parts : (bus : Bus) (front back : List ℕ) → decoded_log bus (front ++ line_feed ∷ back)
    ≡ decoded_log bus (front ++ line_feed ∷ []) ++ decoded_log bus back
decoded_parts bus front back =
    ap (λ (lines : List (List ℕ)). flat_map (line_text (bus_line bus)) lines) (lines_of_parts front back)
    ∙ flat_map-append (line_text (bus_line bus)) (lines_of (front ++ line_feed ∷ [])) (lines_of back)
