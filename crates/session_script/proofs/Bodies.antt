-- A line without one carriage return at its end.
use Rattle.std.proofs.Common.{◌≡◌, ℕ, ◌-◌, ◌≤◌, ◌==◌, inl, inr, Bool, true, false, true≢false, cond, List, [], ◌∷◌, ◌++◌}
use Rattle.std.proofs.Common.{length, take, get_or, refl, sym, ap, ◌∙◌, arith, length-append}
use Rattle.std.specs.Prelude.{slice_index}
use Rattle.std.proofs.Math.Seq.{take-append_seam}
use Rattle.std.proofs.lemmas.Bool.{eqb-true}
use Rattle.std.proofs.lemmas.Grind.{common_steps}
use Rattle.std.proofs.lemmas.List.{take_more, get_or_push}
use Rattle.dbc_values.specs.Lexical.{carriage_return}
use Rattle.can_frames.specs.LogLines.{body_of}
use Rattle.session_script.specs.ScriptGrammar.{EndsInReturn, HasBody}

abbrev ends_so : List ℕ → Bool
ends_so line = slice_index line (length line - 1) == carriage_return

split_last : (line : List ℕ) → 1 ≤ length line → line ≡ take (length line - 1) line ++ get_or line (length line - 1) 0 ∷ []
split_last line some = grind (arith, common_steps, take_more line (length line - 1) 0)

ends_in : (line : List ℕ) → ends_so line ≡ true → line ≡ take (length line - 1) line ++ carriage_return ∷ []
ends_in [] is = absurd (true≢false (sym is))
ends_in (b ∷ line) is =
    let some : 1 ≤ length (b ∷ line) = omega arith in
    split_last (b ∷ line) some
    ∙ ap (λ last. take (length (b ∷ line) - 1) (b ∷ line) ++ last ∷ []) (eqb-true (slice_index (b ∷ line) (length (b ∷ line) - 1))
    carriage_return is)

last_is : (front : List ℕ) → ends_so (front ++ carriage_return ∷ []) ≡ true
last_is front =
    let long : length (front ++ carriage_return ∷ []) - 1 ≡ length front =
    omega (arith, length-append front (carriage_return ∷ [])) in
    rw (long, get_or_push front carriage_return 0 (length front) refl) refl

ends : (line : List ℕ) → EndsInReturn line → ends_so line ≡ true
ends line is = rw is.1 (last_is is.0)

body_by : (line : List ℕ) (test : Bool) → ends_so line ≡ test → HasBody line (cond test (take (length line - 1) line) line)
body_by line true is = inl (ends_in line is)
body_by line false is = inr (refl, λ in_return. true≢false (sym (ends line in_return) ∙ is))

pub body_found : (line : List ℕ) → HasBody line (body_of line)
body_found line = body_by line (ends_so line) refl

cut_last : (body : List ℕ) → body_of (body ++ carriage_return ∷ []) ≡ body
cut_last body =
    let long : length (body ++ carriage_return ∷ []) - 1 ≡ length body = omega (arith, length-append body (carriage_return ∷ [])) in
    rw (last_is body, long) (take-append_seam body (carriage_return ∷ []))

uncut : (line : List ℕ) (test : Bool) → ends_so line ≡ test → (EndsInReturn line → ⊥)
    → cond test (take (length line - 1) line) line ≡ line
uncut line true is not_in_return = absurd (not_in_return (take (length line - 1) line, ends_in line is))
uncut line false is not_in_return = refl

pub body_there : (line body : List ℕ) → HasBody line body → body_of line ≡ body
body_there line body (inl is) = ap body_of is ∙ cut_last body
body_there line body (inr is) = uncut line (ends_so line) refl is.1 ∙ is.0
