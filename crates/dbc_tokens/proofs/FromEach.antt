-- From the first byte of each token on, a text has that token and those after it.
use Rattle.std.proofs.Common.{◌≡◌, ℕ, ◌+◌, ◌-◌, List, [], ◌∷◌, ◌++◌, length, drop, refl, sym, ap, subst, ◌∙◌, append_assoc, arith}
use Rattle.std.proofs.lemmas.List.{drop_at, length-append}
use Rattle.dbc_tokens.specs.Tokens.{Cut, End, Fault, ◌▸◌, line_feeds, HasTokens}
use Rattle.dbc_tokens.specs.Places.{TokensFromEach}
use Rattle.dbc_tokens.specs.inner.Scanner.{cut_of}
use Rattle.dbc_tokens.proofs.CutLaws.{cut_unique}

dropped_here : (before here : List ℕ) (n : ℕ) → n ≡ length here → drop (length (before ++ here) - n) (before ++ here) ≡ here
dropped_here before here n e =
    let size : length before ≡ length (before ++ here) - n = omega (arith, e, length-append before here) in
    drop_at before here (length (before ++ here) - n) size

pub from_each : (text before : List ℕ) (line : ℕ) (rest : List ℕ) (cut : Cut) → text ≡ before ++ rest → HasTokens line 0 rest cut
    → TokensFromEach text cut
from_each text before line rest (End at) same has = tt
from_each text before line rest (Fault at) same has = tt
from_each text before line rest (t ▸ cut) same (gap, others, whole, is, e, left, longest, more) =
    let here = t.bytes ++ others in
    let size : t.left ≡ length here = left ∙ omega arith in
    let at : text ≡ (before ++ gap) ++ here = same ∙ ap (λ (x : List ℕ). before ++ x) whole ∙ sym (append_assoc before gap here) in
    let following : text ≡ ((before ++ gap) ++ t.bytes) ++ others = at ∙ sym (append_assoc (before ++ gap) t.bytes others) in
    let plus : t.line ≡ t.line + line_feeds [] = omega arith in
    let tokens : HasTokens t.line 0 here (t ▸ cut) = ([], others, refl, ([], refl, tt), plus, left, longest, more) in (
      subst (λ (x : List ℕ). cut_of t.line (drop (length x - t.left) x) ≡ t ▸ cut) (sym at)
          (ap (cut_of t.line) (dropped_here (before ++ gap) here t.left size) ∙ sym (cut_unique t.line here (t ▸ cut) tokens)),
      from_each text ((before ++ gap) ++ t.bytes) (t.line + line_feeds t.bytes) others cut following more,
    )
