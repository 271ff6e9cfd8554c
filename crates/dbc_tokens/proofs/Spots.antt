-- What is after the gap at the front of a text.
use Rattle.std.proofs.Common.{◌≡◌, ℕ, ◌+◌, false, List, [], ◌++◌, length, take, drop, refl, sym, ap, subst, ◌∙◌, arith}
use Rattle.std.proofs.lemmas.List.{take-append-drop}
use Rattle.dbc_tokens.specs.Tokens.{IsGap, IsLongest, BeginsNoGap, Token, Cut, ◌▸◌, line_feeds, HasTokens}
use Rattle.dbc_tokens.specs.inner.Scanner.{gap_len, rest_then, cut_of}
use Rattle.dbc_tokens.proofs.Gaps.{gap_front, gap_none}
use Rattle.dbc_tokens.proofs.CutLaws.{at_gap, cut_is, cut_unique}

-- after this gap the text goes on here, with the same tokens
pub record IsFollowing (line : ℕ) (text gap here : List ℕ) : Type 0 where
  pub parts : text ≡ gap ++ here
  pub is_gap : IsGap gap here
  pub no_gap : BeginsNoGap here
  pub same : cut_of line text ≡ cut_of (line + line_feeds gap) here

pub after_gap : (line : ℕ) (text gap here : List ℕ) → gap ≡ take (gap_len false text) text → here ≡ drop (gap_len false text) text
    → IsFollowing line text gap here
after_gap line text gap here gap_is here_is =
    let n = gap_len false text in
    let front = gap_front false text in
    let is : IsGap gap here = rw (gap_is, here_is) front.0 in
    let stop : gap_len false here ≡ 0 = rw here_is front.1 in
    let parts : text ≡ gap ++ here = rw (gap_is, here_is) (sym (take-append-drop n text)) in
    let none : IsGap [] here = ([], refl, tt) in
    let at : line + line_feeds gap + 0 ≡ line + line_feeds gap = omega arith in
    record {
      parts = parts;
      is_gap = is;
      no_gap = gap_none here stop;
      same = ap (cut_of line) parts ∙ at_gap line gap here is stop
          ∙ sym (at_gap (line + line_feeds gap) [] here none stop ∙ ap (λ l. rest_then cut_of l here) at);
    }

-- this token is at the front, before this rest with these tokens
pub record IsFront (line : ℕ) (here : List ℕ) (t : Token) (cut : Cut) (rest : List ℕ) : Type 0 where
  pub parts : here ≡ t.bytes ++ rest
  pub in_line : t.line ≡ line
  pub left : t.left ≡ length here
  pub longest : IsLongest t.kind t.bytes rest
  pub others : cut ≡ cut_of (t.line + line_feeds t.bytes) rest

front_of : (line : ℕ) (here gap rest : List ℕ) (t : Token) (cut : Cut) → gap ≡ [] → here ≡ gap ++ (t.bytes ++ rest)
    → t.line ≡ line + line_feeds gap → t.left ≡ length (t.bytes ++ rest) + 0 → IsLongest t.kind t.bytes rest
    → HasTokens (t.line + line_feeds t.bytes) 0 rest cut
    → IsFront line here t cut rest
front_of line here gap rest t cut none whole e left longest others = record {
  parts = whole ∙ ap (λ (g : List ℕ). g ++ (t.bytes ++ rest)) none;
  in_line = e ∙ ap (λ (g : List ℕ). line + line_feeds g) none ∙ omega arith;
  left = left ∙ omega (arith, ap (λ (x : List ℕ). length x) (whole ∙ ap (λ (g : List ℕ). g ++ (t.bytes ++ rest)) none));
  longest = longest;
  others = cut_unique (t.line + line_feeds t.bytes) rest cut others;
}

-- if no gap begins, the first token is at the front
pub token_front : (line : ℕ) (here : List ℕ) (t : Token) (cut : Cut) → BeginsNoGap here → cut_of line here ≡ t ▸ cut
    → (rest : List ℕ) × IsFront line here t cut rest
token_front line here t cut none is =
    let h = subst (HasTokens line 0 here) is (cut_is line here) in
    (h.1, front_of line here h.0 h.1 t cut (none h.0 (t.bytes ++ h.1) (sym h.2) h.3) h.2 h.4 h.5 h.6 h.7)
