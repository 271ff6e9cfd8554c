-- A text has exactly one list of tokens, and it is the scanner's.
use Rattle.std.proofs.Common.{◌≡◌, ◌≢◌, ℕ, zero, suc, ◌+◌, ◌<◌, Bool, true, false, not, cond, eqb, List, [], ◌∷◌, ◌++◌, length}
use Rattle.std.proofs.Common.{take, drop, Option, Some, None, refl, sym, ap, ◌∙◌, arith}
use Rattle.std.specs.Prelude.{codes, ◌&&◌}
use Rattle.std.proofs.lemmas.Bool.{eqb-true, ne_eqb, and_parts, not-true}
use Rattle.std.proofs.lemmas.Bool.Decides.{nat_tests}
use Rattle.std.proofs.lemmas.List.{append-nil, take_at, drop_at, take-append-drop, length-append, length-drop, length-take-le}
use Rattle.dbc_tokens.specs.declared.token.Kind.{Kind}
use Rattle.dbc_tokens.specs.declared.token.Kind.TheVariants.{Text, Word, Number, Mark}
use Rattle.dbc_values.specs.Lexical.{quote, slash, is_blank}
use Rattle.dbc_tokens.specs.Tokens.{IsGap, IsToken, IsLongest, BeginsNoToken, Cut, End, Fault, ◌▸◌, line_feeds, HasTokens}
use Rattle.dbc_tokens.specs.inner.Scanner.{gap_len, token_at, token_then, rest_then, cut_of}
use Rattle.dbc_tokens.proofs.CutStep.{cut_of-step, rest_some, rest_none, Positive, token_at_positive}
use Rattle.dbc_tokens.proofs.Longest.{begins, any_all, token_begins, IsFound, token_found, token_only}
use Rattle.dbc_tokens.proofs.Gaps.{gap_front, gap_only, gap_none, none_gap}

-- the first byte of a token is no blank and no slash
abbrev pub begins_no_gap : ℕ → Bool
begins_no_gap b = not (is_blank b) && not (eqb b slash)

token_byte : (k : Kind) (b : ℕ) → begins k b ≡ true → begins_no_gap b ≡ true
token_byte Text b h = let e : b ≡ quote = eqb-true b quote h in rw e refl
token_byte Word b h = grind (arith, nat_tests)
token_byte Number b h = grind (arith, nat_tests)
token_byte Mark b h = any_all b begins_no_gap (codes ":;|@()[],+-") h refl

byte_no_gap : (b : ℕ) (s : List ℕ) → begins_no_gap b ≡ true → gap_len false (b ∷ s) ≡ 0
byte_no_gap b s h = let both = and_parts (not (is_blank b)) (not (eqb b slash)) h in rw (
  not-true (is_blank b) both.0,
  not-true (eqb b slash) both.1,
) refl

-- no gap begins where a token does
token_no_gap : (k : Kind) (t rest : List ℕ) → IsToken k t → gap_len false (t ++ rest) ≡ 0
token_no_gap k t rest h =
    let x = token_begins k t h in
    rw x.2 (byte_no_gap x.0 (x.1 ++ rest) (token_byte k x.0 x.3))

-- ---- no other list

pub at_gap : (line : ℕ) (gap rest : List ℕ) → IsGap gap rest → gap_len false rest ≡ 0 → cut_of line (gap ++ rest)
    ≡ rest_then cut_of (line + line_feeds gap) rest
at_gap line gap rest is stop =
    let n = gap_only gap rest is stop in
    cut_of-step line (gap ++ rest) ∙ rw (n, take_at gap rest (length gap) refl, drop_at gap rest (length gap) refl) refl

breaks_there : (line : ℕ) (rest : List ℕ) → rest ≢ [] → BeginsNoToken rest → rest_then cut_of line rest ≡ Fault line
breaks_there line rest some none = rest_none cut_of line rest (nothing (token_at rest) (token_found rest)) ∙ long rest some
  where
    nothing : (o : Option (Kind × ℕ)) → IsFound rest o → o ≡ None
    nothing None f = refl
    nothing (Some t) f = absurd (none t.0 (take t.1 rest) (drop t.1 rest) (take-append-drop t.1 rest) f.1)

    long : (rest : List ℕ) → rest ≢ [] → cond (eqb (length rest) 0) (End line) (Fault line) ≡ Fault line
    long [] some = absurd (some refl)
    long (b ∷ rest) some = rw (ne_eqb (suc (length rest)) 0 (omega arith)) refl

pub cut_unique : (line : ℕ) (text : List ℕ) (cut : Cut) → HasTokens line 0 text cut → cut ≡ cut_of line text
cut_unique line text (End at) (is, e) =
    rw e (sym (ap (cut_of line) (sym (append-nil text)) ∙ at_gap line text [] is refl))
cut_unique line text (Fault at) (gap, rest, whole, is, e, some, stop, none) =
    rw (whole, e) (sym (at_gap line gap rest is (none_gap rest stop) ∙ breaks_there (line + line_feeds gap) rest some none))
cut_unique line text (t ▸ cut) (gap, rest, whole, is, e, left, token, others) =
    let tail = cut_unique (t.line + line_feeds t.bytes) rest cut others in
    let there = rest_some cut_of (line + line_feeds gap) (t.bytes ++ rest) (t.kind, length t.bytes) (token_only t.kind t.bytes rest
    token) in
    let here : t.left ≡ length (t.bytes ++ rest) = left ∙ omega arith in
    let step : cut_of line (gap ++ (t.bytes ++ rest)) ≡ t ▸ cut_of (t.line + line_feeds t.bytes) rest =
    at_gap line gap (t.bytes ++ rest) is (token_no_gap t.kind t.bytes rest token.token) ∙ there
    ∙ rw (take_at t.bytes rest (length t.bytes) refl, drop_at t.bytes rest (length t.bytes) refl, ← e, ← here) refl in
    rw (whole, step, tail) refl

-- ---- the scanner's list

-- shorter texts have theirs
abbrev CutsBelow : ℕ → Type 0
CutsBelow n = (line : ℕ) (text : List ℕ) → length text < n → HasTokens line 0 text (cut_of line text)

token_cut : (line : ℕ) (text gap : List ℕ) (b : ℕ) (rest : List ℕ) → text ≡ gap ++ b ∷ rest → IsGap gap (b ∷ rest)
    → gap_len false (b ∷ rest) ≡ 0 → CutsBelow (length text) → (o : Option (Kind × ℕ)) → IsFound (b ∷ rest) o → Positive o
    → HasTokens line 0 text (token_then cut_of (line + line_feeds gap) (b ∷ rest) o)
token_cut line text gap b rest whole is stop shorter None f some = (
  gap,
  b ∷ rest,
  whole,
  is,
  refl,
  (λ e. let x : ◌≡◌ {A = List ℕ} (b ∷ rest) [] = e in cc),
  gap_none (b ∷ rest) stop,
  f,
)
token_cut line text gap b rest whole is stop shorter (Some t) f some =
    let bytes = take t.1 (b ∷ rest) in
    let others = drop t.1 (b ∷ rest) in
    let parts : bytes ++ others ≡ b ∷ rest = take-append-drop t.1 (b ∷ rest) in
    let len : length bytes ≡ t.1 = length-take-le t.1 (b ∷ rest) f.0 in
    let longest : IsLongest t.0 bytes others =
    record { token = f.1; longest = λ k front more e h. rw len (f.2 k front more (e ∙ parts) h) } in (
      gap,
      others,
      rw parts whole,
      rw parts is,
      refl,
      ap length (sym parts) ∙ omega arith,
      longest,
      shorter _ others (omega (arith, ap length whole, length-append gap (b ∷ rest), length-drop t.1 (b ∷ rest))),
    )

rest_cut : (line : ℕ) (text gap rest : List ℕ) → text ≡ gap ++ rest → IsGap gap rest → gap_len false rest ≡ 0
    → CutsBelow (length text) → HasTokens line 0 text (rest_then cut_of (line + line_feeds gap) rest)
rest_cut line text gap [] whole is stop shorter = let e : text ≡ gap = whole ∙ append-nil gap in rw e (is, refl)
rest_cut line text gap (b ∷ rest) whole is stop shorter = token_cut line text gap b rest whole is stop shorter (token_at (b ∷ rest))
    (token_found (b ∷ rest)) (token_at_positive (b ∷ rest))

cuts_below : (n : ℕ) → CutsBelow n
cuts_below zero line text lt = absurd (omega arith)
cuts_below (suc n) line text lt =
    let g = gap_len false text in
    let front = gap_front false text in
    rw (cut_of-step line text) (rest_cut line text (take g text) (drop g text) (sym (take-append-drop g text)) front.0 front.1
    (λ l t s. cuts_below n l t (omega arith)))

pub cut_is : (line : ℕ) (text : List ℕ) → HasTokens line 0 text (cut_of line text)
cut_is line text = cuts_below (suc (length text)) line text (omega arith)
