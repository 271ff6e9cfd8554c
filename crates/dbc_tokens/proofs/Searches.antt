-- Steps of the searches for the end of a string and of a gap.
use Rattle.std.proofs.Common.{◌≡◌, ◌≢◌, ℕ, zero, suc, ◌+◌, ◌-◌, ◌<◌, ◌≤◌, Bool, true, false, cond, not, ◌||◌, eqb, List, [], ◌∷◌}
use Rattle.std.proofs.Common.{length, get_or, drop, Option, Some, None, refl, sym, ap, ◌∙◌, arith, inl, inr}
use Rattle.std.specs.Option.{option_map}
use Rattle.std.proofs.lemmas.Bool.{ne_eqb, eq-eqb, eqb-true, eqb-false, or_cases, or_parts, not-true, not-false}
use Rattle.std.proofs.lemmas.List.{drop_more, drop-drop, get_or-drop, length-drop}
use Rattle.dbc_values.specs.Lexical.{line_feed, quote, slash, backslash}
use Rattle.memchr.specs.Find.{IsFirstByte, is_byte}
use Rattle.dbc_tokens.specs.inner.Scanner.{gap_len, text_len}

-- whether the byte before position n is a backslash
abbrev pub before : Bool → List ℕ → ℕ → Bool
before after s zero = after
before after s (suc n) = eqb (get_or s n 0) backslash

bump : (b : Bool) (n : ℕ) (o : Option ℕ) → option_map (λ m. 1 + m) (cond b (Some n) (option_map (λ m. suc n + m) o))
    ≡ cond b (Some (suc n)) (option_map (λ m. suc (suc n) + m) o)
bump true n o = ap {B = Option ℕ} Some (omega arith)
bump false n None = refl
bump false n (Some m) = ap {B = Option ℕ} Some (omega arith)

pub is_before : (after : Bool) (b : ℕ) (s : List ℕ) (n : ℕ) → before after (b ∷ s) (suc n) ≡ before (eqb b backslash) s n
is_before after b s zero = refl
is_before after b s (suc n) = refl

-- the first quote closes, or is directly after a backslash
pub text_len-quote : (after : Bool) (s : List ℕ) (n : ℕ) → n < length s → ((k : ℕ) → k < n → get_or s k 0 ≢ quote)
    → get_or s n 0 ≡ quote
    → text_len after s ≡ cond (not (before after s n)) (Some n) (option_map (λ m. suc n + m) (text_len false (drop (suc n) s)))
text_len-quote after [] n lt none at = absurd (omega arith)
text_len-quote true (b ∷ s) zero lt none at = rw (eq-eqb b quote at, ne_eqb b backslash (omega arith)) refl
text_len-quote false (b ∷ s) zero lt none at = rw (eq-eqb b quote at) refl
text_len-quote after (b ∷ s) (suc n) lt none at =
    let h = text_len-quote (eqb b backslash) s n (omega arith) (λ k l. none (suc k) (omega arith)) at in
    rw (ne_eqb b quote (none 0 (omega arith)), is_before after b s n, h) (bump (not (before (eqb b backslash) s n)) n
    (text_len false (drop (suc n) s)))

pub text_len-none : (after : Bool) (s : List ℕ) → ((k : ℕ) → k < length s → get_or s k 0 ≢ quote) → text_len after s ≡ None
text_len-none after [] none = refl
text_len-none after (b ∷ s) none = rw (
  ne_eqb b quote (none 0 (omega arith)),
  text_len-none (eqb b backslash) s (λ k l. none (suc k) (omega arith)),
) refl

-- a comment goes on up to the first line feed
pub gap_len-comment : (s : List ℕ) (n : ℕ) → n < length s → ((k : ℕ) → k < n → get_or s k 0 ≢ line_feed) → get_or s n 0 ≡ line_feed
    → gap_len true s ≡ n + gap_len false (drop n s)
gap_len-comment [] n lt none at = absurd (omega arith)
gap_len-comment (b ∷ s) zero lt none at = let e : b ≡ line_feed = at in rw e (omega arith)
gap_len-comment (b ∷ s) (suc n) lt none at = rw (
  ne_eqb b line_feed (none 0 (omega arith)),
  gap_len-comment s n (omega arith) (λ k l. none (suc k) (omega arith)) at,
) (omega arith)

pub gap_len-comment_last : (s : List ℕ) → ((k : ℕ) → k < length s → get_or s k 0 ≢ line_feed) → gap_len true s ≡ length s
gap_len-comment_last [] none = refl
gap_len-comment_last (b ∷ s) none = rw (
  ne_eqb b line_feed (none 0 (omega arith)),
  gap_len-comment_last s (λ k l. none (suc k) (omega arith)),
) (omega arith)

-- what a search for one byte has found
pub first_byte : (b : ℕ) (s : List ℕ) (n : ℕ) → IsFirstByte (is_byte b) s (Some n) → (n < length s)
    × ((k : ℕ) → k < n → get_or s k 0 ≢ b) × (get_or s n 0 ≡ b)
first_byte b s n h = (h.0.high, λ k l e. h.0.before k (omega arith) l (eq-eqb _ _ e), eqb-true _ _ h.1)

pub no_byte : (b : ℕ) (s : List ℕ) → IsFirstByte (is_byte b) s None → (k : ℕ) → k < length s → get_or s k 0 ≢ b
no_byte b s h k l e = h k (omega arith) l (eq-eqb _ _ e)

-- ---- the search for the closing quote

-- whether a quote at this position after the opening one closes the string
abbrev pub closes : List ℕ → ℕ → Bool
closes s index = eqb index 0 || not (eqb (get_or s (index - 1) 0) backslash)

pub not_escaped : (s : List ℕ) (at n : ℕ) → closes s (at + n) ≡ true → before false (drop at s) n ≡ false
not_escaped s at zero h = refl
not_escaped s at (suc n) h =
    let index : at + suc n - 1 ≡ at + n = omega arith in
    elim (or_cases _ _ h) [
      | inl e ↦ absurd (let z = eqb-true (at + suc n) 0 e in omega arith)
      | inr e ↦ ap (λ b. eqb b backslash) (get_or-drop at s n 0 ∙ ap (λ k. get_or s k 0) (sym index)) ∙ not-true _ e
    ]

-- the quote before this position was no backslash
pub escaped : (s : List ℕ) (at n : ℕ) → closes s (at + n) ≡ false → (0 < at → get_or s (at - 1) 0 ≡ quote)
    → before false (drop at s) n ≡ true
escaped s at zero h quoted =
    let both = or_parts (eqb (at + 0) 0) (not (eqb (get_or s (at + 0 - 1) 0) backslash)) h in
    let index : at + 0 - 1 ≡ at - 1 = omega arith in
    let some = eqb-false (at + 0) 0 both.0 in
    let one : get_or s (at + 0 - 1) 0 ≡ backslash = eqb-true _ _ (not-false _ both.1) in
    let two = quoted (omega arith) in
    let three : get_or s (at - 1) 0 ≡ backslash = rw (← index) one in
    absurd (omega arith)
escaped s at (suc n) h quoted =
    let both = or_parts (eqb (at + suc n) 0) (not (eqb (get_or s (at + suc n - 1) 0) backslash)) h in
    let index : at + suc n - 1 ≡ at + n = omega arith in
    ap (λ b. eqb b backslash) (get_or-drop at s n 0 ∙ ap (λ k. get_or s k 0) (sym index)) ∙ not-false _ both.1

pub text_ends : (s : List ℕ) (at n : ℕ) (r : Option ℕ) → IsFirstByte (is_byte quote) (drop at s) (Some n)
    → option_map (λ m. at + m) (text_len false (drop at s)) ≡ r
    → before false (drop at s) n ≡ false → Some (at + n) ≡ r
text_ends s at n r first so_far closes =
    let f = first_byte quote (drop at s) n first in
    let e : text_len false (drop at s) ≡ Some n = text_len-quote false (drop at s) n f.0 f.1 f.2 ∙ rw closes refl in
    sym (ap (option_map (λ m. at + m)) e) ∙ so_far

pub text_goes_on : (s : List ℕ) (at n : ℕ) (r : Option ℕ) → IsFirstByte (is_byte quote) (drop at s) (Some n)
    → option_map (λ m. at + m) (text_len false (drop at s)) ≡ r
    → before false (drop at s) n ≡ true → option_map (λ m. at + n + 1 + m) (text_len false (drop (at + n + 1) s)) ≡ r
text_goes_on s at n r first so_far goes =
    let f = first_byte quote (drop at s) n first in
    let e : text_len false (drop at s) ≡ option_map (λ m. suc n + m) (text_len false (drop (suc n) (drop at s))) =
    text_len-quote false (drop at s) n f.0 f.1 f.2 ∙ rw goes refl in
    let index : at + suc n ≡ at + n + 1 = omega arith in
    let there : drop (suc n) (drop at s) ≡ drop (at + n + 1) s = drop-drop (suc n) at s ∙ ap (λ k. drop k s) index in
    sym (both at n (text_len false (drop (at + n + 1) s)))
    ∙ ap (λ t. option_map (λ m. at + m) (option_map (λ m. suc n + m) (text_len false t))) (sym there)
    ∙ sym (ap (option_map (λ m. at + m)) e) ∙ so_far
  where
    both : (at n : ℕ) (o : Option ℕ) → option_map (λ m. at + m) (option_map (λ m. suc n + m) o) ≡ option_map (λ m. at + n + 1 + m) o
    both at n None = refl
    both at n (Some m) = ap {B = Option ℕ} Some (omega arith)

pub text_never_ends : (s : List ℕ) (at : ℕ) (r : Option ℕ) → IsFirstByte (is_byte quote) (drop at s) None
    → option_map (λ m. at + m) (text_len false (drop at s)) ≡ r → None ≡ r
text_never_ends s at r none so_far =
    sym (ap (option_map (λ m. at + m)) (text_len-none false (drop at s) (no_byte quote (drop at s) none))) ∙ so_far

-- ---- the search for the end of a gap

-- the gap goes on with a comment
gap_len-slashes : (s : List ℕ) (at : ℕ) → at + 1 < length s → get_or s at 0 ≡ slash → get_or s (at + 1) 0 ≡ slash
    → gap_len false (drop at s) ≡ gap_len true (drop at s)
gap_len-slashes s at lt one two =
    let e : drop at s ≡ slash ∷ slash ∷ drop (at + 1 + 1) s = drop_more s at 0 (omega arith)
    ∙ rw one (ap (λ (t : List ℕ). slash ∷ t) (drop_more s (at + 1) 0 lt ∙ rw two refl)) in
    rw e refl

pub gap_after_comment : (s : List ℕ) (at n r : ℕ) → at + 1 < length s → get_or s at 0 ≡ slash → get_or s (at + 1) 0 ≡ slash
    → IsFirstByte (is_byte line_feed) (drop at s) (Some n)
    → at + gap_len false (drop at s) ≡ r → (at + n ≤ length s) × (0 < n) × (at + n + gap_len false (drop (at + n) s) ≡ r)
gap_after_comment s at n r lt one two first so_far =
    let f = first_byte line_feed (drop at s) n first in
    let e = gap_len-slashes s at lt one two ∙ gap_len-comment (drop at s) n f.0 f.1 f.2
    ∙ ap (λ t. n + gap_len false t) (drop-drop n at s) in
    (omega (arith, f.0, length-drop at s), some n f.2, omega (arith, e))
  where
    some : (n : ℕ) → get_or (drop at s) n 0 ≡ line_feed → 0 < n
    some zero h = let a = get_or-drop at s 0 0 in let z : at + 0 ≡ at = omega arith in let b = rw z at a in absurd (omega arith)
    some (suc n) h = omega arith

pub gap_is_all : (s : List ℕ) (at r : ℕ) → at + 1 < length s → get_or s at 0 ≡ slash → get_or s (at + 1) 0 ≡ slash
    → IsFirstByte (is_byte line_feed) (drop at s) None → at + gap_len false (drop at s) ≡ r → length s ≡ r
gap_is_all s at r lt one two none so_far =
    let e = gap_len-slashes s at lt one two ∙ gap_len-comment_last (drop at s) (no_byte line_feed (drop at s) none) in
    omega (arith, e, length-drop at s)
