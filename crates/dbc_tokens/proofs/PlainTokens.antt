-- A token after blanks alone, which begins with a letter, a digit or a mark.
use Rattle.std.proofs.Common.{◌≡◌, ◌≤◌, ℕ, zero, suc, ◌+◌, Bool, true, false, not, ◌&&◌, cond, eqb, List, [], ◌∷◌}
use Rattle.std.proofs.Common.{length, take, drop, Option, Some, None, refl, sym, ap, ◌∙◌, arith, inl, inr}
use Rattle.std.specs.Prelude.{codes}
use Rattle.std.specs.List.{prefix_len}
use Rattle.std.proofs.lemmas.Bool.{cases_Bool, cond-true, cond-false, and_parts, not-true, ne_eqb, eqb-false}
use Rattle.std.proofs.lemmas.List.{drop-drop}
use Rattle.std.proofs.lemmas.List.Sums.{sum_by-cons}
use Rattle.std.proofs.lemmas.Bool.Decides.{nat_tests}
use Rattle.dbc_values.specs.Lexical.{quote, slash, is_blank, is_line_feed, is_digit, is_letter, is_word_byte, is_mark}
use Rattle.dbc_tokens.specs.declared.token.Kind.{Kind}
use Rattle.dbc_tokens.specs.declared.token.Kind.TheVariants.{Text, Word, Number, Mark}
use Rattle.dbc_tokens.specs.Tokens.{◌▸◌, line_feeds}
use Rattle.dbc_tokens.specs.inner.Scanner.{gap_len, mantissa_len, exponent_len, number_len, token_at, rest_then, cut_of}
use Rattle.dbc_tokens.specs.inner.Scanner.{begins_exponent, plain_number_len, plain_token_at}
use Rattle.dbc_tokens.proofs.Longest.{any_all, token_there}
use Rattle.dbc_tokens.proofs.LineFeeds.{token_feeds}
use Rattle.dbc_tokens.proofs.CutStep.{cut_token, cut_of-step}

-- ---- the blanks at the front of a gap

gap_len-blanks : (s : List ℕ) → gap_len false s ≡ prefix_len is_blank s + gap_len false (drop (prefix_len is_blank s) s)
gap_len-blanks [] = refl
gap_len-blanks (b ∷ s) =
    elim (cases_Bool (is_blank b)) [
      | inl y ↦
          let whole : prefix_len is_blank (b ∷ s) ≡ suc (prefix_len is_blank s) = rw y (omega arith) in
          rw (whole, y) (omega (arith, gap_len-blanks s))
      | inr n ↦ let whole : prefix_len is_blank (b ∷ s) ≡ 0 = rw n refl in rw whole (omega arith)
    ]

-- ---- the first byte of a plain token

-- the byte begins neither a gap nor a string
abbrev is_plain : ℕ → Bool
is_plain b = not (is_blank b) && (not (eqb b slash) && not (eqb b quote))

mark_plain : (b : ℕ) → is_mark b ≡ true → is_plain b ≡ true
mark_plain b h = any_all b is_plain (codes ":;|@()[],+-") h refl

mark_no_letter : (b : ℕ) → is_mark b ≡ true → is_letter b ≡ false
mark_no_letter b h = not-true (is_letter b) (any_all b (λ c. not (is_letter c)) (codes ":;|@()[],+-") h refl)

digit_plain : (b : ℕ) → is_digit b ≡ true → is_plain b ≡ true
digit_plain b h = grind (arith, nat_tests)

digit_no_letter : (b : ℕ) → is_digit b ≡ true → is_letter b ≡ false
digit_no_letter b h = grind (arith, nat_tests)

letter_plain : (b : ℕ) → is_letter b ≡ true → is_plain b ≡ true
letter_plain b h = grind (arith, nat_tests)

no_quote : (b : ℕ) → is_plain b ≡ true → eqb b quote ≡ false
no_quote b h = not-true _ (and_parts _ _ (and_parts _ _ h).1).1

plain_gap : (b : ℕ) (s : List ℕ) → is_plain b ≡ true → gap_len false (b ∷ s) ≡ 0
plain_gap b s h =
    let both = and_parts (not (is_blank b)) (not (eqb b slash) && not (eqb b quote)) h in
    let one = not-true (is_blank b) both.0 in
    let two = not-true (eqb b slash) (and_parts (not (eqb b slash)) (not (eqb b quote)) both.1).0 in
    rw (one, two) refl

-- a number that no exponent follows
no_exponent : (s : List ℕ) → begins_exponent s ≡ false → exponent_len s ≡ 0
no_exponent [] h = refl
no_exponent (b ∷ s) h = rw h refl

plain_number : (s : List ℕ) (n : ℕ) → n ≡ plain_number_len s → (n ≡ 0 → ⊥) → number_len s ≡ n
plain_number s n is some =
    elim (cases_Bool (begins_exponent (drop (mantissa_len s) s))) [
      | inl y ↦ absurd (some (is ∙ cond-true _ _ _ y))
      | inr y ↦
          let whole : n ≡ mantissa_len s = is ∙ cond-false _ _ _ y in
          let e = no_exponent (drop (mantissa_len s) s) y in
          let large : eqb (mantissa_len s) 0 ≡ false = ne_eqb (mantissa_len s) 0 (λ z. some (whole ∙ z)) in
          cond-false _ _ _ large ∙ omega (arith, e, whole)
    ]

-- ---- the token at the front

-- the token here is this one, with no gap before it and no line feed in it
pub record Plain (s : List ℕ) (t : Kind × ℕ) : Type 0 where
  pub token : token_at s ≡ Some t
  pub gap : gap_len false s ≡ 0
  pub feeds : line_feeds (take t.1 s) ≡ 0

plain : (b : ℕ) (s : List ℕ) (t : Kind × ℕ) → is_plain b ≡ true → token_at (b ∷ s) ≡ Some t → (t.0 ≡ Text → ⊥) → Plain (b ∷ s) t
plain b s t is token other = record {
  token = token;
  gap = plain_gap b s is;
  feeds = token_feeds t.0 (take t.1 (b ∷ s)) (token_there (b ∷ s) t (sym token)) other;
}

abbrev kind_of : Option (Kind × ℕ) → Kind
kind_of None = Mark
kind_of (Some t) = t.0

marked : (b : ℕ) (s : List ℕ) (t : Kind × ℕ) → Some t ≡ Some (Mark, 1) → is_mark b ≡ true → Plain (b ∷ s) t
unfolding token_at
marked b s t is m = plain b s t (mark_plain b m) (rw (no_quote b (mark_plain b m), mark_no_letter b m, m) (sym is)) (λ text.
    let same : Mark ≡ Text = sym (ap kind_of is) ∙ text in cc)

number : (b : ℕ) (s : List ℕ) (t : Kind × ℕ) (n : ℕ) → n ≡ plain_number_len (b ∷ s)
    → Some t ≡ cond (eqb n 0) None (Some (Number, n)) → is_mark b ≡ false → is_digit b ≡ true → Plain (b ∷ s) t
unfolding token_at
number b s t n n_is is m d =
    elim (cases_Bool (eqb n 0)) [
      | inl z ↦ absurd (let none : Some t ≡ None = is ∙ cond-true _ _ _ z in cc)
      | inr z ↦
          let one : Some t ≡ Some (Number, n) = is ∙ cond-false _ _ _ z in
          let len = plain_number (b ∷ s) n n_is (eqb-false n 0 z) in
          plain b s t (digit_plain b d) (rw (no_quote b (digit_plain b d), digit_no_letter b d, m, len, z) (sym one)) (λ text.
          let same : Number ≡ Text = sym (ap kind_of one) ∙ text in cc)
    ]

word : (b : ℕ) (s : List ℕ) (t : Kind × ℕ) → Some t ≡ Some (Word, 1 + prefix_len is_word_byte s) → is_letter b ≡ true
    → Plain (b ∷ s) t
unfolding token_at
word b s t is l = plain b s t (letter_plain b l) (rw (no_quote b (letter_plain b l), l) (sym is)) (λ text. let same : Word ≡ Text =
    sym (ap kind_of is) ∙ text in cc)

pub plain_there : (s : List ℕ) (t : Kind × ℕ) → Some t ≡ plain_token_at s → Plain s t
unfolding plain_token_at
plain_there [] t e = absurd cc
plain_there (b ∷ s) t e =
    elim (cases_Bool (is_mark b)) [
      | inl m ↦ marked b s t (e ∙ cond-true _ _ _ m) m
      | inr m ↦
          let others = e ∙ cond-false _ _ _ m in
          elim (cases_Bool (is_digit b)) [
            | inl d ↦ number b s t (plain_number_len (b ∷ s)) refl (others ∙ cond-true _ _ _ d) m d
            | inr d ↦
                let last = others ∙ cond-false _ _ _ d in
                elim (cases_Bool (is_letter b)) [
                  | inl l ↦ word b s t (last ∙ cond-true _ _ _ l) l
                  | inr l ↦ absurd (let none : Some t ≡ None = last ∙ cond-false _ _ _ l in cc)
                ]
          ]
    ]

-- ---- the step over such a token

pub cut_at : (line : ℕ) (text : List ℕ) (n feeds : ℕ) (rest bytes others : List ℕ) (t : Kind × ℕ) → Plain rest t
    → n ≡ prefix_len is_blank text → feeds ≡ line_feeds (take n text) → rest ≡ drop n text
    → bytes ≡ take t.1 rest → others ≡ drop t.1 rest
    → cut_of line text ≡ record { kind = t.0; bytes = bytes; line = line + feeds; left = length rest }
    ▸ cut_of (line + feeds) others
cut_at line text n feeds rest bytes others t p n_is feeds_is rest_is bytes_is others_is =
    let none : gap_len false (drop (prefix_len is_blank text) text) ≡ 0 = rw (← n_is, ← rest_is) p.gap in
    let gap : n ≡ gap_len false text = omega (arith, n_is, none, gap_len-blanks text) in
    let no_feeds : 0 ≡ line_feeds bytes = rw bytes_is (sym p.feeds) in
    let step = cut_token line text n (take n text) rest bytes others t feeds 0 gap refl rest_is feeds_is (sym p.token) bytes_is
    others_is no_feeds in
    let line_is : line + feeds + 0 ≡ line + feeds = omega arith in
    rw line_is at step

-- ---- blanks alone

feeds_split : (n m : ℕ) (text : List ℕ) → n ≤ length text
    → line_feeds (take (n + m) text) ≡ line_feeds (take n text) + line_feeds (take m (drop n text))
feeds_split zero m text le = let all : zero + m ≡ m = omega arith in rw all (omega arith)
feeds_split (suc n) m [] le = absurd (omega arith)
feeds_split (suc n) m (b ∷ text) le =
    let both : suc n + m ≡ suc (n + m) = omega arith in
    let first = sum_by-cons (λ y. cond (is_line_feed y) 1 0) b (take (n + m) text) in
    let second = sum_by-cons (λ y. cond (is_line_feed y) 1 0) b (take n text) in
    let rest = feeds_split n m text (omega arith) in
    rw both (omega (arith, first, second, rest))

-- the tokens are the same from after the blanks at the front
pub cut_after : (line : ℕ) (text : List ℕ) (n feeds : ℕ) (rest : List ℕ) → n ≤ length text
    → n ≡ prefix_len is_blank text → feeds ≡ line_feeds (take n text) → rest ≡ drop n text
    → cut_of (line + feeds) rest ≡ cut_of line text
cut_after line text n feeds rest within n_is feeds_is rest_is =
    let more : ℕ = gap_len false rest in
    let gap : gap_len false text ≡ n + more = gap_len-blanks text ∙ ap (λ k. k + gap_len false (drop k text)) (sym n_is)
    ∙ ap (λ l. n + gap_len false l) (sym rest_is) in
    let lines : line + feeds + line_feeds (take more rest) ≡ line + line_feeds (take (gap_len false text) text)
    = omega (
      arith,
      feeds_is,
      feeds_split n more text within,
      ap (λ l. line_feeds (take more l)) rest_is,
      ap (λ k. line_feeds (take k text)) gap,
    ) in
    let left : drop more rest ≡ drop (gap_len false text) text
    = ap (drop more) rest_is ∙ drop-drop more n text ∙ ap (λ k. drop k text) (sym gap) in
    cut_of-step (line + feeds) rest ∙ ap (λ at. rest_then cut_of at (drop more rest)) lines
    ∙ ap (rest_then cut_of (line + line_feeds (take (gap_len false text) text))) left ∙ sym (cut_of-step line text)

-- no blank is after the blanks at the front
pub none_ahead : (text : List ℕ) → prefix_len is_blank (drop (prefix_len is_blank text) text) ≡ 0
none_ahead [] = refl
none_ahead (b ∷ text) =
    elim (cases_Bool (is_blank b)) [
      | inl y ↦
          let whole : prefix_len is_blank (b ∷ text) ≡ suc (prefix_len is_blank text) = rw y (omega arith) in
          rw whole (none_ahead text)
      | inr n ↦ let whole : prefix_len is_blank (b ∷ text) ≡ 0 = rw n refl in rw (whole, n) refl
    ]
