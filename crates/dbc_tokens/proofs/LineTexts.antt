-- A string that ends at its first quote and in the line in which it begins.
use Rattle.std.proofs.Common.{◌≡◌, ◌≢◌, ℕ, zero, suc, ◌+◌, ◌<◌, ◌≤◌, Bool, true, false, not, ◌&&◌, ◌||◌, cond, eqb, List, [], ◌∷◌}
use Rattle.std.proofs.Common.{length, get_or, take, Option, Some, None, refl, sym, ap, ◌∙◌, arith, inl, inr}
use Rattle.std.specs.List.{prefix_len}
use Rattle.std.specs.Option.{option_map}
use Rattle.std.proofs.lemmas.Bool.{cases_Bool, cond-true, cond-false, and_parts, not-true, eqb-true, eqb-false, or_parts}
use Rattle.std.proofs.lemmas.Bool.{false_from_ne_true, not_from_false, cases_lt}
use Rattle.std.proofs.lemmas.List.{get_or-take, length-take}
use Rattle.std.proofs.lemmas.List.Sums.{prefix_len_is, prefix_len_passes}
use Rattle.memchr.specs.Find.{IsFirstByte, is_byte2}
use Rattle.dbc_values.specs.Lexical.{quote, line_feed, is_line_feed}
use Rattle.dbc_tokens.specs.declared.token.Kind.{Kind}
use Rattle.dbc_tokens.specs.declared.token.Kind.TheVariants.{Text}
use Rattle.dbc_tokens.specs.Tokens.{line_feeds}
use Rattle.dbc_tokens.specs.inner.Scanner.{text_len, token_at, line_text_len, line_text_at}
use Rattle.dbc_tokens.proofs.Searches.{before, closes, not_escaped, text_len-quote}
use Rattle.dbc_tokens.proofs.LineFeeds.{no_feeds}
use Rattle.dbc_tokens.proofs.PlainTokens.{Plain}

-- neither a quote nor a line feed
abbrev pub goes_on : ℕ → Bool
goes_on b = not (eqb b quote || is_line_feed b)

-- ---- the search for a quote or a line feed

passed : (s : List ℕ) (k : ℕ) → (is_byte2 quote line_feed (get_or s k 0) ≡ true → ⊥) → goes_on (get_or s k 0) ≡ true
passed s k none = not_from_false _ (false_from_ne_true _ none)

pub first_stop : (s : List ℕ) (n : ℕ) → IsFirstByte (is_byte2 quote line_feed) s (Some n) → prefix_len goes_on s ≡ n
first_stop s n h =
    prefix_len_is goes_on s n 0 (omega (arith, h.0.high)) (λ k l. passed s k (h.0.before k (omega arith) l)) (λ l. ap not h.1)

pub line_len : (s : List ℕ) (n : ℕ) → IsFirstByte (is_byte2 quote line_feed) s (Some n)
    → line_text_len s ≡ cond (eqb (get_or s n 0) quote && closes s n) (Some n) None
line_len s n h = ap (λ m. cond (eqb (get_or s m 0) quote && closes s m) (Some m) None) (first_stop s n h)

-- ---- the string that ends there

-- bytes up to the closing quote, without a line feed
record LineText (s : List ℕ) (n : ℕ) : Type 0 where
  text : text_len false s ≡ Some n
  no_feed : (k : ℕ) → k ≤ n → get_or s k 0 ≢ line_feed

some_there : (s : List ℕ) (n : ℕ) → get_or s n 0 ≡ quote → n < length s
some_there [] n h = absurd cc
some_there (b ∷ s) zero h = omega arith
some_there (b ∷ s) (suc n) h = omega (arith, some_there s n h)

line_text : (s : List ℕ) (n : ℕ) → prefix_len goes_on s ≡ n → eqb (get_or s n 0) quote ≡ true → closes s n ≡ true → LineText s n
line_text s n is quoted closing =
    let at : get_or s n 0 ≡ quote = eqb-true _ _ quoted in
    let index : 0 + n ≡ n = omega arith in
    let none_before : before false s n ≡ false = not_escaped s 0 n (rw index closing) in
    let other : (k : ℕ) → k < n → (eqb (get_or s k 0) quote ≡ false) × (is_line_feed (get_or s k 0) ≡ false) =
    λ k l. or_parts _ _ (not-true _ (prefix_len_passes goes_on s k 0 (omega (arith, is)))) in
    let found = text_len-quote false s n (some_there s n at) (λ k l. eqb-false _ _ (other k l).0) at in record {
      text = found ∙ rw none_before refl;
      no_feed = λ k le. elim (cases_lt k n) [
        | inl lt ↦ eqb-false _ _ (other k lt).1
        | inr ge ↦ λ feed.
            let same : k ≡ n = omega arith in
            let there : get_or s n 0 ≡ line_feed = rw (← same) feed in
            omega (arith, at, there)
      ];
    }

line_text_there : (s : List ℕ) (n : ℕ) → line_text_len s ≡ Some n → LineText s n
line_text_there s n h =
    let m = prefix_len goes_on s in
    elim (cases_Bool (eqb (get_or s m 0) quote && closes s m)) [
      | inl y ↦
          let both = and_parts (eqb (get_or s m 0) quote) (closes s m) y in
          let one : Some m ≡ Some n = sym (cond-true _ _ _ y) ∙ h in
          let same : m ≡ n = cc in
          line_text s n same (rw same at both.0) (rw same at both.1)
      | inr y ↦ absurd (let none : None ≡ Some n = sym (cond-false _ _ _ y) ∙ h in cc)
    ]

no_feeds_there : (s : List ℕ) (n : ℕ) → LineText s n → line_feeds (take (2 + n) (quote ∷ s)) ≡ 0
no_feeds_there s n h = no_feeds (take (2 + n) (quote ∷ s)) (λ k l feed.
    let lt : k < 2 + n = omega (arith, l, length-take (2 + n) (quote ∷ s)) in
    none k lt (sym (get_or-take (2 + n) (quote ∷ s) k 0 lt) ∙ feed))
  where
    none : (k : ℕ) → k < 2 + n → get_or (quote ∷ s) k 0 ≢ line_feed
    none zero l e = absurd (omega (arith, e))
    none (suc k) l e = h.no_feed k (omega arith) e

plain_text : (s : List ℕ) (n : ℕ) (t : Kind × ℕ) → LineText s n → Some t ≡ Some (Text, 2 + n) → Plain (quote ∷ s) t
unfolding token_at
plain_text s n t h is =
    let same : t ≡ (Text, 2 + n) = cc in record {
      token = rw h.text (sym is);
      gap = refl;
      feeds = rw same (no_feeds_there s n h);
    }

pub text_there : (s : List ℕ) (t : Kind × ℕ) → Some t ≡ line_text_at s → Plain s t
unfolding line_text_at
text_there [] t e = absurd cc
text_there (b ∷ s) t e =
    elim (cases_Bool (eqb b quote)) [
      | inl q ↦
          let same : b ≡ quote = eqb-true b quote q in
          let there = e ∙ cond-true _ _ _ q in
          rw same (by (line_text_len s) refl there)
      | inr q ↦ absurd (let none : Some t ≡ None = e ∙ cond-false _ _ _ q in cc)
    ]
  where
    by : (o : Option ℕ) → line_text_len s ≡ o → Some t ≡ option_map (λ n. (Text, 2 + n)) o → Plain (quote ∷ s) t
    by None is there = absurd cc
    by (Some n) is there = plain_text s n t (line_text_there s n is) there
