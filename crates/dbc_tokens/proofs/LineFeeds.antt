-- Only strings hold line feeds.
use Rattle.std.proofs.Common.{◌≡◌, ◌≢◌, ℕ, zero, suc, ◌<◌, ◌≤◌, Bool, true, false, not, ◌||◌, List, [], ◌∷◌, ◌++◌, length}
use Rattle.std.proofs.Common.{get_or, drop, refl, append-nil, arith}
use Rattle.std.specs.Prelude.{codes}
use Rattle.std.specs.List.{list_all}
use Rattle.std.proofs.lemmas.Bool.{and_parts, and_from, or_left, or_right, not-true, ne_eqb}
use Rattle.std.proofs.lemmas.Bool.Decides.{nat_tests}
use Rattle.dbc_values.specs.Lexical.{line_feed, is_line_feed, is_digit, is_letter, is_word_byte, is_sign, is_exponent_mark, is_mark}
use Rattle.dbc_tokens.specs.declared.token.Kind.{Kind}
use Rattle.dbc_tokens.specs.declared.token.Kind.TheVariants.{Text, Word, Number, Mark}
use Rattle.dbc_tokens.specs.Tokens.{IsToken, line_feeds}
use Rattle.dbc_tokens.proofs.Runs.{all_append, all_weaker}
use Rattle.dbc_tokens.proofs.Longest.{any_all}
use Rattle.dbc_tokens.proofs.NumberParts.{IsSign, IsNumber, number_parts, is_mantissa_byte, mantissa_bytes}

none_in : (p : ℕ → Bool) (s : List ℕ) → ((b : ℕ) → p b ≡ true → is_line_feed b ≡ false) → list_all p s ≡ true → line_feeds s ≡ 0
none_in p [] never h = refl
none_in p (b ∷ s) never h = let both = and_parts (p b) (list_all p s) h in rw (never b both.0, none_in p s never both.1)
    (omega arith)

word_byte : (b : ℕ) → is_word_byte b ≡ true → is_line_feed b ≡ false
word_byte b h = grind (arith, nat_tests)

-- a byte of a number
abbrev is_number_byte : ℕ → Bool
is_number_byte b = is_mantissa_byte b || (is_exponent_mark b || is_sign b)

number_byte : (b : ℕ) → is_number_byte b ≡ true → is_line_feed b ≡ false
number_byte b h = grind (arith, nat_tests)

of_mantissa : (b : ℕ) → is_mantissa_byte b ≡ true → is_number_byte b ≡ true
of_mantissa b h = or_left _ _ h

of_digit : (b : ℕ) → is_digit b ≡ true → is_number_byte b ≡ true
of_digit b h = or_left _ _ (or_left _ _ h)

sign_bytes : (sign : List ℕ) → IsSign sign → list_all is_number_byte sign ≡ true
sign_bytes [] h = refl
sign_bytes (b ∷ []) h = and_from _ _ (or_right _ _ (or_right _ _ h)) refl
sign_bytes (b ∷ c ∷ sign) h = elim h [ ]

number_bytes : (n : List ℕ) → IsNumber n → list_all is_number_byte n ≡ true
number_bytes n (m, [], whole, hm, hx) = rw (whole, append-nil m) (all_weaker is_mantissa_byte is_number_byte m of_mantissa
    (mantissa_bytes m hm))
number_bytes n (m, e ∷ x, whole, hm, (is, sign, digits, parts, s, some, d)) =
    rw (whole, parts) (all_append is_number_byte m (e ∷ (sign ++ digits)) (all_weaker is_mantissa_byte is_number_byte m of_mantissa
    (mantissa_bytes m hm))
    (and_from _ _ (or_right _ _ (or_left _ _ is)) (all_append is_number_byte sign digits (sign_bytes sign s)
    (all_weaker is_digit is_number_byte digits of_digit d))))

mark_byte : (b : ℕ) → is_mark b ≡ true → is_line_feed b ≡ false
mark_byte b h = not-true (is_line_feed b) (any_all b (λ c. not (is_line_feed c)) (codes ":;|@()[],+-") h refl)

pub token_feeds : (k : Kind) (s : List ℕ) → IsToken k s → (k ≡ Text → ⊥) → line_feeds s ≡ 0
token_feeds Text s h other = absurd (other refl)
token_feeds Word [] h other = refl
token_feeds Word (b ∷ s) h other = let both = and_parts (is_letter b) (list_all is_word_byte s) h in
    none_in is_word_byte (b ∷ s) word_byte (and_from _ _ (or_left _ _ both.0) both.1)
token_feeds Number s h other = none_in is_number_byte s number_byte (number_bytes s (number_parts s h))
token_feeds Mark s (mark, bytes, is) other = rw (bytes, mark_byte mark is) (omega arith)

-- ---- a search for line feeds

pub no_feeds : (s : List ℕ) → ((k : ℕ) → k < length s → get_or s k 0 ≢ line_feed) → line_feeds s ≡ 0
no_feeds [] none = refl
no_feeds (b ∷ s) none = rw (ne_eqb b line_feed (none 0 (omega arith)), no_feeds s (λ k l. none (suc k) (omega arith))) (omega arith)

-- bytes without line feeds at the front don't count
pub feeds_from : (s : List ℕ) (n : ℕ) → n ≤ length s → ((k : ℕ) → k < n → get_or s k 0 ≢ line_feed)
    → line_feeds (drop n s) ≡ line_feeds s
feeds_from s zero le none = refl
feeds_from [] (suc n) le none = absurd (omega arith)
feeds_from (b ∷ s) (suc n) le none = rw (ne_eqb b line_feed (none 0 (omega arith))) (omega (
  arith,
  feeds_from s n (omega arith) (λ k l.
      none (suc k) (omega arith)),
))
