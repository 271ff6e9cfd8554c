-- The token that the scanner finds is the longest one at its position, and where it finds none no token begins.
use Rattle.std.proofs.Common.{◌≡◌, ◌≢◌, ℕ, zero, suc, ◌+◌, ◌<◌, ◌≤◌, Bool, true, false, not, cond, eqb, List, [], ◌∷◌, ◌++◌, length}
use Rattle.std.proofs.Common.{take, drop, Option, Some, None, refl, sym, ap, subst, ◌∙◌, append_assoc, arith, one-add, inl, inr}
use Rattle.std.specs.Prelude.{codes}
use Rattle.std.specs.List.{list_all, list_any, prefix_len}
use Rattle.std.specs.Option.{option_map}
use Rattle.std.proofs.lemmas.Bool.{eqb-true, eqb-false, cases_Bool, and_parts, and_from, or_cases, not-true}
use Rattle.std.proofs.lemmas.Bool.Decides.{nat_tests}
use Rattle.std.proofs.lemmas.List.{take_at, take-append-drop, length-append, length-take-le}
use Rattle.std.proofs.lemmas.List.Sums.{prefix_len-le-length}
use Rattle.dbc_tokens.specs.declared.token.Kind.{Kind}
use Rattle.dbc_tokens.specs.declared.token.Kind.TheVariants.{Text, Word, Number, Mark}
use Rattle.dbc_values.specs.Lexical.{quote, is_letter, is_word_byte, is_mark, is_text, quoted, is_number}
use Rattle.dbc_tokens.specs.Tokens.{IsToken, IsLongest, BeginsNoToken}
use Rattle.dbc_tokens.specs.inner.Scanner.{text_len, number_len, token_at}
use Rattle.dbc_tokens.proofs.Runs.{all_le, prefix_all}
use Rattle.dbc_tokens.proofs.NumberParts.{IsNumber, number_parts, number_test, is_mantissa_byte, mantissa_bytes}
use Rattle.dbc_tokens.proofs.Numbers.{mantissa_some, number_with, number_is, number_le}
use Rattle.dbc_tokens.proofs.Strings.{text_found, closes_at}

-- ---- the first byte determines the kind

abbrev pub begins : Kind → ℕ → Bool
begins Text b = eqb b quote
begins Word b = is_letter b
begins Number b = is_mantissa_byte b
begins Mark b = is_mark b

number_begins : (b : ℕ) (t : List ℕ) → IsNumber (b ∷ t) → begins Number b ≡ true
number_begins b t ([], x, parts, hm, hx) = absurd (omega (arith, mantissa_some [] hm))
number_begins b t (d ∷ m, x, parts, hm, hx) =
    let same : b ≡ d = cc in
    rw same (and_parts (is_mantissa_byte d) (list_all is_mantissa_byte m) (mantissa_bytes (d ∷ m) hm)).0

number_some : IsNumber [] → ⊥
number_some (m, x, parts, hm, hx) = omega (arith, mantissa_some m hm, ap length parts, length-append m x)

-- a token isn't empty, and its first byte is one of its kind
pub token_begins : (k : Kind) (t : List ℕ) → IsToken k t → (b : ℕ) × (rest : List ℕ) × (t ≡ b ∷ rest) × (begins k b ≡ true)
token_begins Text t (text, bytes, is) = (quote, text ++ quote ∷ [], bytes, refl)
token_begins Word [] h = absurd cc
token_begins Word (b ∷ t) h = (b, t, refl, (and_parts (is_letter b) (list_all is_word_byte t) h).0)
token_begins Number [] h = absurd (number_some (number_parts [] h))
token_begins Number (b ∷ t) h = (b, t, refl, number_begins b t (number_parts (b ∷ t) h))
token_begins Mark t (mark, bytes, is) = (mark, [], bytes, is)

-- what holds of each mark holds of a byte that is one
pub any_all : (b : ℕ) (q : ℕ → Bool) (ms : List ℕ) → list_any (λ m. eqb b m) ms ≡ true → list_all q ms ≡ true → q b ≡ true
any_all b q [] h all = absurd cc
any_all b q (m ∷ ms) h all =
    let both = and_parts (q m) (list_all q ms) all in
    elim (or_cases (eqb b m) (list_any (λ m. eqb b m) ms) h) [
      | inl e ↦ rw (eqb-true b m e) both.0
      | inr e ↦ any_all b q ms e
          both.1
    ]

-- a mark begins no token of a kind that begins with none of the marks
pub no_other : (b : ℕ) (k : Kind) → is_mark b ≡ true → list_all (λ m. not (begins k m)) (codes ":;|@()[],+-") ≡ true
    → begins k b ≡ true → ⊥
no_other b k h all e = let one = any_all b (λ m. not (begins k m)) (codes ":;|@()[],+-") h all in let two =
    not-true (begins k b) one in cc

-- no byte begins tokens of two kinds
one_kind : (k j : Kind) (b : ℕ) → begins k b ≡ true → begins j b ≡ true → k ≡ j
one_kind Text Text b p q = refl
one_kind Word Word b p q = refl
one_kind Number Number b p q = refl
one_kind Mark Mark b p q = refl
one_kind Text Word b p q = absurd (grind (arith, nat_tests))
one_kind Text Number b p q = absurd (grind (arith, nat_tests))
one_kind Text Mark b p q = absurd (no_other b Text q refl p)
one_kind Word Text b p q = absurd (grind (arith, nat_tests))
one_kind Word Number b p q = absurd (grind (arith, nat_tests))
one_kind Word Mark b p q = absurd (no_other b Word q refl p)
one_kind Number Text b p q = absurd (grind (arith, nat_tests))
one_kind Number Word b p q = absurd (grind (arith, nat_tests))
one_kind Number Mark b p q = absurd (no_other b Number q refl p)
one_kind Mark Text b p q = absurd (no_other b Text p refl q)
one_kind Mark Word b p q = absurd (no_other b Word p refl q)
one_kind Mark Number b p q = absurd (no_other b Number p refl q)

-- ---- strings

-- a string at the front ends at the quote that was found
text_bytes : (s front others : List ℕ) → front ++ others ≡ quote ∷ s → IsToken Text front → (n : ℕ) × (text_len false s ≡ Some n)
    × (length front ≡ 2 + n)
unfolding is_text
text_bytes s front others whole (text, bytes, is) =
    let regrouped : quote ∷ (text ++ quote ∷ others) ≡ quote ∷ s =
    sym (ap (λ (t : List ℕ). quote ∷ t) (append_assoc text (quote ∷ []) others)) ∙ ap (λ (t : List ℕ). t ++ others) (sym bytes)
    ∙ whole in
    let rest : text ++ quote ∷ others ≡ s = cc in
    (length text, rw (← rest) (text_found false text others is), rw bytes (omega (arith, length-append text (quote ∷ []))))

-- without a closing quote no string begins
text_never : (s front others : List ℕ) → text_len false s ≡ None → front ++ others ≡ quote ∷ s → IsToken Text front → ⊥
text_never s front others none whole h = let x = text_bytes s front others whole h in let e : None ≡ Some x.0 = sym none ∙ x.1 in cc

text_bound : (s front others : List ℕ) (n : ℕ) → text_len false s ≡ Some n → front ++ others ≡ quote ∷ s → IsToken Text front
    → length front ≤ 2 + n
text_bound s front others n some whole h = let x = text_bytes s front others whole h in let e : Some n ≡ Some x.0 = sym some
    ∙ x.1 in let same : n ≡ x.0 = cc in omega (arith, x.2)

-- what is up to the closing quote is a string
text_is : (s : List ℕ) (n : ℕ) → text_len false s ≡ Some n → IsToken Text (take (2 + n) (quote ∷ s)) × (2 + n ≤ length (quote ∷ s))
unfolding is_text
text_is s n e =
    let c = closes_at false s n e in
    let long : length (quoted c.text) ≡ 2 + n = omega (arith, length-append c.text (quote ∷ []), c.len) in
    let whole : quote ∷ s ≡ quoted c.text ++ c.rest = ap (λ (t : List ℕ). quote ∷ t) (c.bytes
    ∙ sym (append_assoc c.text (quote ∷ []) c.rest)) in (
      (c.text, ap (take (2 + n)) whole ∙ take_at (quoted c.text) c.rest (2 + n) long, c.is),
      omega (arith, ap length whole, length-append (quoted c.text) c.rest),
    )

-- ---- the token at the front

abbrev pub NoLonger : List ℕ → ℕ → Type 0
NoLonger s n = (k : Kind) (front others : List ℕ) → front ++ others ≡ s → IsToken k front → length front ≤ n

pub kind_there : (k j : Kind) (b : ℕ) (s front others : List ℕ) → begins k b ≡ true → front ++ others ≡ b ∷ s → IsToken j front
    → j ≡ k
kind_there k j b s front others is whole h =
    let x = token_begins j front h in
    let one : (x.0 ∷ x.1) ++ others ≡ b ∷ s = subst (λ t. t ++ others ≡ b ∷ s) x.2 whole in
    let same : x.0 ≡ b = cc in
    one_kind j k b (rw (← same) x.3) is

longer_than : (k : Kind) (b n : ℕ) (s : List ℕ) → begins k b ≡ true → ((front others : List ℕ) → front ++ others ≡ b ∷ s
    → IsToken k front → length front ≤ n) → NoLonger (b ∷ s) n
longer_than k b n s is bound j front others whole h =
    bound front others whole (subst (λ i. IsToken i front) (kind_there k j b s front others is whole h) h)

word_bound : (b : ℕ) (s front others : List ℕ) → front ++ others ≡ b ∷ s → IsToken Word front
    → length front ≤ 1 + prefix_len is_word_byte s
word_bound b s [] others whole h = absurd cc
word_bound b s (c ∷ front) others whole h =
    let rest : front ++ others ≡ s = cc in
    rw (← rest) (omega (arith, all_le is_word_byte front others (and_parts (is_letter c) (list_all is_word_byte front) h).1))

number_bound : (s front others : List ℕ) → front ++ others ≡ s → is_number front ≡ true → length front ≤ number_len s
number_bound s front others whole h = by (number_parts front h)
  where
    by : IsNumber front → length front ≤ number_len s
    by (m, x, parts, hm, hx) =
        let regrouped : m ++ (x ++ others) ≡ s = sym (append_assoc m x others) ∙ ap (λ (t : List ℕ). t ++ others) (sym parts)
        ∙ whole in
        rw (parts, ← regrouped) (number_with m x others hm hx)

mark_bound : (front : List ℕ) → IsToken Mark front → length front ≤ 1
mark_bound front (mark, bytes, is) = rw bytes (omega arith)

-- the token that was found is the longest; if none was found, none begins
abbrev pub IsFound : List ℕ → Option (Kind × ℕ) → Type 0
IsFound s None = BeginsNoToken s
IsFound s (Some t) = (t.1 ≤ length s) × IsToken t.0 (take t.1 s) × NoLonger s t.1

no_begin : (b : ℕ) (s : List ℕ) → ((k : Kind) → begins k b ≡ true → ⊥) → BeginsNoToken (b ∷ s)
no_begin b s none k front others whole h =
    let x = token_begins k front h in
    let one : (x.0 ∷ x.1) ++ others ≡ b ∷ s = subst (λ t. t ++ others ≡ b ∷ s) x.2 whole in
    let same : x.0 ≡ b = cc in
    none k (rw (← same) x.3)

found_text : (s : List ℕ) (o : Option ℕ) → text_len false s ≡ o → IsFound (quote ∷ s) (option_map (λ n. (Text, 2 + n)) o)
found_text s None e = λ k front others whole h. text_never s front others e whole
    (subst (λ i. IsToken i front) (kind_there Text k quote s front others refl whole h) h)
found_text s (Some n) e =
    let is = text_is s n e in
    (is.1, is.0, longer_than Text quote (2 + n) s refl (λ front others. text_bound s front others n e))

found_word : (b : ℕ) (s : List ℕ) → is_letter b ≡ true → IsFound (b ∷ s) (Some (Word, 1 + prefix_len is_word_byte s))
found_word b s is =
    let e : take (1 + prefix_len is_word_byte s) (b ∷ s) ≡ b ∷ take (prefix_len is_word_byte s) s = rw one-add refl in (
      omega (arith, prefix_len-le-length is_word_byte s),
      rw e (and_from _ _ is (prefix_all is_word_byte s)),
      longer_than Word b _ s is (word_bound b s),
    )

no_number : (b : ℕ) (s : List ℕ) → eqb b quote ≡ false → is_letter b ≡ false → is_mark b ≡ false → number_len (b ∷ s) ≡ 0
    → BeginsNoToken (b ∷ s)
no_number b s q l m z k front others whole h =
    let x = token_begins k front h in
    let one : (x.0 ∷ x.1) ++ others ≡ b ∷ s = subst (λ t. t ++ others ≡ b ∷ s) x.2 whole in
    let same : x.0 ≡ b = cc in
    none k (rw (← same) x.3) h (omega (arith, ap length x.2))
  where
    none : (k : Kind) → begins k b ≡ true → IsToken k front → 0 < length front → ⊥
    none Text e h n = cc
    none Word e h n = cc
    none Mark e h n = cc
    none Number e h n = omega (arith, number_bound (b ∷ s) front others whole h)

number_there : (b n : ℕ) (s : List ℕ) → n ≢ 0 → IsNumber (take n (b ∷ s)) → begins Number b ≡ true
number_there b zero s some h = absurd (some refl)
number_there b (suc n) s some h = number_begins b (take n s) h

found_number : (b : ℕ) (s : List ℕ) → eqb b quote ≡ false → is_letter b ≡ false → is_mark b ≡ false
    → IsFound (b ∷ s) (cond (eqb (number_len (b ∷ s)) 0) None (Some (Number, number_len (b ∷ s))))
found_number b s q l m =
    elim (cases_Bool (eqb (number_len (b ∷ s)) 0)) [
      | inl z ↦ rw z (no_number b s q l m (eqb-true _ 0 z))
      | inr z ↦
          let some = eqb-false (number_len (b ∷ s)) 0 z in
          let is = number_is (b ∷ s) some in
          rw z (
            number_le (b ∷ s),
            number_test _ is,
            longer_than Number b (number_len (b ∷ s)) s
                (number_there b (number_len (b ∷ s)) s some is) (λ front others whole. number_bound (b ∷ s) front others whole),
          )
    ]

pub token_found : (s : List ℕ) → IsFound s (token_at s)
unfolding token_at
token_found [] = λ k front others whole h. let x = token_begins k front h in let one : (x.0 ∷ x.1) ++ others ≡ [] =
    subst (λ t. t ++ others ≡ []) x.2 whole in cc
token_found (b ∷ s) =
    elim (cases_Bool (eqb b quote)) [
      | inl q ↦ let e : b ≡ quote = eqb-true b quote q in rw e (found_text s (text_len false s) refl)
      | inr q ↦
          elim (cases_Bool (is_letter b)) [
            | inl l ↦ rw (q, l) (found_word b s l)
            | inr l ↦
                elim (cases_Bool (is_mark b)) [
                  | inl m ↦ rw (q, l, m) (
                    omega arith,
                    (b, refl, m),
                    longer_than Mark b 1 s m (λ front others whole. mark_bound front),
                  )
                  | inr m ↦ rw (q, l, m) (found_number b s q l m)
                ]
          ]
    ]

-- what was found is a token
pub token_there : (s : List ℕ) (t : Kind × ℕ) → Some t ≡ token_at s → IsToken t.0 (take t.1 s)
token_there s t e = let found : IsFound s (Some t) = subst (IsFound s) (sym e) (token_found s) in found.1

-- the longest token is the one that was found
pub token_only : (k : Kind) (t rest : List ℕ) → IsLongest k t rest → token_at (t ++ rest) ≡ Some (k, length t)
token_only k t rest h = only (token_at (t ++ rest)) (token_found (t ++ rest))
  where
    both_kinds : (j k : Kind) (t : List ℕ) → IsToken j t → IsToken k t → j ≡ k
    both_kinds j k t p q =
        let x = token_begins j t p in
        let y = token_begins k t q in
        let one : x.0 ∷ x.1 ≡ y.0 ∷ y.1 = sym x.2 ∙ y.2 in
        let same : x.0 ≡ y.0 = cc in
        one_kind j k y.0 (rw (← same) x.3) y.3

    only : (o : Option (Kind × ℕ)) → IsFound (t ++ rest) o → o ≡ Some (k, length t)
    only None f = absurd (f k t rest refl h.token)
    only (Some (j, n)) f =
        let le = f.2 k t rest refl h.token in
        let front : take n (t ++ rest) ++ drop n (t ++ rest) ≡ t ++ rest = take-append-drop n (t ++ rest) in
        let len : length (take n (t ++ rest)) ≡ n = length-take-le n (t ++ rest) f.0 in
        let ge = h.longest j (take n (t ++ rest)) (drop n (t ++ rest)) front f.1 in
        let same : n ≡ length t = omega arith in
        let bytes : take n (t ++ rest) ≡ t = rw same (take_at t rest (length t) refl) in
        let kind : j ≡ k = both_kinds j k t (rw bytes at f.1) h.token in
        rw (same, kind) refl
