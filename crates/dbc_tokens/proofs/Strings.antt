-- The quote that closes a string: a text and a quote after it are what the scanner finds, and it finds nothing else.
use Rattle.std.proofs.Common.{◌≡◌, ℕ, ◌+◌, Bool, true, false, not, cond, eqb, ◌&&◌, List, [], ◌∷◌, ◌++◌, length, Option, Some, None}
use Rattle.std.proofs.Common.{refl, ap, subst, arith, inl, inr}
use Rattle.std.specs.Option.{option_map}
use Rattle.std.proofs.lemmas.Bool.{eqb-true, cases_Bool, and_parts, and_from}
use Rattle.dbc_values.specs.Lexical.{quote, backslash, is_text_after}
use Rattle.dbc_tokens.specs.inner.Scanner.{text_len}

-- a quote where none closes is directly after a backslash
stays_open : (b : ℕ) (after : Bool) → cond (eqb b quote) after true ≡ true → (eqb b quote && not after) ≡ false
stays_open b after h = by (eqb b quote) after h
  where
    by : (is after : Bool) → cond is after true ≡ true → (is && not after) ≡ false
    by true true h = refl
    by true false h = absurd cc
    by false after h = refl

opens_not : (b : ℕ) (after : Bool) → (eqb b quote && not after) ≡ false → cond (eqb b quote) after true ≡ true
opens_not b after h = by (eqb b quote) after h
  where
    by : (is after : Bool) → (is && not after) ≡ false → cond is after true ≡ true
    by true true h = refl
    by true false h = absurd cc
    by false after h = refl

pub text_found : (after : Bool) (text rest : List ℕ) → is_text_after after text ≡ true → text_len after (text ++ quote ∷ rest)
    ≡ Some (length text)
text_found true [] rest h = absurd cc
text_found false [] rest h = refl
text_found after (b ∷ text) rest h =
    let both = and_parts (cond (eqb b quote) after true) (is_text_after (eqb b backslash) text) h in
    rw (stays_open b after both.0, text_found (eqb b backslash) text rest both.1) (ap {B = Option ℕ} Some (omega arith))

-- a text of n bytes, and a quote after it
pub record Closes (after : Bool) (s : List ℕ) (n : ℕ) : Type 0 where
  pub text : List ℕ
  pub rest : List ℕ
  pub bytes : s ≡ text ++ quote ∷ rest
  pub len : length text ≡ n
  pub is : is_text_after after text ≡ true

abbrev Found : (ℕ → Type 0) → Option ℕ → Type 0
Found P None = Unit {0}
Found P (Some n) = P n

closes : (after : Bool) (s : List ℕ) → Found (Closes after s) (text_len after s)
closes after [] = tt
closes after (b ∷ s) =
    elim (cases_Bool (eqb b quote && not after)) [
      | inl yes' ↦
          let both = and_parts (eqb b quote) (not after) yes' in
          rw yes' (record { text = []; rest = s; bytes = ap (λ (c : ℕ). c ∷ s) (eqb-true b quote both.0); len = refl; is = both.1 })
      | inr no' ↦ rw no' (more (text_len (eqb b backslash) s) no' (closes (eqb b backslash) s))
    ]
  where
    more : (o : Option ℕ) → (eqb b quote && not after) ≡ false → Found (Closes (eqb b backslash) s) o
        → Found (Closes after (b ∷ s)) (option_map (λ n. 1 + n) o)
    more None no' c = tt
    more (Some n) no' c = record {
      text = b ∷ c.text;
      rest = c.rest;
      bytes = ap (λ (t : List ℕ). b ∷ t) c.bytes;
      len = let e = c.len in omega arith;
      is = and_from _ _ (opens_not b after no') c.is;
    }

pub closes_at : (after : Bool) (s : List ℕ) (n : ℕ) → text_len after s ≡ Some n → Closes after s n
closes_at after s n e = subst (Found (Closes after s)) e (closes after s)
