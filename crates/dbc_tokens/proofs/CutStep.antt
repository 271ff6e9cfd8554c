-- The cut of a text, one token on.
use Rattle.std.proofs.Common.{◌≡◌, ℕ, zero, suc, ◌+◌, ◌<◌, ◌≤◌, Bool, true, false, cond, eqb, List, [], ◌∷◌, length, take, drop}
use Rattle.std.proofs.Common.{Option, Some, None, refl, sym, ap, ◌∙◌, arith}
use Rattle.std.specs.Option.{option_map}
use Rattle.std.proofs.lemmas.Bool.{ne_eqb}
use Rattle.std.proofs.lemmas.List.{length-drop}
use Rattle.dbc_tokens.specs.declared.token.Kind.{Kind}
use Rattle.dbc_tokens.specs.declared.token.Kind.TheVariants.{Text, Number}
use Rattle.dbc_values.specs.Lexical.{quote, is_letter, is_mark}
use Rattle.dbc_tokens.specs.Tokens.{Cut, End, Fault, ◌▸◌, line_feeds}
use Rattle.dbc_tokens.specs.inner.Scanner.{gap_len, text_len, number_len, token_at, token_then, rest_then, gap_then, cut_in}
use Rattle.dbc_tokens.specs.inner.Scanner.{cut_of}

-- a token has a byte
abbrev pub Positive : Option (Kind × ℕ) → Type 0
Positive None = Unit {0}
Positive (Some t) = 0 < t.1

text_positive : (o : Option ℕ) → Positive (option_map (λ n. (Text, 2 + n)) o)
text_positive None = tt
text_positive (Some n) = omega arith

number_positive : (n : ℕ) → Positive (cond (eqb n 0) None (Some (Number, n)))
number_positive zero = tt
number_positive (suc n) = rw (ne_eqb (suc n) 0 (omega arith)) (omega arith)

chosen : (P : Option (Kind × ℕ) → Type 0) (b : Bool) (x y : Option (Kind × ℕ)) → P x → P y → P (cond b x y)
chosen P true x y p q = p
chosen P false x y p q = q

pub token_at_positive : (s : List ℕ) → Positive (token_at s)
unfolding token_at
token_at_positive [] = tt
token_at_positive (b ∷ s) =
    chosen Positive (eqb b quote) _ _ (text_positive (text_len false s))
    (chosen Positive (is_letter b) _ _ (omega arith)
    (chosen Positive (is_mark b) _ _ (omega arith) (number_positive (number_len (b ∷ s)))))

-- only the rest of the text matters
abbrev SameBelow : ℕ → (ℕ → List ℕ → Cut) → (ℕ → List ℕ → Cut) → Type 0
SameBelow n f g = (line : ℕ) (text : List ℕ) → length text < n → f line text ≡ g line text

token_then-same : (n : ℕ) (f g : ℕ → List ℕ → Cut) (line b : ℕ) (rest : List ℕ) (o : Option (Kind × ℕ)) → Positive o
    → length (b ∷ rest) ≤ n → SameBelow n f g → token_then f line (b ∷ rest) o ≡ token_then g line (b ∷ rest) o
token_then-same n f g line b rest None positive le same = refl
token_then-same n f g line b rest (Some t) positive le same =
    ap (λ cut. record { kind = t.0; bytes = take t.1 (b ∷ rest); line = line; left = length (b ∷ rest) } ▸ cut)
    (same _ _ (omega (arith, length-drop t.1 (b ∷ rest))))

rest_then-same : (n : ℕ) (f g : ℕ → List ℕ → Cut) (line : ℕ) (rest : List ℕ) → length rest ≤ n → SameBelow n f g
    → rest_then f line rest ≡ rest_then g line rest
rest_then-same n f g line [] le same = refl
rest_then-same n f g line (b ∷ rest) le same = token_then-same n f g line b rest (token_at (b ∷ rest))
    (token_at_positive (b ∷ rest)) le same

gap_then-same : (f g : ℕ → List ℕ → Cut) (line : ℕ) (text : List ℕ) → SameBelow (length text) f g → gap_then f line text
    ≡ gap_then g line text
gap_then-same f g line text same = rest_then-same (length text) f g _ _ (omega (arith, length-drop (gap_len false text) text)) same

cut_in-same : (n m line : ℕ) (text : List ℕ) → length text < n → length text < m → cut_in n line text ≡ cut_in m line text
cut_in-same zero m line text l k = absurd (omega arith)
cut_in-same (suc n) zero line text l k = absurd (omega arith)
cut_in-same (suc n) (suc m) line text l k = gap_then-same (cut_in n) (cut_in m) line text (λ at rest lt. cut_in-same n m at rest
    (omega arith) (omega arith))

pub cut_of-step : (line : ℕ) (text : List ℕ) → cut_of line text ≡ gap_then cut_of line text
unfolding cut_of
cut_of-step line text = gap_then-same (cut_in (length text)) cut_of line text (λ at rest lt. cut_in-same (length text)
    (suc (length rest)) at rest lt (omega arith))

pub cut_nil : (line : ℕ) → cut_of line [] ≡ End line
cut_nil line = cut_of-step line [] ∙ ap End (omega arith)

-- ---- one step

pub rest_some : (go : ℕ → List ℕ → Cut) (line : ℕ) (rest : List ℕ) (t : Kind × ℕ) → token_at rest ≡ Some t → rest_then go line rest
    ≡ token_then go line rest (Some t)
unfolding token_at
rest_some go line [] t e = absurd cc
rest_some go line (b ∷ rest) t e = ap (token_then go line (b ∷ rest)) e

pub rest_none : (go : ℕ → List ℕ → Cut) (line : ℕ) (rest : List ℕ) → token_at rest ≡ None → rest_then go line rest
    ≡ cond (eqb (length rest) 0) (End line) (Fault line)
rest_none go line [] e = refl
rest_none go line (b ∷ rest) e = rw (ne_eqb (suc (length rest)) 0 (omega arith)) (ap (token_then go line (b ∷ rest)) e)

pub cut_token : (line : ℕ) (text : List ℕ) (n : ℕ) (gap rest bytes others : List ℕ) (t : Kind × ℕ) (a b : ℕ)
    → n ≡ gap_len false text → gap ≡ take n text → rest ≡ drop n text → a ≡ line_feeds gap
    → Some t ≡ token_at rest → bytes ≡ take t.1 rest → others ≡ drop t.1 rest → b ≡ line_feeds bytes
    → cut_of line text ≡ record { kind = t.0; bytes = bytes; line = line + a; left = length rest } ▸ cut_of (line + a + b) others
cut_token line text n gap rest bytes others t a b n_is gap_is rest_is a_is t_is bytes_is others_is b_is =
    let there : token_at (drop (gap_len false text) text) ≡ Some t = rw (← n_is, ← rest_is) (sym t_is) in
    rw (b_is, bytes_is, others_is, a_is, gap_is, rest_is, n_is) (cut_of-step line text ∙ rest_some cut_of _ _ t there)

pub cut_none : (line : ℕ) (text : List ℕ) (n : ℕ) (gap rest : List ℕ) (a : ℕ) → n ≡ gap_len false text → gap ≡ take n text
    → rest ≡ drop n text → a ≡ line_feeds gap → None ≡ token_at rest
    → cut_of line text ≡ cond (eqb (length rest) 0) (End (line + a)) (Fault (line + a))
cut_none line text n gap rest a n_is gap_is rest_is a_is none =
    let there : token_at (drop (gap_len false text) text) ≡ None = rw (← n_is, ← rest_is) (sym none) in
    rw (a_is, gap_is, rest_is, n_is) (cut_of-step line text ∙ rest_none cut_of _ _ there)
