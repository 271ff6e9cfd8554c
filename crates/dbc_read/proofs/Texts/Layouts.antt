-- The text of a layout has the tokens of its items.
use Rattle.std.proofs.Common.{◌≡◌, ℕ, suc, ◌+◌, pos, negsuc, Bool, true, false, not, cond, ◌||◌, List, [], ◌∷◌, ◌++◌, length, refl}
use Rattle.std.proofs.Common.{sym, ap, subst, ◌∙◌, append_assoc, arith, ◌⊎◌, inl, inr}
use Rattle.std.specs.Prelude.{codes, decimal, IsTrue}
use Rattle.std.specs.List.{flat_map}
use Rattle.std.proofs.lemmas.Bool.{and_parts}
use Rattle.std.proofs.lemmas.List.Sums.{sum_by-cons}
use Rattle.dbc_values.specs.Lexical.{quoted, is_point, is_word_byte, is_mark, is_blank, is_line_feed}
use Rattle.dbc_records.specs.Layout.{Item, Word, Mark, Name, Symbol, Text, Whole, Int, Number, Switch, Muxed, Both, Order, Piece}
use Rattle.dbc_records.specs.Layout.{magnitude_text, Element, Space, Tab, LineEnd, Is, Layout, item_text, layout_text, element_text}
use Rattle.dbc_records.specs.Layout.{items_of}
use Rattle.dbc_tokens.specs.declared.token.Kind.TheVariants as kinds
use Rattle.dbc_tokens.specs.Tokens.{Token, Cut, End, Fault, ◌▸◌, IsGap, Blank, IsLongest, line_feeds, HasTokens}
use Rattle.dbc_reader.specs.Forms.{◌▸▸◌}
use Rattle.dbc_reader.proofs.Sound.{all_then_twice}
use Rattle.dbc_tokens.proofs.Longest.{any_all}
use Rattle.dbc_read.proofs.Texts.Longest.{EndsToken, closed_longest, open_longest}
use Rattle.dbc_read.proofs.Items.{Lexeme, lexeme, sign_lexemes, kind_of_piece, lexemes, AreTokens, HaveLexemes, Printed, ArePrinted}
use Rattle.dbc_read.proofs.Items.{is_closed, ends_item, are_apart, all_lexemes, LayoutTokens}

-- ---- blanks

gap_more : (b : ℕ) (gap rest : List ℕ) → is_blank b ≡ true → IsGap gap rest → IsGap (b ∷ gap) rest
gap_more b gap rest blank (parts, same, are) = (Blank b ∷ parts, ap (λ (l : List ℕ). b ∷ l) same, (blank, are))

counted : (line : ℕ) (b : ℕ) (bytes : List ℕ) → (line + line_feeds (b ∷ [])) + line_feeds bytes ≡ line + line_feeds (b ∷ bytes)
counted line b bytes =
    let one : line_feeds (b ∷ []) ≡ cond (is_line_feed b) 1 0 + 0 = sum_by-cons (λ x. cond (is_line_feed x) 1 0) b [] in
    let all : line_feeds (b ∷ bytes) ≡ cond (is_line_feed b) 1 0 + line_feeds bytes = sum_by-cons (λ x. cond (is_line_feed x) 1 0) b
    bytes in
    join line (line_feeds (b ∷ [])) (line_feeds bytes) (line_feeds (b ∷ bytes)) (cond (is_line_feed b) 1 0) one all
  where
    join : (line one bytes all n : ℕ) → one ≡ n + 0 → all ≡ n + bytes → (line + one) + bytes ≡ line + all
    join line one bytes all n e f = omega (arith, e, f)

-- a blank before a text
blank_before : (line after b : ℕ) (text : List ℕ) (cut : Cut) → is_blank b ≡ true
    → HasTokens (line + line_feeds (b ∷ [])) after text cut → HasTokens line after (b ∷ text) cut
blank_before line after b text (End at) blank (gap, e) = (gap_more b text [] blank gap, e ∙ counted line b text)
blank_before line after b text (Fault at) blank (gap, rest, same, is, e, some, none, no_token) =
    (b ∷ gap, rest, ap (λ (l : List ℕ). b ∷ l) same, gap_more b gap rest blank is, e ∙ counted line b gap, some, none, no_token)
blank_before line after b text (t ▸ cut) blank (gap, rest, same, is, e, left, longest, others) = (
  b ∷ gap,
  rest,
  ap (λ (l : List ℕ). b ∷ l) same,
  gap_more b gap (t.bytes ++ rest) blank is,
  e ∙ counted line b gap,
  left,
  longest,
  others,
)

-- ---- one token

-- a token at the front of a text
token_before : (line after : ℕ) (t : Token) (rest : List ℕ) (cut : Cut) → t.line ≡ line → t.left ≡ length (t.bytes ++ rest) + after
    → IsLongest t.kind t.bytes rest → HasTokens (t.line + line_feeds t.bytes) after rest cut
    → HasTokens line after (t.bytes ++ rest) (t ▸ cut)
token_before line after t rest cut at left longest others =
    ([], rest, refl, ([], refl, tt), at ∙ plus_none line, left, longest, others)
  where
    plus_none : (n : ℕ) → n ≡ n + 0
    plus_none n = omega arith

-- ---- what ends a token

not_from : (b : Bool) → not b ≡ true → b ≡ false
not_from true e = absurd cc
not_from false e = refl

mark_ends : (mark : ℕ) → is_mark mark ≡ true → (is_word_byte mark || is_point mark) ≡ false
mark_ends mark is = not_from (is_word_byte mark || is_point mark) (any_all mark (λ m. not (is_word_byte m || is_point m))
    (codes ":;|@()[],+-") is refl)

-- the text of a layout that ends an item begins with what ends a token
layout_ends : (layout : Layout) → ArePrinted layout → ends_item layout ≡ true → EndsToken (layout_text layout)
unfolding layout_text
layout_ends [] are ends = tt
layout_ends (Space ∷ layout) are ends = refl
layout_ends (Tab ∷ layout) are ends = refl
layout_ends (LineEnd ∷ layout) are ends = refl
layout_ends (Is item ∷ layout) are ends = item_ends item are.0 ends (layout_text layout)
  where
    item_ends : (item : Item) → Printed item → is_closed item ≡ true → (rest : List ℕ) → EndsToken (item_text item ++ rest)
    item_ends (Mark mark) printed closed rest = mark_ends mark (mark_is mark printed.are_tokens.0)
      where
        mark_is : (mark : ℕ) → (m : ℕ) × (mark ∷ [] ≡ m ∷ []) × IsTrue (is_mark m) → is_mark mark ≡ true
        mark_is mark (m, same, is) = let e : mark ≡ m = cc in ap is_mark e ∙ is
    item_ends (Text text) printed closed rest = refl
    item_ends item printed closed rest = absurd cc

-- ---- the tokens of an item

-- the last of an item's tokens ends there, and the others are marks
abbrev Ends : List Lexeme → List ℕ → Type 0
Ends [] rest = Unit {0}
Ends (l ∷ []) rest = IsLongest l.kind l.bytes rest
Ends (l ∷ m ∷ ls) rest = (l.kind ≡ kinds.Mark) × Ends (m ∷ ls) rest

abbrev text_of : List Lexeme → List ℕ
text_of ls = flat_map (λ (l : Lexeme). l.bytes) ls

-- tokens with these lexemes in front of a text
pub record Before (line after : ℕ) (ls : List Lexeme) (rest : List ℕ) (cut : ℕ → Cut) : Type 0 where
  pub tokens : List Token
  pub following : ℕ
  pub have : HaveLexemes ls tokens
  pub has : HasTokens following after rest (cut following) → HasTokens line after (text_of ls ++ rest) (tokens ▸▸ cut following)

before_one : (line after : ℕ) (l : Lexeme) (ls : List Lexeme) (rest : List ℕ) (cut : ℕ → Cut)
    → IsLongest l.kind l.bytes (text_of ls ++ rest) → Before (line + line_feeds l.bytes) after ls rest cut
    → Before line after (l ∷ ls) rest cut
before_one line after l ls rest cut longest more =
    let left : ℕ = length (l.bytes ++ (text_of ls ++ rest)) + after in
    let t : Token = record { kind = l.kind; bytes = l.bytes; line = line; left = left } in
    record {
      tokens = t ∷ more.tokens;
      following = more.following;
      have = (refl, refl, more.have);
      has = λ others. subst (λ (text : List ℕ). HasTokens line after text (t ▸ (more.tokens ▸▸ cut more.following)))
          (sym (append_assoc l.bytes (text_of ls) rest))
          (token_before line after t (text_of ls ++ rest) (more.tokens ▸▸ cut more.following) refl refl longest (more.has others));
    }

before_all : (line after : ℕ) (ls : List Lexeme) (rest : List ℕ) (cut : ℕ → Cut) → AreTokens ls → Ends ls rest
    → Before line after ls rest cut
before_all line after [] rest cut are ends = record { tokens = []; following = line; have = refl; has = λ others. others }
before_all line after (l ∷ []) rest cut are ends =
    before_one line after l [] rest cut ends (before_all (line + line_feeds l.bytes) after [] rest cut tt tt)
before_all line after (l ∷ m ∷ ls) rest cut are ends =
    before_one line after l (m ∷ ls) rest cut (closed_longest l.kind l.bytes (text_of (m ∷ ls) ++ rest) (inl ends.0) are.0)
    (before_all (line + line_feeds l.bytes) after (m ∷ ls) rest cut are.1 ends.1)

-- ---- layouts

pub ends_so : (item : Item) (rest : List ℕ) → Printed item → (is_closed item ≡ true) ⊎ EndsToken rest → Ends (lexemes item) rest
ends_so (Word word) rest printed (inl closed) = absurd cc
ends_so (Word word) rest printed (inr ends) = open_longest kinds.Word word rest ends printed.are_tokens.0
ends_so (Mark mark) rest printed either = closed_longest kinds.Mark (mark ∷ []) rest (inl refl) printed.are_tokens.0
ends_so (Name name) rest printed (inl closed) = absurd cc
ends_so (Name name) rest printed (inr ends) = open_longest kinds.Word name rest ends printed.are_tokens.0
ends_so (Symbol word) rest printed (inl closed) = absurd cc
ends_so (Symbol word) rest printed (inr ends) = open_longest kinds.Word word rest ends printed.are_tokens.0
ends_so (Text text) rest printed either = closed_longest kinds.Text (quoted text) rest (inr refl) printed.are_tokens.0
ends_so (Whole n) rest printed (inl closed) = absurd cc
ends_so (Whole n) rest printed (inr ends) = open_longest kinds.Number (decimal n) rest ends printed.are_tokens.0
ends_so (Int (pos n)) rest printed (inl closed) = absurd cc
ends_so (Int (pos n)) rest printed (inr ends) = open_longest kinds.Number (decimal n) rest ends printed.are_tokens.0
ends_so (Int (negsuc n)) rest printed (inl closed) = absurd cc
ends_so (Int (negsuc n)) rest printed (inr ends) =
    (refl, open_longest kinds.Number (decimal (suc n)) rest ends printed.are_tokens.1.0)
ends_so (Number d) rest printed (inl closed) = absurd cc
ends_so (Number d) rest printed (inr ends) = number_ends d.negative (magnitude_text (decimal d.mantissa) d.exponent) rest ends
    printed.are_tokens
  where
    number_ends : (negative : Bool) (bytes rest : List ℕ) → EndsToken rest
        → AreTokens (sign_lexemes negative ++ lexeme kinds.Number bytes ∷ [])
        → Ends (sign_lexemes negative ++ lexeme kinds.Number bytes ∷ []) rest
    number_ends true bytes rest ends are = (refl, open_longest kinds.Number bytes rest ends are.1.0)
    number_ends false bytes rest ends are = open_longest kinds.Number bytes rest ends are.0
ends_so Switch rest printed (inl closed) = absurd cc
ends_so Switch rest printed (inr ends) = open_longest kinds.Word (codes "M") rest ends printed.are_tokens.0
ends_so (Muxed n) rest printed (inl closed) = absurd cc
ends_so (Muxed n) rest printed (inr ends) = open_longest kinds.Word (codes "m" ++ decimal n) rest ends printed.are_tokens.0
ends_so (Both n) rest printed (inl closed) = absurd cc
ends_so (Both n) rest printed (inr ends) = open_longest kinds.Word (codes "m" ++ (decimal n ++ codes "M")) rest ends
    printed.are_tokens.0
ends_so (Order intel) rest printed (inl closed) = absurd cc
ends_so (Order intel) rest printed (inr ends) = open_longest kinds.Number (cond intel (codes "1") (codes "0")) rest ends
    printed.are_tokens.0
ends_so (Piece bytes) rest printed (inl closed) = absurd cc
ends_so (Piece bytes) rest printed (inr ends) = open_longest (kind_of_piece bytes) bytes rest ends printed.are_tokens.0

either_so : (a b : Bool) → (a || b) ≡ true → (a ≡ true) ⊎ (b ≡ true)
either_so true b e = inl refl
either_so false b e = inr e

blank_more : (line after b : ℕ) (e : Element) (layout : Layout) → is_blank b ≡ true → element_text e ≡ b ∷ []
    → all_lexemes (e ∷ layout) ≡ all_lexemes layout → LayoutTokens (line + line_feeds (b ∷ [])) after layout
    → LayoutTokens line after (e ∷ layout)
unfolding layout_text
blank_more line after b e layout blank text same below = record {
  tokens = below.tokens;
  at = below.at;
  has = subst (λ (front : List ℕ). HasTokens line after (front ++ layout_text layout) (below.tokens ▸▸ End below.at)) (sym text)
      (blank_before line after b (layout_text layout) (below.tokens ▸▸ End below.at) blank below.has);
  have = subst (λ (ls : List Lexeme). HaveLexemes ls below.tokens) (sym same) below.have;
}

have_both : (xs ys : List Lexeme) (u v : List Token) → HaveLexemes xs u → HaveLexemes ys v → HaveLexemes (xs ++ ys) (u ++ v)
have_both [] ys u v h k = subst (λ (l : List Token). HaveLexemes ys (l ++ v)) (sym h) k
have_both (x ∷ xs) ys [] v h k = elim h [ ]
have_both (x ∷ xs) ys (t ∷ u) v h k = (h.0, h.1, have_both xs ys u v h.2 k)

item_more : (line after : ℕ) (item : Item) (layout : Layout) → Printed item
    → (is_closed item ≡ true) ⊎ EndsToken (layout_text layout) → ((line : ℕ) → LayoutTokens line after layout)
    → LayoutTokens line after (Is item ∷ layout)
unfolding layout_text items_of
item_more line after item layout printed either below =
    let front = before_all line after (lexemes item) (layout_text layout) (λ following. (below following).tokens ▸▸ End (below
    following).at)
    printed.are_tokens (ends_so item (layout_text layout) printed either) in
    let rest = below front.following in
    record {
      tokens = front.tokens ++ rest.tokens;
      at = rest.at;
      has = subst (λ (cut : Cut). HasTokens line after (item_text item ++ layout_text layout) cut)
          (sym (all_then_twice front.tokens rest.tokens (End rest.at)))
          (subst (λ (text : List ℕ). HasTokens line after (text ++ layout_text layout)
          (front.tokens ▸▸ (rest.tokens ▸▸ End rest.at)))
          (sym printed.text) (front.has rest.has));
      have = have_both (lexemes item) (all_lexemes layout) front.tokens rest.tokens front.have rest.have;
    }

pub layout_tokens : (layout : Layout) → ArePrinted layout → are_apart layout ≡ true → (line after : ℕ)
    → LayoutTokens line after layout
unfolding layout_text items_of
layout_tokens [] are apart line after = record { tokens = []; at = line + 0; has = (([], refl, tt), refl); have = refl }
layout_tokens (Space ∷ layout) are apart line after = blank_more line after 32 Space layout refl refl refl
    (layout_tokens layout are apart (line + line_feeds (32 ∷ [])) after)
layout_tokens (Tab ∷ layout) are apart line after = blank_more line after 9 Tab layout refl refl refl
    (layout_tokens layout are apart (line + line_feeds (9 ∷ [])) after)
layout_tokens (LineEnd ∷ layout) are apart line after = blank_more line after 10 LineEnd layout refl refl refl
    (layout_tokens layout are apart (line + line_feeds (10 ∷ [])) after)
layout_tokens (Is item ∷ layout) are apart line after =
    let parts = and_parts (is_closed item || ends_item layout) (are_apart layout) apart in
    let either : (is_closed item ≡ true) ⊎ EndsToken (layout_text layout) =
    elim (either_so (is_closed item) (ends_item layout) parts.0) [
      | inl closed ↦ inl closed
      | inr ends ↦ inr
          (layout_ends layout are.1 ends)
    ] in
    item_more line after item layout are.0 either (λ at. layout_tokens layout are.1 parts.1 at after)
