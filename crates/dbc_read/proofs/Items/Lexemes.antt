-- Each item is printed as tokens that spell it.
use Rattle.std.proofs.Common.{◌≡◌, ℕ, suc, ◌<◌, ◌^◌, ℤ, pos, negsuc, Bool, true, false, cond, ◌||◌, ◌&&◌, List, [], ◌∷◌, ◌++◌}
use Rattle.std.proofs.Common.{length, refl, sym, ap, subst, ◌∙◌, append-nil, arith, inl}
use Rattle.std.specs.Prelude.{codes, decimal, IsTrue, not, ◌==◌}
use Rattle.std.specs.List.{flat_map}
use Rattle.std.proofs.lemmas.Bool.{and_parts, eqb-true}
use Rattle.std.proofs.lemmas.Slice.Eq.{bytes_eq-Decides}
use Rattle.std.specs.Str.{bytes_eq}
use Rattle.dbc_values.specs.Decimals.{Decimal, IsDecimal, SpellsDecimal}
use Rattle.dbc_values.specs.Pieces.{is_piece, is_string, is_mark_but_semicolon, inside}
use Rattle.dbc_values.specs.Lexical.{quoted, is_text, is_word, is_name, is_number, is_mark, is_keyword}
use Rattle.dbc_records.specs.Layout.{Item, Word, Mark, Name, Symbol, Text, Whole, Int, Number, Switch, Muxed, Both, Order, Piece}
use Rattle.dbc_records.specs.Layout.{item_text, magnitude_text, sign_text, decimal_text}
use Rattle.dbc_values.specs.Names.{is_symbol}
use Rattle.dbc_tokens.specs.declared.token.Kind.{Kind}
use Rattle.dbc_tokens.specs.declared.token.Kind.TheVariants as kinds
use Rattle.dbc_tokens.specs.Tokens.{Token, IsToken}
use Rattle.dbc_reader.specs.Forms.{Says, IsOne, IsSigned, SpellsNumber, SpellsTag, signed}
use Rattle.dbc_read.proofs.Items.{Lexeme, lexeme, sign_lexemes, kind_of_piece, lexemes, AreTokens, HaveLexemes, Printed, IsItem}
use Rattle.dbc_read.proofs.Items.Digits.{decimal_spells, tag_spells, tag_is_word}
use Rattle.dbc_read.proofs.Items.Decimals.{magnitude_spells}
use Rattle.dbc_read.proofs.Takes.Tags.{spells_digits}

-- whole numbers of 64 bits are printed with all their digits
short : (n : ℕ) → n < 2 ^ 64 → n < 10 ^ 64
short n h = omega (arith, h)

short_negative : (n : ℕ) → n < 2 ^ 63 → suc n < 10 ^ 64
short_negative n h = omega (arith, h)

-- ---- items of one token

one_means : (kind : Kind) (bytes : List ℕ) (AreSo : List ℕ → Type 0) → AreSo bytes → (tokens : List Token)
    → HaveLexemes (lexeme kind bytes ∷ []) tokens → IsOne AreSo tokens
one_means kind bytes AreSo so [] have = elim have [ ]
one_means kind bytes AreSo so (t ∷ tokens) have = (t, ap (λ (rest : List Token). t ∷ rest) have.2, subst AreSo (sym have.1) so)

one_printed : (item : Item) (kind : Kind) (bytes : List ℕ) (AreSo : List ℕ → Type 0) → lexemes item ≡ lexeme kind bytes ∷ []
    → item_text item ≡ bytes → IsToken kind bytes
    → ((tokens : List Token) → IsOne AreSo tokens → Says item tokens) → AreSo bytes → Printed item
one_printed item kind bytes AreSo alone text token say so = record {
  text = text ∙ sym (append-nil bytes) ∙ ap (flat_map (λ (l : Lexeme). l.bytes)) (sym alone);
  are_tokens = subst AreTokens (sym alone) (token, tt);
  means = λ tokens have. say tokens (one_means kind bytes AreSo so tokens (subst (λ (ls : List Lexeme). HaveLexemes ls tokens) alone
      have));
}

-- ---- a sign and a number

signed_text : (negative : Bool) (bytes : List ℕ) → sign_text negative ++ bytes ≡ flat_map (λ (l : Lexeme). l.bytes)
    (sign_lexemes negative ++ lexeme kinds.Number bytes ∷ [])
unfolding sign_text
signed_text true bytes = ap (λ (rest : List ℕ). 45 ∷ rest) (sym (append-nil bytes))
signed_text false bytes = sym (append-nil bytes)

signed_tokens : (negative : Bool) (bytes : List ℕ) → is_number bytes ≡ true
    → AreTokens (sign_lexemes negative ++ lexeme kinds.Number bytes ∷ [])
signed_tokens true bytes number = ((45, refl, refl), (number, tt))
signed_tokens false bytes number = (number, tt)

signed_means : (negative : Bool) (bytes : List ℕ) (AreSo : Bool → List ℕ → Type 0) → AreSo negative bytes → (tokens : List Token)
    → HaveLexemes (sign_lexemes negative ++ lexeme kinds.Number bytes ∷ []) tokens → IsSigned AreSo tokens
signed_means true bytes AreSo so [] have = elim have [ ]
signed_means true bytes AreSo so (t ∷ tokens) have =
    (true, t ∷ [], tokens, refl, (t, refl, have.1), one_means kinds.Number bytes (AreSo true) so tokens have.2)
signed_means false bytes AreSo so tokens have = (
  false,
  [],
  tokens,
  refl,
  inl refl,
  one_means kinds.Number bytes (AreSo false) so
      tokens have,
)

int_printed : (z : ℤ) → IsItem (Int z) → Printed (Int z)
int_printed (pos n) is =
    let spelled = decimal_spells n (short n is) in
    record {
      text = sym (append-nil (decimal n));
      are_tokens = (spelled.0, tt);
      means = λ tokens have. signed_means false (decimal n) (λ negative bytes. (k : ℕ) × SpellsNumber bytes k
          × (pos n ≡ signed negative k)) (n, spelled, refl) tokens have;
    }
int_printed (negsuc n) is =
    let spelled = decimal_spells (suc n) (short_negative n is) in
    record {
      text = ap (λ (rest : List ℕ). 45 ∷ rest) (sym (append-nil (decimal (suc n))));
      are_tokens = ((45, refl, refl), (spelled.0, tt));
      means = λ tokens have. signed_means true (decimal (suc n)) (λ negative bytes. (k : ℕ) × SpellsNumber bytes k
          × (negsuc n ≡ signed negative k)) (suc n, spelled, refl) tokens have;
    }

number_printed : (d : Decimal) → IsDecimal d → Printed (Number d)
unfolding decimal_text
number_printed d is =
    let bytes = magnitude_text (decimal d.mantissa) d.exponent in
    let spelled = magnitude_spells d is in
    record {
      text = signed_text d.negative bytes;
      are_tokens = signed_tokens d.negative bytes spelled.form;
      means = λ tokens have. signed_means d.negative bytes (λ negative bytes. SpellsDecimal negative bytes d) spelled tokens have;
    }

-- ---- kept tokens

string_token : (bytes : List ℕ) → is_string bytes ≡ true → IsToken kinds.Text bytes
unfolding is_string
string_token bytes is =
    let both = and_parts (bytes_eq bytes (quoted (inside bytes))) (is_text (inside bytes)) is in
    (inside bytes, (bytes_eq-Decides bytes (quoted (inside bytes))).0 both.0, both.1)

mark_token : (bytes : List ℕ) → is_mark_but_semicolon bytes ≡ true → IsToken kinds.Mark bytes
mark_token [] is = absurd cc
mark_token (b ∷ []) is = (b, refl, (and_parts (is_mark b) (not (b == 59)) (and_parts (is_mark b && not (b == 59)) true is).0).0)
mark_token (b ∷ c ∷ bytes) is =
    absurd (omega (arith, eqb-true (length (c ∷ bytes)) 0 (and_parts (is_mark b && not (b == 59)) (length (c ∷ bytes) == 0) is).1))

piece_token : (bytes : List ℕ) → is_piece bytes ≡ true → IsToken (kind_of_piece bytes) bytes
unfolding is_piece
piece_token bytes is = by_kind (is_string bytes) (is_word bytes) (is_number bytes) refl refl refl is
  where
    by_kind : (string word number : Bool) → is_string bytes ≡ string → is_word bytes ≡ word → is_number bytes ≡ number
        → (string || word || number || is_mark_but_semicolon bytes) ≡ true
        → IsToken (cond string kinds.Text (cond word kinds.Word (cond number kinds.Number kinds.Mark))) bytes
    by_kind true word number is_str is_wrd is_num any = string_token bytes is_str
    by_kind false true number is_str is_wrd is_num any = is_wrd
    by_kind false false true is_str is_wrd is_num any = is_num
    by_kind false false false is_str is_wrd is_num any = mark_token bytes any

-- ---- all items

order_spells : (intel : Bool) → SpellsNumber (cond intel (codes "1") (codes "0")) (cond intel 1 0)
order_spells true = spells_digits (codes "1") refl
order_spells false = spells_digits (codes "0") refl

word_of_name : (word : List ℕ) → is_name word ≡ true → is_word word ≡ true
unfolding is_name
word_of_name word is = (and_parts (is_word word) (not (is_keyword word)) is).0

word_of_symbol : (word : List ℕ) → is_symbol word ≡ true → is_word word ≡ true
unfolding is_symbol
word_of_symbol word is = (and_parts (is_word word) _ is).0

-- the whole numbers among the items have at most 64 digits, which is how many are printed
pub printed : (item : Item) → IsItem item → Printed item
printed (Word word) is = one_printed (Word word) kinds.Word word (λ bytes. bytes ≡ word) refl refl is (λ tokens means. means) refl
printed (Mark mark) is = one_printed (Mark mark) kinds.Mark (mark ∷ []) (λ bytes. bytes ≡ mark ∷ []) refl refl (
  mark,
  refl,
  is,
) (λ tokens means. means) refl
printed (Name name) is = one_printed (Name name) kinds.Word name (λ bytes. (bytes ≡ name) × IsTrue (is_name name)) refl refl
    (word_of_name name is) (λ tokens means. means) (refl, is)
printed (Symbol word) is = one_printed (Symbol word) kinds.Word word (λ bytes. (bytes ≡ word) × IsTrue (is_symbol word)) refl refl
    (word_of_symbol word is) (λ tokens means. means) (refl, is)
printed (Text text) is = one_printed (Text text) kinds.Text (quoted text) (λ bytes. (bytes ≡ quoted text) × IsTrue (is_text text))
    refl refl (text, refl, is) (λ tokens means. means) (refl, is)
printed (Whole n) is =
    let spelled = decimal_spells n (short n is) in
    one_printed (Whole n) kinds.Number (decimal n) (λ bytes. SpellsNumber bytes n) refl refl spelled.0 (λ tokens means. means)
    spelled
printed (Int z) is = int_printed z is
printed (Number d) is = number_printed d is
printed Switch is = one_printed Switch kinds.Word (codes "M") (λ bytes. bytes ≡ codes "M") refl refl refl (λ tokens means. means)
    refl
printed (Muxed n) is =
    let alone : codes "m" ++ (decimal n ++ []) ≡ codes "m" ++ decimal n = ap (λ (digits : List ℕ). codes "m" ++ digits)
    (append-nil (decimal n)) in
    one_printed (Muxed n) kinds.Word (codes "m" ++ decimal n) (λ bytes. SpellsTag bytes n []) refl refl
    (subst (λ (bytes : List ℕ). is_word bytes ≡ true) alone (tag_is_word n [] (short n is) refl)) (λ tokens means. means)
    (subst (λ (bytes : List ℕ). SpellsTag bytes n []) alone (tag_spells n [] (short n is)))
printed (Both n) is =
    one_printed (Both n) kinds.Word (codes "m" ++ (decimal n ++ codes "M")) (λ bytes. SpellsTag bytes n (codes "M")) refl refl
    (tag_is_word n (codes "M") (short n is) refl) (λ tokens means. means) (tag_spells n (codes "M") (short n is))
printed (Order intel) is =
    let spelled = order_spells intel in
    one_printed (Order intel) kinds.Number (cond intel (codes "1") (codes "0")) (λ bytes. SpellsNumber bytes (cond intel 1 0)) refl
    refl spelled.0 (λ tokens means. means) spelled
printed (Piece bytes) is =
    one_printed (Piece bytes) (kind_of_piece bytes) bytes (λ piece. (piece ≡ bytes) × IsTrue (is_piece bytes)) refl refl
    (piece_token bytes is) (λ tokens means. means) (refl, is)
