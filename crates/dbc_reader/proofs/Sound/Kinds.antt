-- What each part's reader reads is spelled by the part's form.
use Rattle.std.proofs.Common.{◌≡◌, ℕ, pos, neg_ℤ, ◌^◌, ◌-◌, Bool, true, false, cond, ◌&&◌, List, [], ◌∷◌, ◌++◌, Option, Some, None}
use Rattle.std.proofs.Common.{Ok, Err, refl, sym, ap, subst, ◌∙◌, inl, inr}
use Rattle.std.specs.Prelude.{nat_le, IsTrue}
use Rattle.std.specs.List.{flat_map}
use Rattle.std.specs.Str.{bytes_eq}
use Rattle.std.proofs.lemmas.Slice.Eq.{bytes_eq-Decides}
use Rattle.std.proofs.lemmas.Bool.{and_parts}
use Rattle.dbc_values.specs.Lexical.{quoted, is_text, is_name, is_number}
use Rattle.dbc_values.specs.Numbers.{mantissa_of, exponent_of, whole_value, whole_of_number}
use Rattle.dbc_values.specs.Decimals.{Decimal, decimal_of, decimal_of_number, SpellsDecimal}
use Rattle.dbc_values.specs.Names.{is_symbol}
use Rattle.dbc_values.specs.Pieces.{is_piece, is_string, inside}
use Rattle.dbc_records.specs.Layout.{Word, Mark, Name, Symbol, Text, Whole, Int, Number, Piece}
use Rattle.dbc_values.specs.declared.number.Whole.{Whole as WholeNumber}
use Rattle.dbc_values.specs.declared.number.Whole.TheVariants.{Fraction, TooLarge, Value}
use Rattle.dbc_values.proofs.NormalForms.{decimal_to}
use Rattle.dbc_values.proofs.WholeNumbers.{whole_to}
use Rattle.dbc_tokens.specs.declared.fault.Cause.TheVariants as causes
use Rattle.dbc_tokens.specs.Tokens.{Token}
use Rattle.dbc_reader.specs.Classes.{has_word, has_mark, where_true, bounded, there, text_of, whole_of, number_of}
use Rattle.dbc_reader.specs.Forms.{Is, Unsigned, IsOne, IsSign, Says, SpellsNumber, signed}
use Rattle.dbc_reader.specs.inner.Parts.{word_at, mark_at, name_at, symbol_at, text_at, piece_at, whole_at, id_at, number_at}
use Rattle.dbc_reader.specs.inner.Parts.{decimal_at, int_at, names_from, symbols_from, pieces_from}
use Rattle.dbc_reader.proofs.Sound.{Sound, Reads, reads_one, reads_after, reads_as, reads_value, sound_reads, sound_choose}
use Rattle.dbc_reader.proofs.Sound.{sound_one, grows_by_one, grows_repeated, sound_list}

-- ---- one token

where_true-ok : {A : Type 0} (b : Bool) (x a : A) → where_true b x ≡ Ok a → (b ≡ true) × (x ≡ a)
where_true-ok true x a e = (refl, cc)
where_true-ok false x a e = absurd cc

has_word_is : (word : List ℕ) (t : Token) → has_word word t ≡ true → t.bytes ≡ word
unfolding has_word
has_word_is word t e = (bytes_eq-Decides t.bytes word).0 e

has_mark_is : (mark : ℕ) (t : Token) → has_mark mark t ≡ true → t.bytes ≡ mark ∷ []
unfolding has_mark
has_mark_is mark t e = (bytes_eq-Decides t.bytes (mark ∷ [])).0 e

pub word_sound : (word : List ℕ) → Sound (word_at word) (λ _. Is (Word word) ∷ [])
unfolding word_at
word_sound word =
    sound_one _ (λ _. Is (Word word)) (λ t a e. (t, refl, has_word_is word t (where_true-ok (has_word word t) tt a e).0))

pub mark_sound : (mark : ℕ) → Sound (mark_at mark) (λ _. Is (Mark mark) ∷ [])
unfolding mark_at
mark_sound mark =
    sound_one _ (λ _. Is (Mark mark)) (λ t a e. (t, refl, has_mark_is mark t (where_true-ok (has_mark mark t) tt a e).0))

pub name_sound : Sound name_at (λ name. Is (Name name) ∷ [])
unfolding name_at
name_sound = sound_one _ (λ name. Is (Name name)) (λ t a e. (let ok = where_true-ok (is_name t.bytes) t.bytes a e in
    (t, refl, (ok.1, subst (λ bytes. is_name bytes ≡ true) ok.1 ok.0))))

pub symbol_sound : Sound symbol_at (λ word. Is (Symbol word) ∷ [])
unfolding symbol_at
symbol_sound = sound_one _ (λ word. Is (Symbol word)) (λ t a e. (let ok = where_true-ok (is_symbol t.bytes) t.bytes a e in
    (t, refl, (ok.1, subst (λ bytes. is_symbol bytes ≡ true) ok.1 ok.0))))

pub piece_sound : Sound piece_at (λ bytes. Is (Piece bytes) ∷ [])
unfolding piece_at
piece_sound = sound_one _ (λ bytes. Is (Piece bytes)) (λ t a e. (let ok = where_true-ok (is_piece t.bytes) t.bytes a e in
    (t, refl, (ok.1, subst (λ bytes. is_piece bytes ≡ true) ok.1 ok.0))))

string_parts : (bytes text : List ℕ) → is_string bytes ≡ true → inside bytes ≡ text → (bytes ≡ quoted text) × IsTrue (is_text text)
unfolding is_string
string_parts bytes text e is =
    let parts = and_parts (bytes_eq bytes (quoted (inside bytes))) (is_text (inside bytes)) e in
    ((bytes_eq-Decides bytes (quoted (inside bytes))).0 parts.0 ∙ ap quoted is, subst (λ (t : List ℕ). is_text t ≡ true) is parts.1)

pub text_sound : Sound text_at (λ text. Is (Text text) ∷ [])
unfolding text_at text_of
text_sound = sound_one _ (λ text. Is (Text text)) (λ t a e. (let ok = where_true-ok (is_string t.bytes) (inside t.bytes) a e in
    let parts = string_parts t.bytes a ok.0 ok.1 in (t, refl, (parts.0, parts.1))))

-- ---- numbers

within-ok : (b : Bool) (n m : ℕ) → cond b (Ok n) (Err causes.Limit) ≡ Ok m → n ≡ m
within-ok true n m e = cc
within-ok false n m e = absurd cc

bounded-ok : (least most : ℕ) (o : Option WholeNumber) (n : ℕ) → bounded least most o ≡ Ok n → o ≡ Some (Value n)
bounded-ok least most None n e = absurd cc
bounded-ok least most (Some Fraction) n e = absurd cc
bounded-ok least most (Some TooLarge) n e = absurd cc
bounded-ok least most (Some (Value m)) n e = ap (λ k. Some (Value k)) (within-ok (nat_le least m && nat_le m most) m n e)

number_spelled : (number : Bool) (bytes : List ℕ) (n : ℕ) → is_number bytes ≡ number
    → cond number (Some (whole_value (mantissa_of bytes) (exponent_of bytes))) None ≡ Some (Value n) → SpellsNumber bytes n
number_spelled true bytes n is e = (is, (whole_to (mantissa_of bytes) (exponent_of bytes) (Value n) cc).1)
number_spelled false bytes n is e = absurd cc

pub whole_spelled : (bytes : List ℕ) (n : ℕ) → whole_of_number bytes ≡ Some (Value n) → SpellsNumber bytes n
unfolding whole_of_number
whole_spelled bytes n e = number_spelled (is_number bytes) bytes n refl e

pub whole_sound : (least most : ℕ) → Sound (whole_at least most) (λ n. Is (Whole n) ∷ [])
unfolding whole_at whole_of
whole_sound least most =
    sound_one _ (λ n. Is (Whole n)) (λ t n e. (
      t,
      refl,
      whole_spelled t.bytes n (bounded-ok least most (whole_of_number t.bytes) n
          e),
    ))

pub id_sound : Sound id_at (λ n. Is (Whole n) ∷ [])
unfolding id_at
id_sound = whole_sound 0 (2 ^ 32 - 1)

there-ok : {A : Type 0} (o : Option A) (a : A) → there o ≡ Ok a → o ≡ Some a
there-ok None a e = absurd cc
there-ok (Some x) a e = cc

decimal_spelled : (negative number : Bool) (bytes : List ℕ) (d : Decimal) → is_number bytes ≡ number
    → cond number (decimal_of negative (mantissa_of bytes) (exponent_of bytes)) None ≡ Some d → SpellsDecimal negative bytes d
decimal_spelled negative true bytes d is e = record {
  form = is;
  is = decimal_to negative (mantissa_of bytes) (exponent_of bytes)
      d e;
}
decimal_spelled negative false bytes d is e = absurd cc

pub number_spelled_by : (negative : Bool) (t : Token) (d : Decimal) → number_of negative t.bytes ≡ Ok d
    → SpellsDecimal negative t.bytes d
unfolding number_of decimal_of_number
number_spelled_by negative t d e = decimal_spelled negative (is_number t.bytes) t.bytes d refl (there-ok _ d e)

-- ---- numbers with a sign

minus_is : Reads (mark_at 45) (λ _ tokens. IsSign true tokens)
unfolding mark_at
minus_is = reads_one _ (λ _ tokens. IsSign true tokens)
    (λ t a e. (t, refl, has_mark_is 45 t (where_true-ok (has_mark 45 t) tt a e).0))

plus_is : Reads (mark_at 43) (λ _ tokens. IsSign false tokens)
unfolding mark_at
plus_is = reads_one _ (λ _ tokens. IsSign false tokens) (λ t a e. inr (
  t,
  refl,
  has_mark_is 43 t (where_true-ok (has_mark 43 t) tt a e).0,
))

number_is : (negative : Bool) → Reads (number_at negative) (λ d tokens. IsOne (λ bytes. SpellsDecimal negative bytes d) tokens)
unfolding number_at
number_is negative = reads_one _ (λ d tokens. IsOne (λ bytes. SpellsDecimal negative bytes d) tokens)
    (λ t d e. (t, refl, number_spelled_by negative t d e))

pub unsigned_sound : Sound (number_at false) (λ d. Unsigned d ∷ [])
unsigned_sound = sound_reads (λ d. Unsigned d) (number_is false)

-- a sign and a number
signed_number : (negative : Bool) (d : Decimal) (tokens u v : List Token) → tokens ≡ u ++ v → IsSign negative u
    → IsOne (λ bytes. SpellsDecimal negative bytes d) v → Says (Number d) tokens
signed_number negative d tokens u v parts sign number = (negative, u, v, parts, sign, number)

pub decimal_sound : Sound decimal_at (λ d. Is (Number d) ∷ [])
unfolding decimal_at
decimal_sound =
    sound_choose (has_mark 45) (sound_reads (λ d. Is (Number d))
    (reads_as (reads_after (λ _ d. Says (Number d)) minus_is (number_is true) (λ _ d tokens u v parts sign number.
    signed_number true d tokens u v parts sign number)) (λ d tokens y. y.1)))
    (sound_choose (has_mark 43) (sound_reads (λ d. Is (Number d))
    (reads_as (reads_after (λ _ d. Says (Number d)) plus_is (number_is false) (λ _ d tokens u v parts sign number.
    signed_number false d tokens u v parts sign number)) (λ d tokens y. y.1)))
    (sound_reads (λ d. Is (Number d)) (reads_as (number_is false) (λ d tokens number. signed_number false d tokens [] tokens refl
    (inl refl) number))))

whole_is : (least most : ℕ) → Reads (whole_at least most) (λ n tokens. IsOne (λ bytes. SpellsNumber bytes n) tokens)
unfolding whole_at whole_of
whole_is least most = reads_one _ (λ n tokens. IsOne (λ bytes. SpellsNumber bytes n) tokens)
    (λ t n e. (t, refl, whole_spelled t.bytes n (bounded-ok least most (whole_of_number t.bytes) n e)))

signed_whole : (negative : Bool) (n : ℕ) (tokens u v : List Token) → tokens ≡ u ++ v → IsSign negative u
    → IsOne (λ bytes. SpellsNumber bytes n) v → Says (Int (signed negative n)) tokens
signed_whole negative n tokens u v parts sign number = (negative, u, v, parts, sign, (number.0, number.1, (n, number.2, refl)))

pub int_sound : Sound int_at (λ z. Is (Int z) ∷ [])
unfolding int_at
int_sound =
    sound_choose (has_mark 45)
    (sound_reads (λ z. Is (Int z))
    (reads_as (reads_after (λ _ z. Says (Int z)) minus_is (reads_value (λ n. neg_ℤ (pos n)) (whole_is 0 (2 ^ 63)))
    (λ _ z tokens u v parts sign number. subst (λ z. Says (Int z) tokens) (sym number.1) (signed_whole true number.0 tokens u v
    parts sign number.2))) (λ z tokens y. y.1)))
    (sound_choose (has_mark 43)
    (sound_reads (λ z. Is (Int z))
    (reads_as (reads_after (λ _ z. Says (Int z)) plus_is (reads_value (λ n. pos n) (whole_is 0 (2 ^ 64 - 1)))
    (λ _ z tokens u v parts sign number. subst (λ z. Says (Int z) tokens) (sym number.1) (signed_whole false number.0 tokens u v
    parts sign number.2))) (λ z tokens y. y.1)))
    (sound_reads (λ z. Is (Int z)) (reads_as (reads_value (λ n. pos n) (whole_is 0 (2 ^ 64 - 1)))
    (λ z tokens number. subst (λ z. Says (Int z) tokens) (sym number.1) (signed_whole false number.0 tokens [] tokens refl
    (inl refl) number.2)))))

-- ---- lists

pub names_sound : Sound (names_from []) (flat_map (λ name. Is (Name name) ∷ []))
unfolding names_from
names_sound = sound_list (grows_repeated _ _ (λ name. Is (Name name) ∷ []) (grows_by_one name_sound))

pub symbols_sound : Sound (symbols_from []) (flat_map (λ word. Is (Symbol word) ∷ []))
unfolding symbols_from
symbols_sound = sound_list (grows_repeated _ _ (λ word. Is (Symbol word) ∷ []) (grows_by_one symbol_sound))

pub pieces_sound : Sound (pieces_from []) (flat_map (λ bytes. Is (Piece bytes) ∷ []))
unfolding pieces_from
pieces_sound = sound_list (grows_repeated _ _ (λ bytes. Is (Piece bytes) ∷ []) (grows_by_one piece_sound))
