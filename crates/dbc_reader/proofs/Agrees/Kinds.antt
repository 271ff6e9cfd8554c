-- Each part's reader agrees with its pattern.
use Rattle.std.proofs.Common.{◌≡◌, ℕ, ◌^◌, ◌-◌, Bool, true, false, cond, List, [], ◌∷◌, Option, Some, None, Result, Ok, Err, refl}
use Rattle.dbc_values.specs.Numbers.{whole_of_number}
use Rattle.dbc_values.specs.Decimals.{decimal_of_number}
use Rattle.dbc_values.specs.declared.number.Whole.{Whole}
use Rattle.dbc_values.specs.declared.number.Whole.TheVariants.{Fraction, TooLarge, Value}
use Rattle.dbc_tokens.specs.declared.fault.Cause.{Cause}
use Rattle.dbc_tokens.specs.declared.fault.Cause.TheVariants as causes
use Rattle.dbc_tokens.specs.Tokens.{Token}
use Rattle.dbc_reader.specs.Classes.{has_word, has_mark, has_name, has_symbol, has_string, has_piece, has_whole, has_number}
use Rattle.dbc_reader.specs.Classes.{is_there, is_whole_number, where_true, bounded, there, text_of, whole_of, number_of, order_of}
use Rattle.dbc_reader.specs.Classes.{tag_of}
use Rattle.dbc_reader.specs.Pattern.{Word, Mark, Name, Symbol, String, Whole as WholeNumber, Number, Order, Tag, Piece, Seen, plain}
use Rattle.dbc_reader.specs.Pattern.{judged_so, is_of_class, has, Pattern, Done, ◌⇒◌, Either, Repeat, ◌then◌}
use Rattle.dbc_reader.specs.Grammar as grammar
use Rattle.dbc_reader.specs.inner.Parts.{word_at, mark_at, name_at, symbol_at, text_at, piece_at, whole_at, id_at, number_at}
use Rattle.dbc_reader.specs.inner.Parts.{order_at, tag_token_at, decimal_at, begins_decimal, int_at, begins_int, pair_at}
use Rattle.dbc_reader.specs.inner.Parts.{names_from, symbols_from, pieces_from, comma_at, begins_receiver, receivers_from}
use Rattle.dbc_reader.specs.inner.Parts.{receivers_at, texts_from, entry_at, entries_from}
use Rattle.dbc_reader.proofs.Rounds.{value_keeps, bind_shrinks, bind_keeps, after_shrinks, keeps}
use Rattle.dbc_reader.proofs.Rounds.Lists.{mark_shrinks, name_shrinks, symbol_shrinks, piece_shrinks, text_shrinks, entry_shrinks}
use Rattle.dbc_reader.proofs.Rounds.Lists.{comma_keeps}
use Rattle.dbc_reader.proofs.Agrees.{Agrees, Same, Rules, Begins, agree_then, agree_value, agree_one, agree_choose, agree_same}
use Rattle.dbc_reader.proofs.Agrees.{begins_one, begins_either, begins_perhaps, begins_then, begins_as}

-- ---- classes

pub plain_class : (b : Bool) (seen : Seen) → is_of_class (plain b seen) ≡ b
plain_class true seen = refl
plain_class false seen = refl

within_class : (b : Bool) (n : ℕ) (seen : Seen) → is_of_class (judged_so (cond b (Ok n) (Err causes.Limit)) seen) ≡ true
within_class true n seen = refl
within_class false n seen = refl

bounded_class : (least most : ℕ) (o : Option Whole) (seen : Seen) → is_of_class (judged_so (bounded least most o) seen)
    ≡ is_whole_number o
bounded_class least most None seen = refl
bounded_class least most (Some Fraction) seen = refl
bounded_class least most (Some TooLarge) seen = refl
bounded_class least most (Some (Value n)) seen = within_class _ n seen

pub whole_class : (least most : ℕ) (t : Token) (seen : Seen) → has (WholeNumber least most) t seen ≡ has_whole t
unfolding whole_of has_whole
whole_class least most t seen = bounded_class least most (whole_of_number t.bytes) seen

-- ---- one token

pub plain_rules : {A : Type 0} (b : Bool) (a : A) (seen : Seen) → Rules (Same seen) (where_true b a) (plain b seen)
plain_rules true a seen = refl
plain_rules false a seen = refl

pub judged_rules : {A : Type 0} (o : Result A Cause) (seen : Seen) → Rules (Same seen) o (judged_so o seen)
judged_rules (Ok a) seen = refl
judged_rules (Err cause) seen = refl

there_rules : {A : Type 0} (o : Option A) (seen : Seen) → Rules (Same seen) (there o) (plain (is_there o) seen)
there_rules None seen = refl
there_rules (Some a) seen = refl

pub word_agrees : (seen : Seen) (word : List ℕ) → Agrees seen (word_at word) (Word word ⇒ Done) (Same seen)
unfolding word_at
word_agrees seen word = agree_one (Same seen) seen (Word word) _ (λ t. plain_rules (has_word word t) tt seen)

pub mark_agrees : (seen : Seen) (mark : ℕ) → Agrees seen (mark_at mark) (Mark mark ⇒ Done) (Same seen)
unfolding mark_at
mark_agrees seen mark = agree_one (Same seen) seen (Mark mark) _ (λ t. plain_rules (has_mark mark t) tt seen)

pub name_agrees : (seen : Seen) → Agrees seen name_at (Name ⇒ Done) (Same seen)
unfolding name_at has_name
name_agrees seen = agree_one (Same seen) seen Name _ (λ t. plain_rules (has_name t) t.bytes seen)

pub symbol_agrees : (seen : Seen) → Agrees seen symbol_at (Symbol ⇒ Done) (Same seen)
unfolding symbol_at has_symbol
symbol_agrees seen = agree_one (Same seen) seen Symbol _ (λ t. plain_rules (has_symbol t) t.bytes seen)

pub piece_agrees : (seen : Seen) → Agrees seen piece_at (Piece ⇒ Done) (Same seen)
unfolding piece_at has_piece
piece_agrees seen = agree_one (Same seen) seen Piece _ (λ t. plain_rules (has_piece t) t.bytes seen)

pub text_agrees : (seen : Seen) → Agrees seen text_at (String ⇒ Done) (Same seen)
unfolding text_at text_of has_string
text_agrees seen = agree_one (Same seen) seen String _ (λ t. plain_rules (has_string t) _ seen)

pub whole_agrees : (seen : Seen) (least most : ℕ) → Agrees seen (whole_at least most) (WholeNumber least most ⇒ Done) (Same seen)
unfolding whole_at
whole_agrees seen least most = agree_one (Same seen) seen (WholeNumber least most) _
    (λ t. judged_rules (whole_of least most t.bytes) seen)

pub id_agrees : (seen : Seen) → Agrees seen id_at (WholeNumber 0 (2 ^ 32 - 1) ⇒ Done) (Same seen)
unfolding id_at
id_agrees seen = whole_agrees seen 0 (2 ^ 32 - 1)

pub number_agrees : (seen : Seen) (negative : Bool) → Agrees seen (number_at negative) (Number negative ⇒ Done) (Same seen)
unfolding number_at number_of has_number
number_agrees seen negative = agree_one (Same seen) seen (Number negative) _ (λ t. there_rules (decimal_of_number negative t.bytes)
    seen)

pub order_agrees : (seen : Seen) → Agrees seen order_at (Order ⇒ Done) (Same seen)
unfolding order_at
order_agrees seen = agree_one (Same seen) seen Order _ (λ t. judged_rules (order_of t.bytes) seen)

pub tag_token_agrees : (seen : Seen) → Agrees seen tag_token_at (Tag ⇒ Done) (Same seen)
unfolding tag_token_at
tag_token_agrees seen = agree_one (Same seen) seen Tag _ (λ t. judged_rules (tag_of t.bytes) seen)

-- ---- what begins with one token

pub begins_word : (word : List ℕ) (p : Pattern) → Begins (has_word word) (Word word ⇒ p)
begins_word word p = begins_one (has_word word) (Word word) p (λ t seen. plain_class (has_word word t) seen)

pub begins_mark : (mark : ℕ) (p : Pattern) → Begins (has_mark mark) (Mark mark ⇒ p)
begins_mark mark p = begins_one (has_mark mark) (Mark mark) p (λ t seen. plain_class (has_mark mark t) seen)

pub begins_name : (p : Pattern) → Begins has_name (Name ⇒ p)
begins_name p = begins_one has_name Name p (λ t seen. plain_class (has_name t) seen)

pub begins_symbol : (p : Pattern) → Begins has_symbol (Symbol ⇒ p)
begins_symbol p = begins_one has_symbol Symbol p (λ t seen. plain_class (has_symbol t) seen)

pub begins_piece : (p : Pattern) → Begins has_piece (Piece ⇒ p)
begins_piece p = begins_one has_piece Piece p (λ t seen. plain_class (has_piece t) seen)

pub begins_string : (p : Pattern) → Begins has_string (String ⇒ p)
begins_string p = begins_one has_string String p (λ t seen. plain_class (has_string t) seen)

pub begins_number : (negative : Bool) (p : Pattern) → Begins (has_number negative) (Number negative ⇒ p)
begins_number negative p = begins_one (has_number negative) (Number negative) p (λ t seen. plain_class (has_number negative t) seen)

pub begins_whole : (least most : ℕ) (p : Pattern) → Begins has_whole (WholeNumber least most ⇒ p)
begins_whole least most p = begins_one has_whole (WholeNumber least most) p (λ t seen. whole_class least most t seen)

-- ---- numbers with a sign

pub decimal_agrees : (seen : Seen) → Agrees seen decimal_at grammar.decimal (Same seen)
unfolding decimal_at
decimal_agrees seen =
    agree_choose (has_mark 45) (begins_mark 45 _) (agree_then (mark_agrees seen 45) λ _. number_agrees seen true)
    (agree_choose (has_mark 43) (begins_mark 43 _) (agree_then (mark_agrees seen 43) λ _. number_agrees seen false)
    (number_agrees seen false))

pub begins_a_decimal : (p : Pattern) → Begins begins_decimal (grammar.decimal then p)
unfolding begins_decimal
begins_a_decimal p =
    begins_as (λ t. refl)
    (begins_then p (begins_either Done (begins_mark 45 _) (begins_either Done (begins_mark 43 _) (begins_number false _))))

pub int_agrees : (seen : Seen) → Agrees seen int_at grammar.entry_number (Same seen)
unfolding int_at
int_agrees seen =
    agree_choose (has_mark 45) (begins_mark 45 _) (agree_then (mark_agrees seen 45) λ _. agree_then (whole_agrees seen 0 (2 ^ 63))
    λ n. agree_value refl)
    (agree_choose (has_mark 43) (begins_mark 43 _) (agree_then (mark_agrees seen 43) λ _. agree_then
    (whole_agrees seen 0 (2 ^ 64 - 1)) λ n. agree_value refl)
    (agree_then (whole_agrees seen 0 (2 ^ 64 - 1)) λ n. agree_value refl))

pub begins_an_int : (p : Pattern) → Begins begins_int (grammar.entry_number then p)
unfolding begins_int
begins_an_int p =
    begins_as (λ t. refl)
    (begins_then p (begins_either Done (begins_mark 45 _) (begins_either Done (begins_mark 43 _)
    (begins_whole 0 (2 ^ 64 - 1) _))))

pub pair_agrees : (seen : Seen) (opening between closing : ℕ) → Agrees seen (pair_at opening between closing)
    (grammar.pair opening between closing) (Same seen)
unfolding pair_at
pair_agrees seen opening between closing =
    agree_then (mark_agrees seen opening) λ _. agree_then (decimal_agrees seen) λ first. agree_then (mark_agrees seen between) λ _.
    agree_then (decimal_agrees seen) λ second. agree_then (mark_agrees seen closing) λ _. agree_value refl

-- ---- lists

pub names_agree : (seen : Seen) (names : List (List ℕ)) → Agrees seen (names_from names) (Repeat (Name ⇒ Done) Done) (Same seen)
unfolding names_from
names_agree seen names =
    agree_same has_name _ (λ s. bind_shrinks name_shrinks λ name. value_keeps _) (begins_name Done)
    (λ s. agree_then (name_agrees seen) λ name. agree_value refl) names

pub symbols_agree : (seen : Seen) (symbols : List (List ℕ)) → Agrees seen (symbols_from symbols) (Repeat (Symbol ⇒ Done) Done)
    (Same seen)
unfolding symbols_from
symbols_agree seen symbols =
    agree_same has_symbol _ (λ s. bind_shrinks symbol_shrinks λ symbol. value_keeps _) (begins_symbol Done)
    (λ s. agree_then (symbol_agrees seen) λ symbol. agree_value refl) symbols

pub pieces_agree : (seen : Seen) (pieces : List (List ℕ)) → Agrees seen (pieces_from pieces) (Repeat (Piece ⇒ Done) Done)
    (Same seen)
unfolding pieces_from
pieces_agree seen pieces =
    agree_same has_piece _ (λ s. bind_shrinks piece_shrinks λ piece. value_keeps _) (begins_piece Done)
    (λ s. agree_then (piece_agrees seen) λ piece. agree_value refl) pieces

comma_agrees : (seen : Seen) → Agrees seen comma_at (Either (Mark 44 ⇒ Done) Done Done) (Same seen)
unfolding comma_at
comma_agrees seen = agree_choose (has_mark 44) (begins_mark 44 Done) (mark_agrees seen 44) (agree_value refl)

begins_a_receiver : Begins begins_receiver (Either (Mark 44 ⇒ Done) Done (Name ⇒ Done))
unfolding begins_receiver
begins_a_receiver = begins_as (λ t. refl) (begins_perhaps (begins_mark 44 Done) (begins_name Done))

further_receivers_agree : (seen : Seen) (names : List (List ℕ))
    → Agrees seen (receivers_from names) (Repeat (Either (Mark 44 ⇒ Done) Done (Name ⇒ Done)) Done) (Same seen)
unfolding receivers_from
further_receivers_agree seen names =
    agree_same begins_receiver _ (λ s. after_shrinks comma_keeps λ _. bind_shrinks name_shrinks λ name. value_keeps _)
    begins_a_receiver
    (λ s. agree_then (comma_agrees seen) λ _. agree_then (name_agrees seen) λ name. agree_value refl) names

pub receivers_agree : (seen : Seen) → Agrees seen receivers_at grammar.receivers (Same seen)
unfolding receivers_at
receivers_agree seen =
    agree_choose has_name (begins_name _) (agree_then (name_agrees seen) λ name. further_receivers_agree seen (name ∷ []))
    (agree_value refl)

pub texts_agree : (seen : Seen) (texts : List (List ℕ)) → Agrees seen (texts_from texts) (Repeat (Mark 44 ⇒ String ⇒ Done) Done)
    (Same seen)
unfolding texts_from
texts_agree seen texts =
    agree_same (has_mark 44) _ (λ s. bind_shrinks (mark_shrinks 44) λ _. bind_keeps (keeps text_shrinks) λ text. value_keeps _)
    (begins_mark 44 _)
    (λ s. agree_then (mark_agrees seen 44) λ _. agree_then (text_agrees seen) λ text. agree_value refl) texts

entry_agrees : (seen : Seen) → Agrees seen entry_at (grammar.entry_number then String ⇒ Done) (Same seen)
unfolding entry_at
entry_agrees seen = agree_then (int_agrees seen) λ n. agree_then (text_agrees seen) λ text. agree_value refl

pub entries_agree : (seen : Seen) (entries : List _)
    → Agrees seen (entries_from entries) (Repeat (grammar.entry_number then String ⇒ Done) Done) (Same seen)
unfolding entries_from
entries_agree seen entries =
    agree_same begins_int _ (λ s. bind_shrinks entry_shrinks λ entry. value_keeps _) (begins_an_int _)
    (λ s. agree_then (entry_agrees seen) λ entry. agree_value refl) entries
