-- Reading of the parts of statements: one token, a number with its sign, a multiplexer indicator, a list of names. Source: the DBC
-- file format, the sections that are named below.
use Rattle.std.specs.Prelude.{ℕ, ℤ, pos, neg_ℤ, ◌^◌, ◌-◌, Bool, true, false, ◌||◌, List, [], ◌∷◌, ◌++◌}
use Rattle.dbc_values.specs.Lexical.{is_name, plus, comma, minus}
use Rattle.dbc_values.specs.Decimals.{Decimal}
use Rattle.dbc_values.specs.Pieces.{is_piece}
use Rattle.dbc_values.specs.Names.{is_symbol}
use Rattle.dbc_records.specs.Records.{Entry}
use Rattle.dbc_records.specs.declared.byte_order.ByteOrder.{ByteOrder}
use Rattle.dbc_records.specs.declared.tag.Tag.{Tag}
use Rattle.dbc_tokens.specs.Tokens.{Token}
use Rattle.dbc_reader.specs.Classes.{has_word, has_mark, has_name, has_symbol, has_piece, has_whole, has_number, where_true}
use Rattle.dbc_reader.specs.Classes.{text_of, whole_of, number_of, order_of, tag_of}
use Rattle.dbc_reader.specs.inner.Readers.{Reader, ◌>>=◌, value, one, choose, repeated}

-- ---- one token

unfoldable pub word_at : List ℕ → Reader (Unit {0})
word_at word = one (λ t. where_true (has_word word t) tt)

unfoldable pub mark_at : ℕ → Reader (Unit {0})
mark_at mark = one (λ t. where_true (has_mark mark t) tt)

unfoldable pub name_at : Reader (List ℕ)
name_at = one (λ t. where_true (is_name t.bytes) t.bytes)

unfoldable pub symbol_at : Reader (List ℕ)
symbol_at = one (λ t. where_true (is_symbol t.bytes) t.bytes)

unfoldable pub text_at : Reader (List ℕ)
text_at = one (λ t. text_of t.bytes)

unfoldable pub piece_at : Reader (List ℕ)
piece_at = one (λ t. where_true (is_piece t.bytes) t.bytes)

-- a whole number from `least` to `most`
unfoldable pub whole_at : ℕ → ℕ → Reader ℕ
whole_at least most = one (λ t. whole_of least most t.bytes)

-- the CAN identifier of a message
unfoldable pub id_at : Reader ℕ
id_at = whole_at 0 (2 ^ 32 - 1)

-- a number without a sign, negated if `negative` is true
unfoldable pub number_at : Bool → Reader Decimal
number_at negative = one (λ t. number_of negative t.bytes)

unfoldable pub order_at : Reader ByteOrder
order_at = one (λ t. order_of t.bytes)

unfoldable pub tag_token_at : Reader Tag
tag_token_at = one (λ t. tag_of t.bytes)

-- ---- numbers with a sign ("General Definitions": signed_integer, double)

unfoldable pub decimal_at : Reader Decimal
decimal_at = choose (has_mark minus) (do
  _ ← mark_at minus
  number_at true) (choose (has_mark plus) (do
    _ ← mark_at plus
    number_at false) (number_at false))

-- what a decimal begins with
unfoldable pub begins_decimal : Token → Bool
begins_decimal t = has_mark minus t || (has_mark plus t || has_number false t)

-- from -2^63 to 2^64 - 1
unfoldable pub int_at : Reader ℤ
int_at = choose (has_mark minus) (do
  _ ← mark_at minus
  n ← whole_at 0 (2 ^ 63)
  value (neg_ℤ (pos n))) (choose (has_mark plus) (do
    _ ← mark_at plus
    n ← whole_at 0 (2 ^ 64 - 1)
    value (pos n)) (do
      n ← whole_at 0 (2 ^ 64 - 1)
      value (pos n)))

-- what a whole number with a sign begins with
unfoldable pub begins_int : Token → Bool
begins_int t = has_mark minus t || (has_mark plus t || has_whole t)

-- two decimals, with a mark before, between and after them
unfoldable pub pair_at : ℕ → ℕ → ℕ → Reader (Decimal × Decimal)
pair_at opening between closing = do
  _ ← mark_at opening
  first ← decimal_at
  _ ← mark_at between
  second ← decimal_at
  _ ← mark_at closing
  value (first, second)

-- ---- lists

-- names, as many as there are, after these
unfoldable pub names_from : List (List ℕ) → Reader (List (List ℕ))
names_from = repeated has_name (λ names. do
  name ← name_at
  value (names ++ name ∷ []))

unfoldable pub symbols_from : List (List ℕ) → Reader (List (List ℕ))
symbols_from = repeated has_symbol (λ symbols. do
  symbol ← symbol_at
  value (symbols ++ symbol ∷ []))

unfoldable pub pieces_from : List (List ℕ) → Reader (List (List ℕ))
pieces_from = repeated has_piece (λ pieces. do
  piece ← piece_at
  value (pieces ++ piece ∷ []))

-- a comma, or nothing
unfoldable pub comma_at : Reader (Unit {0})
comma_at = choose (has_mark comma) (mark_at comma) (value tt)

-- what a further receiver begins with
unfoldable pub begins_receiver : Token → Bool
begins_receiver t = has_mark comma t || has_name t

-- further receivers, each with a comma before it or without ("Signal Definitions", receiver)
unfoldable pub receivers_from : List (List ℕ) → Reader (List (List ℕ))
receivers_from = repeated begins_receiver (λ names. do
  _ ← comma_at
  name ← name_at
  value (names ++ name ∷ []))

unfoldable pub receivers_at : Reader (List (List ℕ))
receivers_at = choose has_name (do
  name ← name_at
  receivers_from (name ∷ [])) (value [])

-- further texts, each after a comma
unfoldable pub texts_from : List (List ℕ) → Reader (List (List ℕ))
texts_from = repeated (has_mark comma) (λ texts. do
  _ ← mark_at comma
  text ← text_at
  value (texts ++ text ∷ []))

unfoldable pub entry_at : Reader Entry
entry_at = do
  number ← int_at
  text ← text_at
  value (record { number = number; text = text })

-- entries of a table, as many as there are ("Value Descriptions", value_encoding_description)
unfoldable pub entries_from : List Entry → Reader (List Entry)
entries_from = repeated begins_int (λ entries. do
  entry ← entry_at
  value (entries ++ entry ∷ []))
