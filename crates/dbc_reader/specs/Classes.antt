-- What one token is by its bytes, and what it represents if a class of tokens is expected. There is no need to check the kind of a
-- token: strings, words, numbers and marks begin with different bytes. Source: the DBC file format, "General Definitions", and the
-- sections that use the classes. The bounds, and that whole numbers are judged by their value, are the profile of candesk.
use Rattle.std.specs.Prelude.{ℕ, ◌-◌, ◌^◌, nat_le, Bool, true, false, ◌&&◌, ◌==◌, List, [], ◌∷◌, ◌++◌, length, take, codes, Option}
use Rattle.std.specs.Prelude.{Some, None, Result, Ok, Err, if◌then◌else◌}
use Rattle.std.specs.Str.{bytes_eq}
use Rattle.dbc_values.specs.Lexical.{is_kept_word, is_name, is_digits, small_m}
use Rattle.dbc_values.specs.Numbers.{whole_of_number}
use Rattle.dbc_values.specs.Decimals.{Decimal, decimal_of_number}
use Rattle.dbc_values.specs.Names.{is_symbol}
use Rattle.dbc_values.specs.Pieces.{is_string, inside, is_piece}
use Rattle.dbc_values.specs.declared.number.Whole.{Whole}
use Rattle.dbc_values.specs.declared.number.Whole.TheVariants.{Fraction, TooLarge, Value}
use Rattle.dbc_records.specs.declared.byte_order.ByteOrder.{ByteOrder}
use Rattle.dbc_records.specs.declared.byte_order.ByteOrder.TheVariants as orders
use Rattle.dbc_records.specs.declared.tag.Tag.{Tag}
use Rattle.dbc_records.specs.declared.tag.Tag.TheVariants as tags
use Rattle.dbc_tokens.specs.declared.fault.Cause.{Cause}
use Rattle.dbc_tokens.specs.declared.fault.Cause.TheVariants as causes
use Rattle.dbc_tokens.specs.Tokens.{Token}

-- ---- tests

-- the token is this word
unfoldable pub has_word : List ℕ → Token → Bool
has_word word t = bytes_eq t.bytes word

unfoldable pub has_mark : ℕ → Token → Bool
has_mark mark t = bytes_eq t.bytes (mark ∷ [])

unfoldable pub has_name : Token → Bool
has_name t = is_name t.bytes

unfoldable pub has_symbol : Token → Bool
has_symbol t = is_symbol t.bytes

unfoldable pub has_string : Token → Bool
has_string t = is_string t.bytes

-- any token but a semicolon
unfoldable pub has_piece : Token → Bool
has_piece t = is_piece t.bytes

unfoldable pub has_kept_word : Token → Bool
has_kept_word t = is_kept_word t.bytes

abbrev pub is_whole_number : Option Whole → Bool
is_whole_number None = false
is_whole_number (Some Fraction) = false
is_whole_number (Some TooLarge) = true
is_whole_number (Some (Value n)) = true

-- a number that is whole, of any magnitude
unfoldable pub has_whole : Token → Bool
has_whole t = is_whole_number (whole_of_number t.bytes)

abbrev pub is_there : {A : Type 0} → Option A → Bool
is_there None = false
is_there (Some x) = true

-- a number that is a decimal, negated if `negative` is true
unfoldable pub has_number : Bool → Token → Bool
has_number negative t = is_there (decimal_of_number negative t.bytes)

-- ---- what a token represents, or why it can't be there

-- the value if the token passes the test
abbrev pub where_true : {A : Type 0} → Bool → A → Result A Cause
where_true true x = Ok x
where_true false x = Err causes.Statement

unfoldable pub text_of : List ℕ → Result (List ℕ) Cause
text_of bytes = where_true (is_string bytes) (inside bytes)

abbrev pub where_within : ℕ → ℕ → ℕ → Result ℕ Cause
where_within least most n = if nat_le least n && nat_le n most then Ok n else Err causes.Limit

abbrev pub bounded : ℕ → ℕ → Option Whole → Result ℕ Cause
bounded least most None = Err causes.Statement
bounded least most (Some Fraction) = Err causes.Statement
bounded least most (Some TooLarge) = Err causes.Limit
bounded least most (Some (Value n)) = where_within least most n

-- a whole number from `least` to `most`
unfoldable pub whole_of : ℕ → ℕ → List ℕ → Result ℕ Cause
whole_of least most bytes = bounded least most (whole_of_number bytes)

abbrev pub there : {A : Type 0} → Option A → Result A Cause
there None = Err causes.Statement
there (Some x) = Ok x

unfoldable pub number_of : Bool → List ℕ → Result Decimal Cause
number_of negative bytes = there (decimal_of_number negative bytes)

abbrev pub one_or_zero : ℕ → Result ByteOrder Cause
one_or_zero n = if n == 1 then Ok orders.Intel else (if n == 0 then Ok orders.Motorola else Err causes.Statement)

abbrev pub order_digit : Option Whole → Result ByteOrder Cause
order_digit None = Err causes.Statement
order_digit (Some Fraction) = Err causes.Statement
order_digit (Some TooLarge) = Err causes.Statement
order_digit (Some (Value n)) = one_or_zero n

-- the byte order of a signal: a number with the value 1 for Intel or 0 for Motorola ("Signal Definitions", byte_order)
unfoldable pub order_of : List ℕ → Result ByteOrder Cause
order_of bytes = order_digit (whole_of_number bytes)

-- ---- multiplexer indicators of signals ("Signal Definitions", multiplexer_indicator)

abbrev pub tagged : (ℕ → Tag) → Result ℕ Cause → Result Tag Cause
tagged tag (Ok n) = Ok (tag n)
tagged tag (Err cause) = Err cause

-- digits as the value of a multiplexer indicator
abbrev pub counted : (ℕ → Tag) → List ℕ → Result Tag Cause
counted tag digits = tagged tag (whole_of 0 (2 ^ 64 - 1) digits)

-- all but the last byte
abbrev pub front : List ℕ → List ℕ
front bytes = take (length bytes - 1) bytes

-- after an `m`: digits, or digits and an `M`
unfoldable pub muxed_of : List ℕ → Result Tag Cause
muxed_of bytes =
    if is_digits bytes then counted tags.Muxed bytes
    else (if is_digits (front bytes) && bytes_eq bytes (front bytes ++ codes "M") then counted tags.Both (front bytes) else Err
    causes.Statement)

-- `M`, `m5`, `m5M`
unfoldable pub tag_of : List ℕ → Result Tag Cause
tag_of [] = Err causes.Statement
tag_of (b ∷ bytes) =
    if bytes_eq (b ∷ bytes) (codes "M") then Ok tags.Switch
    else (if b == small_m then muxed_of bytes else Err causes.Statement)
