-- Reading of tables of value descriptions, float types and extended multiplexing.
-- Source: the DBC file format, "Value Table Definitions", "Signal Value Descriptions", "Signal Definitions"
-- (signal_extended_value_type) and "Extended Multiplexing".
use Rattle.std.specs.Prelude.{◌^◌, ◌-◌, List, [], ◌∷◌, ◌++◌, codes}
use Rattle.dbc_values.specs.Lexical.{comma, minus, colon, semicolon}
use Rattle.dbc_records.specs.Records.{TableRow, ValueRow, FloatRow, MuxRow}
use Rattle.dbc_records.specs.declared.mux_row.Range.{Range}
use Rattle.dbc_reader.specs.Classes.{has_mark}
use Rattle.dbc_reader.specs.inner.Readers.{Reader, ◌>>=◌, value, choose, repeated}
use Rattle.dbc_reader.specs.inner.Parts.{word_at, mark_at, name_at, whole_at, id_at, entries_from}

-- `VAL_TABLE_ name entries ;`
unfoldable pub table_at : Reader TableRow
table_at = do
  _ ← word_at (codes "VAL_TABLE_")
  name ← name_at
  entries ← entries_from []
  _ ← mark_at semicolon
  value (record { name = name; entries = entries })

-- `VAL_ number signal entries ;`
unfoldable pub values_at : Reader ValueRow
values_at = do
  _ ← word_at (codes "VAL_")
  number ← id_at
  signal ← name_at
  entries ← entries_from []
  _ ← mark_at semicolon
  value (record { number = number; signal = signal; entries = entries })

-- a colon, or nothing
unfoldable pub colon_at : Reader (Unit {0})
colon_at = choose (has_mark colon) (mark_at colon) (value tt)

-- `SIG_VALTYPE_ number signal : kind ;`, also without the colon
unfoldable pub float_at : Reader FloatRow
float_at = do
  _ ← word_at (codes "SIG_VALTYPE_")
  number ← id_at
  signal ← name_at
  _ ← colon_at
  kind ← whole_at 0 2
  _ ← mark_at semicolon
  value (record { number = number; signal = signal; kind = kind })

-- `first-last`
unfoldable pub range_at : Reader Range
range_at = do
  first ← whole_at 0 (2 ^ 64 - 1)
  _ ← mark_at minus
  last ← whole_at 0 (2 ^ 64 - 1)
  value (record { first = first; last = last })

-- further ranges, each after a comma
unfoldable pub ranges_from : List Range → Reader (List Range)
ranges_from = repeated (has_mark comma) (λ ranges. do
  _ ← mark_at comma
  range ← range_at
  value (ranges ++ range ∷ []))

-- ranges with commas between them, at least one
unfoldable pub ranges_at : Reader (List Range)
ranges_at = do
  range ← range_at
  ranges_from (range ∷ [])

-- `SG_MUL_VAL_ number signal switch ranges ;`
unfoldable pub mux_at : Reader MuxRow
mux_at = do
  _ ← word_at (codes "SG_MUL_VAL_")
  number ← id_at
  signal ← name_at
  switch ← name_at
  ranges ← ranges_at
  _ ← mark_at semicolon
  value (record { number = number; signal = signal; switch = switch; ranges = ranges })
