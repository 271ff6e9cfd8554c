-- In the canonical text of a database each item is separated from what is after it.
use Rattle.std.proofs.Common.{◌≡◌, ℕ, ◌<◌, ◌≤◌, ◌^◌, ◌-◌, ℤ, pos, negsuc, arith, Bool, true, false, ◌&&◌, List, [], ◌∷◌, ◌++◌}
use Rattle.std.proofs.Common.{Option, Some, None, refl}
use Rattle.std.specs.Prelude.{codes, nat_le, int_le, All, IsTrue, IfSome}
use Rattle.std.proofs.lemmas.Bool.{and_parts}
use Rattle.std.proofs.lemmas.Grind.{common_steps}
use Rattle.std.proofs.lemmas.Int.{ints}
use Rattle.std.proofs.lemmas.List.Elements.{All-head, All-tail}
use Rattle.dbc_records.specs.Databases.{Database, IsDatabase, IsBitTiming}
use Rattle.dbc_values.specs.Decimals.{Decimal, IsDecimal}
use Rattle.dbc_records.specs.Kept.{Kept, IsKept}
use Rattle.dbc_values.specs.Pieces.{IsPiece}
use Rattle.dbc_records.specs.Records.{IsNumber, IsTag, entry_fits, Head, IsHead, Signal, IsSignal, Message, IsMessage, Entry}
use Rattle.dbc_records.specs.Records.{IsEntry, TableRow, IsTableRow, ValueRow, IsValueRow, FloatRow, IsFloatRow, MuxRow, IsMuxRow}
use Rattle.dbc_records.specs.Records.{IsRange}
use Rattle.dbc_values.specs.Names.{IsName, IsText, IsSymbol}
use Rattle.dbc_records.specs.Comments.{Comment, IsComment, IsTarget}
use Rattle.dbc_records.specs.Attributes.{AttrDef, IsAttrDef, IsForm, IsLimits, AttrDefault, IsAttrDefault, AttrRow, IsAttrRow}
use Rattle.dbc_records.specs.Attributes.{IsAttrValue}
use Rattle.dbc_records.specs.declared.tag.Tag.{Tag}
use Rattle.dbc_records.specs.declared.tag.Tag.TheVariants as tags
use Rattle.dbc_records.specs.declared.mux_row.Range.{Range}
use Rattle.dbc_records.specs.declared.target.Target.{Target}
use Rattle.dbc_records.specs.declared.target.Target.TheVariants as targets
use Rattle.dbc_records.specs.declared.attribute.AttrValue.{AttrValue}
use Rattle.dbc_records.specs.declared.attribute.AttrValue.TheVariants as values
use Rattle.dbc_records.specs.declared.definition.Limits.{Limits}
use Rattle.dbc_records.specs.declared.definition.Object.{Object}
use Rattle.dbc_records.specs.declared.definition.Object.TheVariants as objects
use Rattle.dbc_records.specs.declared.definition.Form.{Form}
use Rattle.dbc_records.specs.declared.definition.Form.TheVariants as forms
use Rattle.dbc_records.specs.Layout.{Word, Mark, Name, Text, Whole, Int, Number, Switch, Muxed, Both}
use Rattle.dbc_records.specs.CanonicalText.{blank, mark_layout, spaced_mark, number_layout, spaced_number, spaced_text, spaced_name}
use Rattle.dbc_records.specs.CanonicalText.{spaced_word, word_layout, signal_key, line_end, statement_end, spaced_end}
use Rattle.dbc_records.specs.CanonicalText.{version_layout, symbol_layout, symbols_title, symbols_layout, timing_numbers}
use Rattle.dbc_records.specs.CanonicalText.{perhaps_numbers, timing_title, timing_layout, nodes_title, nodes_layout, entry_layout}
use Rattle.dbc_records.specs.CanonicalText.{table_key, table_layout, values_key, values_layout, head_layout, signal_name_layout}
use Rattle.dbc_records.specs.CanonicalText.{tag_layout, sign_mark, bit_field_layout, pair_layout, scale_layout, limits_layout}
use Rattle.dbc_records.specs.CanonicalText.{further_receiver, receivers_layout, signal_layout, message_layout, target_layout}
use Rattle.dbc_records.specs.CanonicalText.{comment_key, comment_layout, object_layout, number_limits_layout, further_text}
use Rattle.dbc_records.specs.CanonicalText.{texts_layout, form_layout, definition_key, definition_layout, value_layout, default_key}
use Rattle.dbc_records.specs.CanonicalText.{default_layout, attribute_key, attribute_layout, float_key, float_kind, float_layout}
use Rattle.dbc_records.specs.CanonicalText.{range_layout, further_range, ranges_layout, mux_key, mux_layout, piece_layout}
use Rattle.dbc_records.specs.CanonicalText.{kept_layout, front_layout, attributes_layout, rows_layout, database_layout}
use Rattle.dbc_read.proofs.Takes.Kinds.{within_ints}
use Rattle.dbc_read.proofs.Items.{IsItem}
use Rattle.dbc_read.proofs.Apart.{AreItems, Start, Middle, Close, Line, start_then, start_close, middle_both, middle_close}
use Rattle.dbc_read.proofs.Apart.{line_both, close_line, middle_none, middle_each, line_each, middle_separated, spaced, word_start}

-- ---- ends of statements

end_closes : Close line_end
unfolding line_end
end_closes = record { items = tt; begins = λ rest. refl; apart = λ rest apart. apart }

statement_closes : Close statement_end
unfolding statement_end
statement_closes = record { items = (refl, tt); begins = λ rest. refl; apart = λ rest apart. apart }

spaced_closes : Close spaced_end
unfolding spaced_end
spaced_closes = record { items = (refl, tt); begins = λ rest. refl; apart = λ rest apart. apart }

-- ---- small parts

number_part : (d : Decimal) → IsDecimal d → Middle (spaced_number d)
unfolding spaced_number blank number_layout
number_part d is = spaced (Number d) is

text_part : (text : List ℕ) → IsText text → Middle (spaced_text text)
unfolding spaced_text
text_part text is = spaced (Text text) is

name_part : (name : List ℕ) → IsName name → Middle (spaced_name name)
unfolding spaced_name
name_part name is = spaced (Name name) is

word_part : (word : List ℕ) → IsItem (Word word) → Middle (spaced_word word)
unfolding spaced_word
word_part word is = spaced (Word word) is

mark_part : (mark : ℕ) → IsItem (Mark mark) → Middle (spaced_mark mark)
unfolding spaced_mark
mark_part mark is = spaced (Mark mark) is

start : (word : List ℕ) → IsItem (Word word) → Start (word_layout word)
unfolding word_layout
start word is = word_start word is

-- the bounds of numbers are below those of what is printed
number_small : (n : ℕ) → n < 2 ^ 32 → IsItem (Whole n)
number_small n h = omega (arith, h)

entry_item : (z : ℤ) → IsTrue (entry_fits z) → IsItem (Int z)
entry_item (pos n) fits =
    let most = within_ints (pos n) (pos (2 ^ 64 - 1)) (and_parts (int_le (negsuc (2 ^ 63 - 1)) (pos n))
    (int_le (pos n) (pos (2 ^ 64 - 1))) fits).1 in
    omega (arith, ints, most)
entry_item (negsuc n) fits =
    let least = within_ints (negsuc (2 ^ 63 - 1)) (negsuc n) (and_parts (int_le (negsuc (2 ^ 63 - 1)) (negsuc n))
    (int_le (negsuc n) (pos (2 ^ 64 - 1))) fits).0 in
    omega (arith, ints, least)

start_small : (n : ℕ) → n < 2 ^ 16 → IsItem (Whole n)
start_small n h = omega (arith, h)

length_small : (n : ℕ) → (nat_le 1 n && nat_le n 14280) ≡ true → IsItem (Whole n)
length_small n h = let most : n ≤ 14280 = grind (arith, common_steps) in omega (arith, most)

size_small : (n : ℕ) → nat_le n 1785 ≡ true → IsItem (Whole n)
size_small n h = let most : n ≤ 1785 = grind (arith, common_steps) in omega (arith, most)

pub kind_small : (n : ℕ) → nat_le n 2 ≡ true → IsItem (Whole n)
kind_small n h = let most : n ≤ 2 = grind (arith, common_steps) in omega (arith, most)

key_part : (number : ℕ) (name : List ℕ) → IsNumber number → IsName name → Middle (signal_key number name)
unfolding signal_key
key_part number name small is = middle_both (spaced (Whole number) (number_small number small)) (spaced (Name name) is)

-- ---- version, symbols, bit timing, nodes

pub version_neat : (version : List ℕ) → IsText version → Line (version_layout version)
unfolding version_layout
version_neat version is = record { items = (refl, (is, tt)); apart = λ rest apart. apart }

symbol_neat : (word : List ℕ) → IsSymbol word → Line (symbol_layout word)
unfolding symbol_layout
symbol_neat word is = record { items = (is, tt); apart = λ rest apart. apart }

title_neat : Line symbols_title
unfolding symbols_title
title_neat = record { items = (refl, (refl, tt)); apart = λ rest apart. apart }

pub symbols_neat : (symbols : List (List ℕ)) → All IsSymbol symbols → Line (symbols_layout symbols)
unfolding symbols_layout
symbols_neat symbols are = line_both title_neat (line_each IsSymbol symbol_layout symbol_neat symbols are)

numbers_neat : (numbers : List Decimal) → All IsDecimal numbers → Middle (timing_numbers numbers)
unfolding timing_numbers
numbers_neat [] are = middle_none
numbers_neat (a ∷ []) are = middle_none
numbers_neat (a ∷ b ∷ []) are = middle_none
numbers_neat (a ∷ b ∷ c ∷ []) are =
    let following = All-tail IsDecimal a (b ∷ c ∷ []) are in
    middle_both (number_part a (All-head IsDecimal a (b ∷ c ∷ []) are)) (middle_both (mark_part 58 refl)
    (middle_both (number_part b (All-head IsDecimal b (c ∷ []) following)) (middle_both (mark_part 44 refl)
    (number_part c (All-head IsDecimal c [] (All-tail IsDecimal b (c ∷ []) following))))))
numbers_neat (a ∷ b ∷ c ∷ d ∷ more) are = middle_none

perhaps_neat : (timing : Option (List Decimal)) → IfSome timing IsBitTiming → Middle (perhaps_numbers timing)
unfolding perhaps_numbers
perhaps_neat None is = middle_none
perhaps_neat (Some numbers) is = numbers_neat numbers is.numbers

pub timing_title_neat : Line timing_title
unfolding timing_title
timing_title_neat = record { items = (refl, (refl, tt)); apart = λ rest apart. apart }

pub timing_neat : (timing : Option (List Decimal)) → IfSome timing IsBitTiming → Line (timing_layout timing)
unfolding timing_layout
timing_neat timing is = line_both timing_title_neat (close_line (middle_close (perhaps_neat timing is) end_closes))

nodes_title_neat : Line nodes_title
unfolding nodes_title
nodes_title_neat = record { items = (refl, (refl, tt)); apart = λ rest apart. apart }

pub nodes_neat : (nodes : List (List ℕ)) → All IsName nodes → Line (nodes_layout nodes)
unfolding nodes_layout
nodes_neat nodes are = line_both nodes_title_neat (close_line (middle_close (middle_each IsName spaced_name name_part nodes are)
    end_closes))

-- ---- entries of values

entry_neat : (entry : Entry) → IsEntry entry → Middle (entry_layout entry)
unfolding entry_layout
entry_neat entry is = middle_both (spaced (Int entry.number) (entry_item entry.number is.fits)) (spaced (Text entry.text) is.text)

pub table_neat : (row : TableRow) → IsTableRow row → Line (table_layout row)
unfolding table_layout table_key
table_neat row is = start_close (start_then (start (codes "VAL_TABLE_") refl) (name_part row.name is.name))
    (middle_close (middle_each IsEntry entry_layout entry_neat row.entries is.entries) spaced_closes)

pub values_neat : (row : ValueRow) → IsValueRow row → Line (values_layout row)
unfolding values_layout values_key
values_neat row is = start_close (start_then (start (codes "VAL_") refl) (key_part row.number row.signal is.number is.signal))
    (middle_close (middle_each IsEntry entry_layout entry_neat row.entries is.entries) spaced_closes)

float_part : (row : FloatRow) → IsFloatRow row → Middle (float_kind row)
unfolding float_kind
float_part row is = middle_both (spaced (Mark 58) refl) (spaced (Whole row.kind) (kind_small row.kind is.fits))

pub float_key_part : (row : FloatRow) → IsFloatRow row → Start (float_key row)
unfolding float_key
float_key_part row is = start_then (start (codes "SIG_VALTYPE_") refl) (key_part row.number row.signal is.number is.signal)

pub float_neat : (row : FloatRow) → IsFloatRow row → Line (float_layout row)
unfolding float_layout
float_neat row is = start_close (float_key_part row is) (middle_close (float_part row is) statement_closes)

range_part : (range : Range) → IsRange range → Middle (range_layout range)
unfolding range_layout
range_part range is = record {
  items = (is.first, (refl, (is.last, tt)));
  begins = λ rest ends. refl;
  apart = λ rest ends apart. (spaced (Whole range.last) is.last).apart rest ends apart;
}

further_part : (range : Range) → IsRange range → Middle (further_range range)
unfolding further_range
further_part range is = record {
  items = (refl, (is.first, (refl, (is.last, tt))));
  begins = λ rest ends. refl;
  apart = λ rest ends apart. (spaced (Whole range.last) is.last).apart rest ends apart;
}

pub mux_neat : (row : MuxRow) → IsMuxRow row → Line (mux_layout row)
unfolding mux_layout mux_key ranges_layout
mux_neat row is =
    start_close (start_then (start (codes "SG_MUL_VAL_") refl) (key_part row.number row.signal is.number is.signal))
    (middle_close (name_part row.switch is.switch) (middle_close (middle_separated IsRange range_layout further_range range_part
    further_part row.ranges is.ranges) statement_closes))

-- ---- messages and signals

pub head_neat : (head : Head) → IsHead head → Line (head_layout head)
unfolding head_layout
head_neat head is =
    record {
      items = (
        refl,
        (
          number_small head.number is.number,
          (is.name, (refl, (size_small head.size is.size, (is.sender, tt)))),
        ),
      );
      apart = λ rest apart. apart;
    }

signal_name_part : (signal : Signal) → IsName signal.name → Middle (signal_name_layout signal)
unfolding signal_name_layout
signal_name_part signal is = middle_both (spaced (Word (codes "SG_")) refl) (spaced (Name signal.name) is)

tag_part : (tag : Tag) → IsTag tag → Middle (tag_layout tag)
unfolding tag_layout
tag_part tags.Plain is = middle_none
tag_part tags.Switch is = spaced Switch tt
tag_part (tags.Muxed n) is = spaced (Muxed n) is
tag_part (tags.Both n) is = spaced (Both n) is

sign_is_mark : (signed : Bool) → IsItem (Mark (sign_mark signed))
sign_is_mark true = refl
sign_is_mark false = refl

bit_field_part : (signal : Signal) → IsSignal signal → Middle (bit_field_layout signal)
unfolding bit_field_layout
bit_field_part signal is = record {
  items = (
    refl,
    (
      start_small signal.start is.start,
      (refl, (length_small signal.length is.fits, (refl, (tt, (sign_is_mark signal.signed, tt))))),
    ),
  );
  begins = λ rest ends. refl;
  apart = λ rest ends apart. apart;
}

pair_part : (opening : ℕ) (first : Decimal) (between : ℕ) (second : Decimal) (closing : ℕ) → IsItem (Mark opening)
    → IsItem (Mark between) → IsItem (Mark closing) → IsDecimal first → IsDecimal second
    → Middle (pair_layout opening first between second closing)
unfolding pair_layout spaced_mark number_layout mark_layout
pair_part opening first between second closing o b c f s = record {
  items = (o, (f, (b, (s, (c, tt)))));
  begins = λ rest ends. refl;
  apart = λ rest ends apart. apart;
}

scale_part : (signal : Signal) → IsSignal signal → Middle (scale_layout signal)
unfolding scale_layout
scale_part signal is = pair_part 40 signal.factor 44 signal.offset 41 refl refl refl is.factor is.offset

limits_part : (signal : Signal) → IsSignal signal → Middle (limits_layout signal)
unfolding limits_layout
limits_part signal is = pair_part 91 signal.minimum 124 signal.maximum 93 refl refl refl is.minimum is.maximum

receiver_part : (name : List ℕ) → IsName name → Middle (further_receiver name)
unfolding further_receiver
receiver_part name is = record {
  items = (refl, (is, tt));
  begins = λ rest ends. refl;
  apart = λ rest ends apart. (spaced (Name name) is).apart rest ends apart;
}

receivers_part : (names : List (List ℕ)) → All IsName names → Middle (receivers_layout names)
unfolding receivers_layout
receivers_part names are = middle_separated IsName spaced_name further_receiver name_part receiver_part names are

pub signal_front_items : (signal : Signal) → IsSignal signal
    → AreItems (signal_name_layout signal
    ++ (tag_layout signal.tag
    ++ (bit_field_layout signal ++ (scale_layout signal ++ (limits_layout signal ++ spaced_text signal.unit)))))
signal_front_items signal is =
    (middle_both (signal_name_part signal is.name) (middle_both (tag_part signal.tag is.tag) (middle_both (bit_field_part signal is)
    (middle_both (scale_part signal is) (middle_both (limits_part signal is) (text_part signal.unit is.unit)))))).items

pub signal_neat : (signal : Signal) → IsSignal signal → Line (signal_layout signal)
unfolding signal_layout
signal_neat signal is =
    close_line (middle_close (signal_name_part signal is.name) (middle_close (tag_part signal.tag is.tag)
    (middle_close (bit_field_part signal is) (middle_close (scale_part signal is) (middle_close (limits_part signal is)
    (middle_close (text_part signal.unit is.unit) (middle_close (receivers_part signal.receivers is.receivers) end_closes)))))))

pub message_neat : (message : Message) → IsMessage message → Line (message_layout message)
unfolding message_layout
message_neat message is = line_both (head_neat message.head is.head) (line_each IsSignal signal_layout signal_neat message.signals
    is.signals)

-- ---- comments and attributes

target_part : (target : Target) → IsTarget target → Middle (target_layout target)
unfolding target_layout
target_part targets.Whole is = middle_none
target_part (targets.Node name) is = middle_both (spaced (Word (codes "BU_")) refl) (spaced (Name name) is)
target_part (targets.Message number) is = middle_both (spaced (Word (codes "BO_")) refl)
    (spaced (Whole number) (number_small number is))
target_part (targets.Signal number name) is = middle_both (spaced (Word (codes "SG_")) refl)
    (middle_both (spaced (Whole number) (number_small number is.0)) (spaced (Name name) is.1))

pub comment_neat : (comment : Comment) → IsComment comment → Line (comment_layout comment)
unfolding comment_layout comment_key
comment_neat comment is = start_close (start_then (start (codes "CM_") refl) (target_part comment.target is.target))
    (middle_close (text_part comment.text is.text) statement_closes)

object_part : (object : Option Object) → Middle (object_layout object)
unfolding object_layout
object_part None = middle_none
object_part (Some objects.Node) = word_part (codes "BU_") refl
object_part (Some objects.Message) = word_part (codes "BO_") refl
object_part (Some objects.Signal) = word_part (codes "SG_") refl
object_part (Some objects.EnvironmentVariable) = word_part (codes "EV_") refl

number_limits_part : (limits : Option Limits) → IfSome limits IsLimits → Middle (number_limits_layout limits)
unfolding number_limits_layout
number_limits_part None is = middle_none
number_limits_part (Some limits) is = middle_both (number_part limits.minimum is.minimum) (number_part limits.maximum is.maximum)

further_text_part : (text : List ℕ) → IsText text → Middle (further_text text)
unfolding further_text
further_text_part text is = record { items = (refl, (is, tt)); begins = λ rest ends. refl; apart = λ rest ends apart. apart }

texts_part : (texts : List (List ℕ)) → All IsText texts → Middle (texts_layout texts)
unfolding texts_layout
texts_part texts are = middle_separated IsText spaced_text further_text text_part further_text_part texts are

form_part : (form : Form) → IsForm form → Middle (form_layout form)
unfolding form_layout
form_part (forms.Int limits) is = middle_both (word_part (codes "INT") refl) (number_limits_part limits is)
form_part (forms.Hex limits) is = middle_both (word_part (codes "HEX") refl) (number_limits_part limits is)
form_part (forms.Float limits) is = middle_both (word_part (codes "FLOAT") refl) (number_limits_part limits is)
form_part forms.Str is = word_part (codes "STRING") refl
form_part (forms.Enumeration texts) is = middle_both (word_part (codes "ENUM") refl) (texts_part texts is)

pub definition_neat : (definition : AttrDef) → IsAttrDef definition → Line (definition_layout definition)
unfolding definition_layout definition_key
definition_neat definition is =
    start_close (start_then (start (codes "BA_DEF_") refl) (middle_both (object_part definition.object)
    (text_part definition.name is.name))) (middle_close (form_part definition.form is.form) statement_closes)

value_part : (given : AttrValue) → IsAttrValue given → Middle (value_layout given)
unfolding value_layout
value_part (values.Text text) is = text_part text is
value_part (values.Decimal number) is = number_part number is

pub default_neat : (row : AttrDefault) → IsAttrDefault row → Line (default_layout row)
unfolding default_layout default_key
default_neat row is = start_close (start_then (start (codes "BA_DEF_DEF_") refl) (text_part row.name is.name))
    (middle_close (value_part row.value is.value) statement_closes)

pub attribute_neat : (row : AttrRow) → IsAttrRow row → Line (attribute_layout row)
unfolding attribute_layout attribute_key
attribute_neat row is =
    start_close (start_then (start (codes "BA_") refl) (middle_both (text_part row.name is.name)
    (target_part row.target is.target))) (middle_close (value_part row.value is.value) statement_closes)

-- ---- statements kept verbatim

piece_neat : (bytes : List ℕ) → IsPiece bytes → Line (piece_layout bytes)
unfolding piece_layout
piece_neat bytes is = record { items = (is, tt); apart = λ rest apart. apart }

pub kept_neat : (statement : Kept) → IsKept statement → Line (kept_layout statement)
unfolding kept_layout
kept_neat statement is = line_both (line_each IsPiece piece_layout piece_neat statement.tokens is.tokens)
    (close_line statement_closes)

-- ---- databases

pub database_neat : (d : Database) → IsDatabase d → Line (database_layout d)
unfolding database_layout front_layout attributes_layout rows_layout
database_neat d is =
    line_both (line_both (version_neat d.version is.version) (line_both (symbols_neat d.symbols is.symbols)
    (line_both (timing_neat d.bit_timing is.bit_timing) (line_both (nodes_neat d.nodes is.nodes)
    (line_each IsTableRow table_layout table_neat d.tables is.tables)))))
    (line_both (line_each IsMessage message_layout message_neat d.messages is.messages)
    (line_both (line_each IsComment comment_layout comment_neat d.comments is.comments)
    (line_both (line_both (line_each IsAttrDef definition_layout definition_neat d.definitions is.definitions)
    (line_both (line_each IsAttrDefault default_layout default_neat d.defaults is.defaults)
    (line_each IsAttrRow attribute_layout attribute_neat d.attributes is.attributes)))
    (line_both (line_each IsValueRow values_layout values_neat d.values is.values)
    (line_both (line_each IsFloatRow float_layout float_neat d.floats is.floats)
    (line_both (line_each IsMuxRow mux_layout mux_neat d.muxes is.muxes) (line_each IsKept kept_layout kept_neat d.kept
    is.kept)))))))
