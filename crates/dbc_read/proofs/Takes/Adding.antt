-- Each statement that is spelled is added to a database.
use Rattle.std.proofs.Common.{◌≡◌, ℕ, Bool, true, false, List, [], ◌∷◌, ◌++◌, length, append_assoc, refl, sym, ap, subst, ◌∙◌}
use Rattle.std.specs.Prelude.{codes, nat_lt, IsTrue}
use Rattle.std.specs.List.{flat_map, list_any}
use Rattle.std.specs.Str.{bytes_eq}
use Rattle.dbc_records.specs.Databases.{Database}
use Rattle.dbc_values.specs.Lexical.{is_name}
use Rattle.dbc_records.specs.Kept.{Kept, IsKept}
use Rattle.dbc_values.specs.Names.{is_symbol}
use Rattle.dbc_records.specs.Records.{TableRow, IsTableRow, ValueRow, IsValueRow, FloatRow, IsFloatRow, MuxRow, IsMuxRow, Message}
use Rattle.dbc_records.specs.Records.{IsMessage}
use Rattle.dbc_records.specs.Comments.{Comment, IsComment}
use Rattle.dbc_records.specs.Attributes.{AttrDef, IsAttrDef, AttrDefault, AttrRow, IsAttrRow}
use Rattle.dbc_records.specs.Layout.{Word, Mark, Name, Symbol, Text, items_of}
use Rattle.dbc_records.specs.CanonicalText.{word_layout, signal_key, table_key, table_layout, values_key, values_layout, float_key}
use Rattle.dbc_records.specs.CanonicalText.{mux_key, mux_layout, definition_key, definition_layout, default_key, default_layout}
use Rattle.dbc_records.specs.CanonicalText.{target_layout, value_layout, head_layout}
use Rattle.dbc_tokens.specs.Tokens.{Token, Cut}
use Rattle.dbc_reader.specs.inner.Databases.{record_into}
use Rattle.dbc_reader.specs.Kinds.{Attributes, Comments, Defaults, Definitions, FloatTypes, KeptVerbatim, Messages, Multiplexings}
use Rattle.dbc_reader.specs.Kinds.{Tables, ValueDescriptions}
use Rattle.dbc_reader.specs.Classes.{has_word, has_symbol, has_name}
use Rattle.dbc_reader.specs.Forms.{Part, Is, Spelled, of_layout, ◌▸▸◌}
use Rattle.dbc_reader.specs.Spelling.{AnyStatement, Symbols, Nodes, Table, OfMessage, OfComment, Definition, Default, Attribute}
use Rattle.dbc_reader.specs.Spelling.{Values, Float, Mux, OfKept, form}
use Rattle.dbc_reader.specs.inner.Readers.{Reader, ◌>>=◌, value, choose_by}
use Rattle.dbc_reader.specs.inner.Parts.{names_from, symbols_from}
use Rattle.dbc_reader.specs.inner.Databases.{symbols_into, nodes_into, begins_kept}
use Rattle.dbc_reader.specs.inner.Databases.{object_into, value_row_into, attribute_row_into, object_words}
use Rattle.dbc_reader.specs.inner.Databases.{value_words, has_object_word, has_value_word, statement_into}
use Rattle.dbc_reader.proofs.Rounds.{bind_shrinks, value_keeps}
use Rattle.dbc_reader.proofs.Rounds.Lists.{name_shrinks, symbol_shrinks}
use Rattle.dbc_reader.proofs.Sound.Notes.{comment_form, attribute_form}
use Rattle.dbc_reader.proofs.Sound.Adding.{joined, record_joined, symbols_joined, nodes_joined, symbols_are, nodes_are, piece_form}
use Rattle.dbc_read.proofs.Takes.{chosen-first, chosen-second, Takes, Anything, Opens, Stops, takes_value, takes_next, takes_last}
use Rattle.dbc_read.proofs.Takes.{takes_as, takes_first, takes_second, opens_one, takes_list}
use Rattle.dbc_read.proofs.Takes.Kinds.{word_takes, mark_takes, name_takes, symbol_takes}
use Rattle.dbc_read.proofs.Takes.Rows.{table_takes, values_take, float_takes, mux_takes}
use Rattle.dbc_read.proofs.Takes.Notes.{word_opens, comment_takes, definition_takes, default_takes, attribute_takes}
use Rattle.dbc_read.proofs.Takes.Messages.{EndsSignals, message_takes}
use Rattle.dbc_read.proofs.Takes.Kept.{NotKept, unkept_word, unkept_values, unkept_comment, unkept_attribute, begins_as_kept}
use Rattle.dbc_read.proofs.Takes.Kept.{kept_takes}

-- ---- a database and one statement more

-- what may be after a statement
abbrev pub MayFollow : AnyStatement → Cut → Type 0
MayFollow (Symbols symbols) cut = Stops has_symbol cut
MayFollow (Nodes nodes) cut = Stops has_name cut
MayFollow (OfMessage message) cut = EndsSignals cut
MayFollow statement cut = Unit {0}

pub takes_made : {A : Type 0} {r : Reader A} {a b : A} {parts : List Part} {May : Cut → Type 0} → a ≡ b → Takes r a parts May
    → Takes r b parts May
takes_made {A} {r} {a} {b} {parts} {May} same h = subst (λ (made : A). Takes r made parts May) same h

-- what is read is put into the database
put_into : {A : Type 0} {r : Reader A} {a : A} {parts : List Part} {May : Cut → Type 0} {made : Database} (add : A → Database)
    → Takes r a parts May → add a ≡ made → Takes (r >>= λ a. value (add a)) made parts May
put_into {A} {r} {a} {parts} {May} {made} add h same = takes_made same (takes_last (λ a. value (add a)) h takes_value)

-- no statement kept verbatim
takes_unkept : (d : Database) {made : Database} {r : Reader Database} {parts : List Part} {May : Cut → Type 0} → NotKept parts
    → Takes r made parts May → Takes (choose_by begins_kept (record_into KeptVerbatim d) r) made parts May
takes_unkept d {made} {r} {parts} {May} unkept h = record {
  takes = λ tokens cut spelled may. chosen-second (begins_kept (tokens ▸▸ cut)) (record_into KeptVerbatim d (tokens ▸▸ cut)) (r
      (tokens ▸▸ cut)) _
      (unkept.not_kept tokens cut spelled) (h.takes tokens cut spelled may);
}

-- a kept one
takes_kept : (d : Database) {made : Database} (r : Reader Database) {parts : List Part} → ((tokens : List Token) (cut : Cut)
    → Spelled parts tokens → begins_kept (tokens ▸▸ cut) ≡ true) → Takes (record_into KeptVerbatim d) made parts Anything
    → Takes (choose_by begins_kept (record_into KeptVerbatim d) r) made parts Anything
takes_kept d {made} r {parts} kept h = record {
  takes = λ tokens cut spelled may. chosen-first (begins_kept (tokens ▸▸ cut)) (record_into KeptVerbatim d (tokens ▸▸ cut)) (r
      (tokens ▸▸ cut)) _
      (kept tokens cut spelled) (h.takes tokens cut spelled may);
}

-- ---- by the first word

as_object : (d : Database) {made : Database} (word : List ℕ) {parts : List Part} {May : Cut → Type 0}
    → list_any (bytes_eq word) object_words ≡ true → NotKept (Is (Word word) ∷ parts)
    → Takes (object_into d) made (Is (Word word) ∷ parts) May → Takes (statement_into d) made (Is (Word word) ∷ parts) May
unfolding statement_into has_object_word
as_object d {made} word {parts} {May} is unkept h =
    takes_unkept d unkept (takes_first _ (word_opens (λ bytes. list_any (bytes_eq bytes) object_words) word is) h)

as_value_row : (d : Database) {made : Database} (word : List ℕ) {parts : List Part} {May : Cut → Type 0}
    → list_any (bytes_eq word) object_words ≡ false → list_any (bytes_eq word) value_words ≡ true → NotKept (Is (Word word) ∷ parts)
    → Takes (value_row_into d) made (Is (Word word) ∷ parts) May → Takes (statement_into d) made (Is (Word word) ∷ parts) May
unfolding statement_into has_object_word has_value_word
as_value_row d {made} word {parts} {May} none is unkept h =
    takes_unkept d unkept (takes_second _ (word_opens (λ bytes. list_any (bytes_eq bytes) object_words) word none)
    (takes_first _ (word_opens (λ bytes. list_any (bytes_eq bytes) value_words) word is) h))

as_note : (d : Database) {made : Database} (word : List ℕ) {parts : List Part} {May : Cut → Type 0}
    → list_any (bytes_eq word) object_words ≡ false → list_any (bytes_eq word) value_words ≡ false
    → NotKept (Is (Word word) ∷ parts)
    → Takes (attribute_row_into d) made (Is (Word word) ∷ parts) May → Takes (statement_into d) made (Is (Word word) ∷ parts) May
unfolding statement_into has_object_word has_value_word
as_note d {made} word {parts} {May} none no_value unkept h =
    takes_unkept d unkept (takes_second _ (word_opens (λ bytes. list_any (bytes_eq bytes) object_words) word none)
    (takes_second _ (word_opens (λ bytes. list_any (bytes_eq bytes) value_words) word no_value) h))

is_word_of : (word other : List ℕ) {passes : Bool} {parts : List Part} → bytes_eq word other ≡ passes
    → Opens (has_word other) passes (Is (Word word) ∷ parts)
unfolding has_word
is_word_of word other {passes} {parts} e = word_opens (λ bytes. bytes_eq bytes other) word e

-- ---- lists of words

Anyhow : List ℕ → Type 0
Anyhow word = Unit {0}

symbols_take : (before more : List (List ℕ)) → Takes (symbols_from before) (before ++ more)
    (flat_map (λ word. Is (Symbol word) ∷ []) more) (Stops has_symbol)
unfolding symbols_from Anyhow has_symbol
symbols_take before more =
    takes_list has_symbol _ (λ list. bind_shrinks symbol_shrinks λ symbol. value_keeps _) (λ word. Is (Symbol word) ∷ []) Anyhow
    (λ list word is. takes_next _ (symbol_takes word) takes_value)
    (λ word is. opens_one (Is (Symbol word)) (λ bytes. (bytes ≡ word) × IsTrue (is_symbol word)) (λ tokens means. means)
    (λ t is. ap is_symbol is.0 ∙ is.1)) before more (λ i word less. tt)

names_take : (before more : List (List ℕ)) → Takes (names_from before) (before ++ more) (flat_map (λ name. Is (Name name) ∷ [])
    more) (Stops has_name)
unfolding names_from Anyhow has_name
names_take before more =
    takes_list has_name _ (λ list. bind_shrinks name_shrinks λ name. value_keeps _) (λ name. Is (Name name) ∷ []) Anyhow
    (λ list name is. takes_next _ (name_takes name) takes_value)
    (λ name is. opens_one (Is (Name name)) (λ bytes. (bytes ≡ name) × IsTrue (is_name name)) (λ tokens means. means)
    (λ t is. ap is_name is.0 ∙ is.1)) before more (λ i name less. tt)

pub symbols_added : (d : Database) (symbols : List (List ℕ)) → Takes (statement_into d) (joined d (Symbols symbols ∷ []))
    (form (Symbols symbols)) (Stops has_symbol)
unfolding object_into symbols_into
symbols_added d symbols =
    takes_as (sym (symbols_are symbols)) (as_object d (codes "NS_") refl (unkept_word (codes "NS_") refl refl refl refl)
    (takes_first _ (is_word_of (codes "NS_") (codes "NS_") refl)
    (takes_made (symbols_joined d symbols) (takes_next _ (word_takes (codes "NS_"))
    (takes_next _ (mark_takes 58) (takes_last _ (symbols_take d.symbols symbols) takes_value))))))

pub nodes_added : (d : Database) (nodes : List (List ℕ)) → Takes (statement_into d) (joined d (Nodes nodes ∷ []))
    (form (Nodes nodes)) (Stops has_name)
unfolding object_into nodes_into
nodes_added d nodes =
    takes_as (sym (nodes_are nodes)) (as_object d (codes "BU_") refl (unkept_word (codes "BU_") refl refl refl refl)
    (takes_second _ (is_word_of (codes "BU_") (codes "NS_") refl) (takes_first _ (is_word_of (codes "BU_") (codes "BU_") refl)
    (takes_made (nodes_joined d nodes) (takes_next _ (word_takes (codes "BU_"))
    (takes_next _ (mark_takes 58) (takes_last _ (names_take d.nodes nodes) takes_value)))))))

-- ---- messages

pub message_added : (d : Database) (message : Message) → nat_lt (length d.messages) 65535 ≡ true → IsMessage message
    → Takes (statement_into d) (joined d (OfMessage message ∷ [])) (form (OfMessage message)) EndsSignals
unfolding object_into record_into head_layout items_of
message_added d message space is =
    as_object d (codes "BO_") refl (unkept_word (codes "BO_") refl refl refl refl)
    (takes_second _ (is_word_of (codes "BO_") (codes "NS_") refl) (takes_second _ (is_word_of (codes "BO_") (codes "BU_") refl)
    (put_into (λ message. record d { messages = d.messages ++ message ∷ [] }) (message_takes (length d.messages) message space is)
    (record_joined Messages d message))))

-- ---- entries of values

pub table_added : (d : Database) (row : TableRow) → IsTableRow row → Takes (statement_into d) (joined d (Table row ∷ []))
    (form (Table row)) Anything
unfolding value_row_into record_into table_layout table_key word_layout items_of
table_added d row is =
    as_value_row d (codes "VAL_TABLE_") refl refl (unkept_word (codes "VAL_TABLE_") refl refl refl refl)
    (takes_first _ (is_word_of (codes "VAL_TABLE_") (codes "VAL_TABLE_") refl)
    (put_into (λ row. record d { tables = d.tables ++ row ∷ [] }) (table_takes row is)
    (record_joined Tables d row)))

pub values_added : (d : Database) (row : ValueRow) → IsValueRow row → Takes (statement_into d) (joined d (Values row ∷ []))
    (form (Values row)) Anything
unfolding value_row_into record_into values_layout values_key word_layout signal_key items_of
values_added d row is =
    as_value_row d (codes "VAL_") refl refl unkept_values (takes_second _ (is_word_of (codes "VAL_") (codes "VAL_TABLE_") refl)
    (takes_first _ (is_word_of (codes "VAL_") (codes "VAL_") refl)
    (put_into (λ row. record d { values = d.values ++ row ∷ [] }) (values_take row is)
    (record_joined ValueDescriptions d row))))

pub float_added : (d : Database) (row : FloatRow) → IsFloatRow row → Takes (statement_into d) (joined d (Float row ∷ []))
    (form (Float row)) Anything
unfolding value_row_into record_into float_key word_layout items_of
float_added d row is =
    as_value_row d (codes "SIG_VALTYPE_") refl refl (unkept_word (codes "SIG_VALTYPE_") refl refl refl refl)
    (takes_second _ (is_word_of (codes "SIG_VALTYPE_") (codes "VAL_TABLE_") refl)
    (takes_second _ (is_word_of (codes "SIG_VALTYPE_") (codes "VAL_") refl)
    (takes_first _ (is_word_of (codes "SIG_VALTYPE_") (codes "SIG_VALTYPE_") refl)
    (put_into (λ row. record d { floats = d.floats ++ row ∷ [] }) (float_takes row is)
    (record_joined FloatTypes d row)))))

pub mux_added : (d : Database) (row : MuxRow) → IsMuxRow row → Takes (statement_into d) (joined d (Mux row ∷ [])) (form (Mux row))
    Anything
unfolding value_row_into record_into mux_layout mux_key word_layout items_of
mux_added d row is =
    as_value_row d (codes "SG_MUL_VAL_") refl refl (unkept_word (codes "SG_MUL_VAL_") refl refl refl refl)
    (takes_second _ (is_word_of (codes "SG_MUL_VAL_") (codes "VAL_TABLE_") refl)
    (takes_second _ (is_word_of (codes "SG_MUL_VAL_") (codes "VAL_") refl)
    (takes_second _ (is_word_of (codes "SG_MUL_VAL_") (codes "SIG_VALTYPE_") refl)
    (put_into (λ row. record d { muxes = d.muxes ++ row ∷ [] }) (mux_takes row is)
    (record_joined Multiplexings d row)))))

-- ---- comments and attributes

pub comment_added : (d : Database) (row : Comment) → IsComment row → Takes (statement_into d) (joined d (OfComment row ∷ []))
    (form (OfComment row)) Anything
unfolding attribute_row_into record_into
comment_added d row is =
    let apart = comment_form row ∙ append_assoc (Is (Word (codes "CM_")) ∷ of_layout (target_layout row.target)) (Is (Text row.text)
    ∷ []) (Is (Mark 59) ∷ []) in
    takes_as apart (as_note d (codes "CM_") refl refl (unkept_comment row.target row.text (Is (Mark 59) ∷ []))
    (takes_first _ (is_word_of (codes "CM_") (codes "CM_") refl)
    (put_into (λ row. record d { comments = d.comments ++ row ∷ [] }) (takes_as (sym apart) (comment_takes row is))
    (record_joined Comments d row))))

pub definition_added : (d : Database) (row : AttrDef) → IsAttrDef row → Takes (statement_into d) (joined d (Definition row ∷ []))
    (form (Definition row)) Anything
unfolding attribute_row_into record_into definition_layout definition_key word_layout items_of
definition_added d row is =
    as_note d (codes "BA_DEF_") refl refl (unkept_word (codes "BA_DEF_") refl refl refl refl)
    (takes_second _ (is_word_of (codes "BA_DEF_") (codes "CM_") refl)
    (takes_first _ (is_word_of (codes "BA_DEF_") (codes "BA_DEF_") refl)
    (put_into (λ row. record d { definitions = d.definitions ++ row ∷ [] }) (definition_takes row is)
    (record_joined Definitions d row))))

pub default_added : (d : Database) (row : AttrDefault) → Takes (statement_into d) (joined d (Default row ∷ [])) (form (Default row))
    Anything
unfolding attribute_row_into record_into default_layout default_key word_layout items_of
default_added d row =
    as_note d (codes "BA_DEF_DEF_") refl refl (unkept_word (codes "BA_DEF_DEF_") refl refl refl refl)
    (takes_second _ (is_word_of (codes "BA_DEF_DEF_") (codes "CM_") refl)
    (takes_second _ (is_word_of (codes "BA_DEF_DEF_") (codes "BA_DEF_") refl)
    (takes_first _ (is_word_of (codes "BA_DEF_DEF_") (codes "BA_DEF_DEF_") refl)
    (put_into (λ row. record d { defaults = d.defaults ++ row ∷ [] }) (default_takes row)
    (record_joined Defaults d row)))))

pub attribute_added : (d : Database) (row : AttrRow) → IsAttrRow row → Takes (statement_into d) (joined d (Attribute row ∷ []))
    (form (Attribute row)) Anything
unfolding attribute_row_into record_into
attribute_added d row is =
    let apart = attribute_form row ∙ append_assoc (Is (Word (codes "BA_")) ∷ Is (Text row.name)
    ∷ of_layout (target_layout row.target)) (of_layout (value_layout row.value)) (Is (Mark 59) ∷ []) in
    takes_as apart (as_note d (codes "BA_") refl refl (unkept_attribute row.name row.target row.value (Is (Mark 59) ∷ []))
    (takes_second _ (is_word_of (codes "BA_") (codes "CM_") refl)
    (takes_second _ (is_word_of (codes "BA_") (codes "BA_DEF_") refl)
    (takes_second _ (is_word_of (codes "BA_") (codes "BA_DEF_DEF_") refl)
    (put_into (λ row. record d { attributes = d.attributes ++ row ∷ [] }) (takes_as (sym apart) (attribute_takes row is))
    (record_joined Attributes d row))))))

pub kept_added : (d : Database) (row : Kept) → IsKept row → Takes (statement_into d) (joined d (OfKept row ∷ []))
    (form (OfKept row)) Anything
unfolding statement_into record_into
kept_added d row is =
    takes_kept d _ (λ tokens cut spelled. begins_as_kept row (Is (Mark 59) ∷ []) tokens cut is.fit
    (subst (λ (parts : List Part). Spelled parts tokens) (piece_form row) spelled))
    (put_into (λ row. record d { kept = d.kept ++ row ∷ [] }) (kept_takes row)
    (record_joined KeptVerbatim d row))
