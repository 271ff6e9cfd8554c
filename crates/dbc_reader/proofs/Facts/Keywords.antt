-- What statement each keyword begins.
use Rattle.std.proofs.Common.{◌≡◌, ℕ, ◌||◌, ◌&&◌, Bool, true, false, cond, List, [], ◌∷◌, ◌++◌, Option, Some, None, refl, sym, ap}
use Rattle.std.proofs.Common.{subst, ◌∙◌, inl, inr}
use Rattle.std.specs.Prelude.{codes}
use Rattle.std.specs.List.{list_any}
use Rattle.std.specs.Str.{bytes_eq}
use Rattle.std.proofs.lemmas.Bool.{cases_Bool}
use Rattle.std.proofs.lemmas.List.Folds.{list_any-append}
use Rattle.std.proofs.lemmas.Slice.Eq.{bytes_eq-Decides}
use Rattle.dbc_values.specs.Lexical.{is_kept_word}
use Rattle.dbc_records.specs.Databases.{Database}
use Rattle.dbc_records.specs.Kept.{kept_fits}
use Rattle.dbc_tokens.specs.Tokens.{Token, Cut, End, Fault, ◌▸◌}
use Rattle.dbc_reader.specs.inner.Databases.{record_into}
use Rattle.dbc_reader.specs.Kinds.{Attributes, Comments, Defaults, Definitions, FloatTypes, KeptVerbatim, Messages, Multiplexings}
use Rattle.dbc_reader.specs.Kinds.{Tables, ValueDescriptions}
use Rattle.dbc_reader.specs.declared.keyword.StatementKeyword.{StatementKeyword}
use Rattle.dbc_reader.specs.declared.statement.Statement.{Statement}
use Rattle.dbc_reader.specs.declared.keyword.StatementKeyword.TheVariants as keywords
use Rattle.dbc_reader.specs.Classes.{has_word, has_name, has_string, has_kept_word, is_there}
use Rattle.dbc_reader.specs.inner.Cursors.{following, with_word}
use Rattle.dbc_reader.specs.inner.Readers.{Reader, starts, token_at}
use Rattle.dbc_reader.specs.inner.Parts.{word_at}
use Rattle.dbc_reader.specs.inner.Tables.{table_at, values_at, float_at, mux_at}
use Rattle.dbc_reader.specs.inner.Attributes.{comment_at, definition_at, default_at, attribute_at}
use Rattle.dbc_reader.specs.inner.Keywords.{keyword_words, keyword_among, keyword_of, keyword_at}
use Rattle.dbc_reader.specs.inner.Databases.{symbols_into, nodes_into, begins_kept}
use Rattle.dbc_reader.specs.inner.Databases.{object_into, value_row_into, attribute_row_into, object_words}
use Rattle.dbc_reader.specs.inner.Databases.{value_words, attribute_words, has_object_word, has_value_word, has_attribute_word}
use Rattle.dbc_reader.specs.inner.Databases.{begins_statement, statement_into, table_alone_at, values_alone_at, mux_alone_at}
use Rattle.dbc_reader.specs.inner.Databases.{standalone_statement_at}
use Rattle.dbc_reader.proofs.Facts.KeptBeginnings.{kept_by_tokens}

-- ---- what is read

-- what a statement is read as that begins with this keyword
abbrev Reads : StatementKeyword → Cut → Type 0
Reads keywords.Symbols cut = (d : Database) → statement_into d cut ≡ symbols_into d (with_word (codes "NS_") (following cut))
Reads keywords.Nodes cut = (d : Database) → statement_into d cut ≡ nodes_into d (with_word (codes "BU_") (following cut))
Reads keywords.Table cut = (d : Database) → statement_into d cut ≡ record_into Tables d (with_word (codes "VAL_TABLE_") (following
    cut))
Reads keywords.Float cut = (d : Database) → statement_into d cut ≡ record_into FloatTypes d (with_word (codes "SIG_VALTYPE_")
    (following cut))
Reads keywords.Mux cut = (d : Database) → statement_into d cut ≡ record_into Multiplexings d (with_word (codes "SG_MUL_VAL_")
    (following cut))
Reads keywords.Definition cut = (d : Database) → statement_into d cut ≡ record_into Definitions d (with_word (codes "BA_DEF_")
    (following cut))
Reads keywords.Default cut = (d : Database) → statement_into d cut ≡ record_into Defaults d (with_word (codes "BA_DEF_DEF_")
    (following
    cut))
Reads keywords.Message cut = (starts (has_word (codes "BO_")) cut ≡ true)
    × ((d : Database) → statement_into d cut ≡ record_into Messages d cut)
Reads keywords.Values cut = (starts has_name (following cut) ≡ true → begins_kept cut ≡ true)
    × ((d : Database) → starts has_name (following cut) ≡ false → statement_into d cut
    ≡ record_into ValueDescriptions d (with_word (codes "VAL_") (following cut)))
Reads keywords.Comment cut = (starts (has_word (codes "EV_")) (following cut) ≡ true → begins_kept cut ≡ true)
    × ((d : Database) → starts (has_word (codes "EV_")) (following cut) ≡ false → statement_into d cut
    ≡ record_into Comments d (with_word (codes "CM_") (following cut)))
Reads keywords.Attribute cut = ((starts (has_word (codes "EV_")) (following (following cut)) && starts has_string (following cut)) ≡
    true
    → begins_kept cut ≡ true)
    × ((d : Database) → (starts (has_word (codes "EV_")) (following (following cut)) && starts has_string (following cut)) ≡ false
    → statement_into d cut ≡ record_into Attributes d (with_word (codes "BA_") (following cut)))
Reads keywords.Kept cut = begins_kept cut ≡ true

-- the token with these bytes
abbrev pub worded : Token → List ℕ → Token
worded u word = record u { bytes = word }

abbrev ReadsWord : List ℕ → StatementKeyword → Type 0
ReadsWord word keyword = (u : Token) (cut : Cut) → Reads keyword (worded u word ▸ cut)

symbols_read : ReadsWord (codes "NS_") keywords.Symbols
unfolding statement_into object_into value_row_into attribute_row_into has_object_word has_value_word has_attribute_word has_word
    has_kept_word starts word_at token_at begins_kept kept_fits symbols_into
symbols_read u cut d = refl

nodes_read : ReadsWord (codes "BU_") keywords.Nodes
unfolding statement_into object_into value_row_into attribute_row_into has_object_word has_value_word has_attribute_word has_word
    has_kept_word starts word_at token_at begins_kept kept_fits nodes_into
nodes_read u cut d = refl

table_read : ReadsWord (codes "VAL_TABLE_") keywords.Table
unfolding statement_into object_into value_row_into attribute_row_into has_object_word has_value_word has_attribute_word has_word
    has_kept_word starts word_at token_at begins_kept kept_fits record_into table_at
table_read u cut d = refl

float_read : ReadsWord (codes "SIG_VALTYPE_") keywords.Float
unfolding statement_into object_into value_row_into attribute_row_into has_object_word has_value_word has_attribute_word has_word
    has_kept_word starts word_at token_at begins_kept kept_fits record_into float_at
float_read u cut d = refl

mux_read : ReadsWord (codes "SG_MUL_VAL_") keywords.Mux
unfolding statement_into object_into value_row_into attribute_row_into has_object_word has_value_word has_attribute_word has_word
    has_kept_word starts word_at token_at begins_kept kept_fits record_into mux_at
mux_read u cut d = refl

definition_read : ReadsWord (codes "BA_DEF_") keywords.Definition
unfolding statement_into object_into value_row_into attribute_row_into has_object_word has_value_word has_attribute_word has_word
    has_kept_word starts word_at token_at begins_kept kept_fits record_into definition_at
definition_read u cut d = refl

default_read : ReadsWord (codes "BA_DEF_DEF_") keywords.Default
unfolding statement_into object_into value_row_into attribute_row_into has_object_word has_value_word has_attribute_word has_word
    has_kept_word starts word_at token_at begins_kept kept_fits record_into default_at
default_read u cut d = refl

message_read : ReadsWord (codes "BO_") keywords.Message
unfolding statement_into object_into value_row_into attribute_row_into has_object_word has_value_word has_attribute_word has_word
    has_kept_word starts word_at token_at begins_kept kept_fits
message_read u cut = (refl, λ d. refl)

either_none : (a : Bool) → (a || false) ≡ a
either_none true = refl
either_none false = refl

either_order : (a b : Bool) → (a && b) ≡ (b && a)
either_order true true = refl
either_order true false = refl
either_order false true = refl
either_order false false = refl

values_kept : (u : Token) (cut : Cut) → begins_kept (worded u (codes "VAL_") ▸ cut) ≡ starts has_name cut
unfolding has_word has_kept_word starts
values_kept u cut = kept_by_tokens (worded u (codes "VAL_") ▸ cut) ∙ either_none _

values_read : ReadsWord (codes "VAL_") keywords.Values
unfolding statement_into object_into value_row_into attribute_row_into has_object_word has_value_word has_attribute_word has_word
    has_kept_word starts word_at token_at record_into values_at
values_read u cut = (λ e. values_kept u cut ∙ e, λ d e. rw (values_kept u cut, e) refl)

comment_kept : (u : Token) (cut : Cut) → begins_kept (worded u (codes "CM_") ▸ cut)
    ≡ starts (has_word (codes "EV_")) cut
unfolding has_word has_kept_word starts
comment_kept u cut = kept_by_tokens (worded u (codes "CM_") ▸ cut) ∙ either_none _

comment_read : ReadsWord (codes "CM_") keywords.Comment
unfolding statement_into object_into value_row_into attribute_row_into has_object_word has_value_word has_attribute_word has_word
    has_kept_word starts word_at token_at record_into comment_at
comment_read u cut = (λ e. comment_kept u cut ∙ e, λ d e. rw (comment_kept u cut, e) refl)

attribute_kept : (u : Token) (cut : Cut) → begins_kept (worded u (codes "BA_") ▸ cut)
    ≡ (starts (has_word (codes "EV_")) (following cut) && starts has_string cut)
unfolding has_word has_kept_word starts
attribute_kept u cut = kept_by_tokens (worded u (codes "BA_") ▸ cut) ∙ either_order (starts has_string cut) _

attribute_read : ReadsWord (codes "BA_") keywords.Attribute
unfolding statement_into object_into value_row_into attribute_row_into has_object_word has_value_word has_attribute_word has_word
    has_kept_word starts word_at token_at record_into attribute_at
attribute_read u cut = (λ e. attribute_kept u cut ∙ e, λ d e. rw (attribute_kept u cut, e) refl)

-- ---- each keyword

abbrev AllRead : List (List ℕ × StatementKeyword) → Type 0
AllRead [] = Unit {0}
AllRead (one ∷ others) = ReadsWord one.0 one.1 × AllRead others

all_read : AllRead keyword_words
all_read = (
  symbols_read,
  (
    nodes_read,
    (
      message_read,
      (
        table_read,
        (
          values_read,
          (float_read, (mux_read, (comment_read, (definition_read, (default_read, (attribute_read, tt)))))),
        ),
      ),
    ),
  ),
)

is_first : (b : Bool) (first keyword : StatementKeyword) (rest : Option StatementKeyword) → b ≡ true → cond b (Some first) rest ≡
    Some keyword
    → first ≡ keyword
is_first true first keyword rest h e = cc
is_first false first keyword rest h e = absurd cc

is_later : (b : Bool) (first keyword : StatementKeyword) (rest : Option StatementKeyword) → b ≡ false → cond b (Some first) rest ≡
    Some keyword
    → rest ≡ Some keyword
is_later true first keyword rest h e = absurd cc
is_later false first keyword rest h e = e

begins_as_kept : (t : Token) (cut : Cut) (b : Bool) (keyword : StatementKeyword) → is_kept_word t.bytes ≡ b
    → cond b (Some keywords.Kept) None ≡ Some keyword → Reads keyword (t ▸ cut)
unfolding has_kept_word starts
begins_as_kept t cut false keyword h e = absurd cc
begins_as_kept t cut true keyword h e = subst (λ k. Reads k (t ▸ cut)) (is_first true keywords.Kept keyword None refl e)
    (kept_by_tokens (t ▸ cut) ∙ rw h refl)

read_among : (words : List (List ℕ × StatementKeyword)) (t : Token) (cut : Cut) (keyword : StatementKeyword) → AllRead words
    → keyword_among words t.bytes ≡ Some keyword → Reads keyword (t ▸ cut)
read_among [] t cut keyword all e = begins_as_kept t cut (is_kept_word t.bytes) keyword refl e
read_among (one ∷ others) t cut keyword all e = elim (cases_Bool (bytes_eq t.bytes one.0)) [
  | inl same ↦ (
      let here : Reads one.1 (t ▸ cut) = subst (λ word. Reads one.1 (worded t word ▸ cut))
      (sym ((bytes_eq-Decides t.bytes one.0).0 same)) (all.0 t cut) in
      subst (λ k. Reads k (t ▸ cut)) (is_first (bytes_eq t.bytes one.0) one.1 keyword (keyword_among others t.bytes) same e) here)
  | inr differ ↦ read_among others t cut keyword all.1 (is_later (bytes_eq t.bytes one.0) one.1 keyword
      (keyword_among others t.bytes) differ e)
]

reads : (keyword : StatementKeyword) (cut : Cut) → keyword_at cut ≡ Some keyword → Reads keyword cut
unfolding keyword_at keyword_of
reads keyword (End line) e = absurd cc
reads keyword (Fault line) e = absurd cc
reads keyword (t ▸ cut) e = read_among keyword_words t cut keyword all_read e

pub symbols_step : (d : Database) (cut : Cut) → keyword_at cut ≡ Some keywords.Symbols → statement_into d cut
    ≡ symbols_into d (with_word (codes "NS_") (following cut))
symbols_step d cut e = reads keywords.Symbols cut e d

pub nodes_step : (d : Database) (cut : Cut) → keyword_at cut ≡ Some keywords.Nodes → statement_into d cut
    ≡ nodes_into d (with_word (codes "BU_") (following cut))
nodes_step d cut e = reads keywords.Nodes cut e d

pub table_step : (d : Database) (cut : Cut) → keyword_at cut ≡ Some keywords.Table → statement_into d cut
    ≡ record_into Tables d (with_word (codes "VAL_TABLE_") (following cut))
table_step d cut e = reads keywords.Table cut e d

pub float_step : (d : Database) (cut : Cut) → keyword_at cut ≡ Some keywords.Float → statement_into d cut
    ≡ record_into FloatTypes d (with_word (codes "SIG_VALTYPE_") (following cut))
float_step d cut e = reads keywords.Float cut e d

pub mux_step : (d : Database) (cut : Cut) → keyword_at cut ≡ Some keywords.Mux → statement_into d cut
    ≡ record_into Multiplexings d (with_word (codes "SG_MUL_VAL_") (following cut))
mux_step d cut e = reads keywords.Mux cut e d

pub definition_step : (d : Database) (cut : Cut) → keyword_at cut ≡ Some keywords.Definition → statement_into d cut
    ≡ record_into Definitions d (with_word (codes "BA_DEF_") (following cut))
definition_step d cut e = reads keywords.Definition cut e d

pub default_step : (d : Database) (cut : Cut) → keyword_at cut ≡ Some keywords.Default → statement_into d cut
    ≡ record_into Defaults d (with_word (codes "BA_DEF_DEF_") (following cut))
default_step d cut e = reads keywords.Default cut e d

pub message_begins : (cut : Cut) → keyword_at cut ≡ Some keywords.Message → starts (has_word (codes "BO_")) cut ≡ true
message_begins cut e = (reads keywords.Message cut e).0

pub message_step : (d : Database) (cut : Cut) → keyword_at cut ≡ Some keywords.Message → statement_into d cut
    ≡ record_into Messages d cut
message_step d cut e = (reads keywords.Message cut e).1 d

-- the same by the token alone
pub message_into_here : (d : Database) (cut : Cut) → starts (has_word (codes "BO_")) cut ≡ true
    → statement_into d cut ≡ record_into Messages d cut
unfolding starts has_word
message_into_here d (End line) e = absurd cc
message_into_here d (Fault line) e = absurd cc
message_into_here d (t ▸ cut) e =
    subst (λ (bytes : List ℕ). statement_into d (worded t bytes ▸ cut)
    ≡ record_into Messages d (worded t bytes ▸ cut))
    (sym ((bytes_eq-Decides t.bytes (codes "BO_")).0 e)) ((message_read t cut).1 d)

pub values_kept_step : (cut : Cut) → keyword_at cut ≡ Some keywords.Values → starts has_name (following cut) ≡ true
    → begins_kept cut ≡ true
values_kept_step cut e = (reads keywords.Values cut e).0

pub values_step : (d : Database) (cut : Cut) → keyword_at cut ≡ Some keywords.Values → starts has_name (following cut) ≡ false
    → statement_into d cut ≡ record_into ValueDescriptions d (with_word (codes "VAL_") (following cut))
values_step d cut e = (reads keywords.Values cut e).1 d

pub comment_kept_step : (cut : Cut) → keyword_at cut ≡ Some keywords.Comment → starts (has_word (codes "EV_")) (following cut) ≡
    true
    → begins_kept cut ≡ true
comment_kept_step cut e = (reads keywords.Comment cut e).0

pub comment_step : (d : Database) (cut : Cut) → keyword_at cut ≡ Some keywords.Comment
    → starts (has_word (codes "EV_")) (following cut) ≡ false → statement_into d cut
    ≡ record_into Comments d (with_word (codes "CM_") (following cut))
comment_step d cut e = (reads keywords.Comment cut e).1 d

pub attribute_kept_step : (cut : Cut) → keyword_at cut ≡ Some keywords.Attribute
    → (starts (has_word (codes "EV_")) (following (following cut)) && starts has_string (following cut)) ≡ true → begins_kept cut ≡
    true
attribute_kept_step cut e = (reads keywords.Attribute cut e).0

pub attribute_step : (d : Database) (cut : Cut) → keyword_at cut ≡ Some keywords.Attribute
    → (starts (has_word (codes "EV_")) (following (following cut)) && starts has_string (following cut)) ≡ false → statement_into d
    cut
    ≡ record_into Attributes d (with_word (codes "BA_") (following cut))
attribute_step d cut e = (reads keywords.Attribute cut e).1 d

pub begins_kept_step : (cut : Cut) → keyword_at cut ≡ Some keywords.Kept → begins_kept cut ≡ true
begins_kept_step cut e = reads keywords.Kept cut e

pub kept_step : (d : Database) (cut : Cut) → begins_kept cut ≡ true → statement_into d cut ≡ record_into KeptVerbatim d cut
unfolding statement_into
kept_step d cut e = rw e refl

or_assoc : (a b c : Bool) → ((a || b) || c) ≡ (a || (b || c))
or_assoc true b c = refl
or_assoc false b c = refl

-- ---- a statement begins exactly where a keyword is

first_there : (b : Bool) (keyword : StatementKeyword) (rest : Option StatementKeyword) → is_there (cond b (Some keyword) rest) ≡ (b
    || is_there rest)
first_there true keyword rest = refl
first_there false keyword rest = refl

among_words : (words : List (List ℕ × StatementKeyword)) (word : List ℕ) → is_there (keyword_among words word)
    ≡ (list_any (λ one. bytes_eq word one.0) words || is_kept_word word)
among_words [] word = first_there (is_kept_word word) keywords.Kept None ∙ either_none (is_kept_word word)
among_words (one ∷ others) word =
    first_there (bytes_eq word one.0) one.1 (keyword_among others word)
    ∙ ap (λ b. bytes_eq word one.0 || b) (among_words others word)
    ∙ sym (or_assoc (bytes_eq word one.0) (list_any (λ x. bytes_eq word x.0) others) (is_kept_word word))

keyword_there : (t : Token) → begins_statement t ≡ is_there (keyword_of t.bytes)
unfolding begins_statement has_object_word has_value_word has_attribute_word has_kept_word keyword_of
keyword_there t =
    let p : List ℕ → Bool = bytes_eq t.bytes in
    let words : (list_any p (object_words ++ (value_words ++ attribute_words)) || is_kept_word t.bytes)
    ≡ (list_any p object_words || (list_any p value_words || (list_any p attribute_words || is_kept_word t.bytes))) =
    rw (list_any-append p object_words (value_words ++ attribute_words), list_any-append p value_words attribute_words)
    (or_assoc (list_any p object_words) _ _ ∙ ap (λ b. list_any p object_words || b) (or_assoc (list_any p value_words) _ _)) in
    sym words ∙ sym (among_words keyword_words t.bytes)

pub statement_begins : (keyword : StatementKeyword) (cut : Cut) → keyword_at cut ≡ Some keyword → starts begins_statement cut ≡ true
unfolding keyword_at starts
statement_begins keyword (End line) e = absurd cc
statement_begins keyword (Fault line) e = absurd cc
statement_begins keyword (t ▸ cut) e = keyword_there t ∙ rw e refl

pub no_statement_begins : (cut : Cut) → keyword_at cut ≡ None → starts begins_statement cut ≡ false
unfolding keyword_at starts
no_statement_begins (End line) e = refl
no_statement_begins (Fault line) e = refl
no_statement_begins (t ▸ cut) e = keyword_there t ∙ rw e refl

-- ---- statements on their own

of_word : (R : Reader Statement) (word : List ℕ) → ((u : Token) (cut : Cut)
    → standalone_statement_at (worded u word ▸ cut) ≡ R (worded u word ▸ cut)) → (cut : Cut) → starts (has_word word) cut
    ≡ true → standalone_statement_at cut ≡ R cut
unfolding starts has_word
of_word R word h (End line) e = absurd cc
of_word R word h (Fault line) e = absurd cc
of_word R word h (t ▸ cut) e = subst (λ bytes. standalone_statement_at (worded t bytes ▸ cut)
    ≡ R (worded t bytes ▸ cut)) (sym ((bytes_eq-Decides t.bytes word).0 e)) (h t cut)

pub table_alone : (cut : Cut) → starts (has_word (codes "VAL_TABLE_")) cut ≡ true
    → standalone_statement_at cut ≡ table_alone_at (with_word (codes "VAL_TABLE_") (following cut))
unfolding standalone_statement_at starts has_word table_at word_at token_at
table_alone = of_word (λ cut. table_alone_at (with_word (codes "VAL_TABLE_") (following cut))) (codes "VAL_TABLE_")
    (λ u cut. refl)

pub values_alone : (cut : Cut) → starts (has_word (codes "VAL_")) cut ≡ true
    → standalone_statement_at cut ≡ values_alone_at (with_word (codes "VAL_") (following cut))
unfolding standalone_statement_at starts has_word values_at word_at token_at
values_alone = of_word (λ cut. values_alone_at (with_word (codes "VAL_") (following cut))) (codes "VAL_") (λ u cut. refl)

pub mux_alone : (cut : Cut) → starts (has_word (codes "SG_MUL_VAL_")) cut ≡ true
    → standalone_statement_at cut ≡ mux_alone_at (with_word (codes "SG_MUL_VAL_") (following cut))
unfolding standalone_statement_at starts has_word mux_at word_at token_at
mux_alone = of_word (λ cut. mux_alone_at (with_word (codes "SG_MUL_VAL_") (following cut))) (codes "SG_MUL_VAL_")
    (λ u cut. refl)
