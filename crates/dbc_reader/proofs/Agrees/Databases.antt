-- The readers of statements agree with the pattern of all statements.
use Rattle.std.proofs.Common.{◌≡◌, ℕ, ◌+◌, ◌^◌, ◌-◌, Bool, true, false, cond, ◌||◌, List, [], ◌∷◌, length, length-append, Some}
use Rattle.std.proofs.Common.{None, Ok, Err, refl, sym, ap, subst, ◌∙◌, inl, inr}
use Rattle.std.specs.Prelude.{codes, nat_le, ◌⊎◌}
use Rattle.std.specs.List.{list_any}
use Rattle.std.specs.Str.{bytes_eq}
use Rattle.std.proofs.lemmas.Bool.{cases_Bool}
use Rattle.std.proofs.lemmas.Slice.Eq.{bytes_eq-Decides}
use Rattle.dbc_records.specs.Databases.{Database}
use Rattle.dbc_values.specs.Lexical.{is_name, is_keyword, kept_words}
use Rattle.dbc_records.specs.Kept.{kept_fits}
use Rattle.dbc_values.specs.Pieces.{is_piece, is_string}
use Rattle.dbc_tokens.specs.declared.fault.Cause.TheVariants as causes
use Rattle.dbc_tokens.specs.Tokens.{Token, Cut, End, Fault, ◌▸◌}
use Rattle.dbc_reader.specs.inner.Databases.{record_into}
use Rattle.dbc_reader.specs.Kinds.{Attributes, Comments, Defaults, Definitions, FloatTypes, KeptVerbatim, Messages, Multiplexings}
use Rattle.dbc_reader.specs.Kinds.{Tables, ValueDescriptions}
use Rattle.dbc_reader.specs.Classes.{has_word, has_name, has_string, has_piece, has_kept_word}
use Rattle.dbc_reader.specs.Pattern.{Class, Word, Name, String, Whole, BeginsMessage, Seen, is_of_class, plain, verdict, Pattern}
use Rattle.dbc_reader.specs.Pattern.{Done, ◌⇒◌, Either, ◌then◌, may_end, first_of, left_then, after, fault_in, ruled, judged}
use Rattle.dbc_reader.specs.Pattern.{first_fault}
use Rattle.dbc_reader.specs.Grammar as grammar
use Rattle.dbc_reader.specs.inner.Readers.{starts}
use Rattle.dbc_reader.specs.inner.Databases.{symbols_into, nodes_into, begins_kept, kept_at}
use Rattle.dbc_reader.specs.inner.Databases.{object_into, value_row_into, attribute_row_into, object_words}
use Rattle.dbc_reader.specs.inner.Databases.{value_words, attribute_words, has_object_word, has_value_word, has_attribute_word}
use Rattle.dbc_reader.specs.inner.Databases.{begins_statement, statement_into}
use Rattle.dbc_reader.specs.inner.Tables.{values_at}
use Rattle.dbc_reader.specs.inner.Attributes.{comment_at, attribute_at}
use Rattle.dbc_reader.proofs.Agrees.{Agrees, Follows, Begins, agree_bind, agree_then, agree_value, begins_one, begins_either}
use Rattle.dbc_reader.proofs.Agrees.{either_first, either_second, either_end, either_fault, after_then}
use Rattle.dbc_reader.proofs.Facts.Keywords.{worded}
use Rattle.dbc_reader.proofs.Agrees.Kinds.{begins_word, begins_whole, word_agrees, mark_agrees, name_agrees, text_agrees, id_agrees}
use Rattle.dbc_reader.proofs.Agrees.Kinds.{symbols_agree, names_agree, pieces_agree, entries_agree}
use Rattle.dbc_reader.proofs.Facts.Names.{name_is_no_number, name_is_piece, string_is_piece}
use Rattle.dbc_reader.proofs.Agrees.Rows.{table_agrees, float_agrees, mux_agrees, target_agrees, definition_agrees, default_agrees}
use Rattle.dbc_reader.proofs.Agrees.Rows.{given_agrees}
use Rattle.dbc_reader.proofs.Agrees.Messages.{message_agrees}

-- as many messages have begun as the database has
pub record Counted (d : Database) (seen : Seen) : Type 0 where
  pub count : seen.messages ≡ length d.messages

-- ---- one statement more

symbols_more : (d : Database) (seen : Seen) → Counted d seen → Agrees seen (symbols_into d) grammar.symbols Counted
unfolding symbols_into
symbols_more d seen has =
    agree_then (word_agrees seen (codes "NS_")) λ _. agree_then (mark_agrees seen 58) λ _. agree_then (symbols_agree seen d.symbols)
    λ symbols. agree_value (record { count = has.count })

nodes_more : (d : Database) (seen : Seen) → Counted d seen → Agrees seen (nodes_into d) grammar.nodes Counted
unfolding nodes_into
nodes_more d seen has =
    agree_then (word_agrees seen (codes "BU_")) λ _. agree_then (mark_agrees seen 58) λ _. agree_then (names_agree seen d.nodes)
    λ nodes. agree_value (record { count = has.count })

message_more : (d : Database) (seen : Seen) → Counted d seen → Agrees seen (record_into Messages d) grammar.message Counted
unfolding record_into
message_more d seen has =
    agree_bind (message_agrees seen (length d.messages) has.count) λ message s is. agree_value
    (record { count = is ∙ sym (length-append d.messages (message ∷ [])) })

table_more : (d : Database) (seen : Seen) → Counted d seen → Agrees seen (record_into Tables d) grammar.table Counted
unfolding record_into
table_more d seen has = agree_then (table_agrees seen) λ row. agree_value (record { count = has.count })

float_more : (d : Database) (seen : Seen) → Counted d seen → Agrees seen (record_into FloatTypes d) grammar.float Counted
unfolding record_into
float_more d seen has = agree_then (float_agrees seen) λ row. agree_value (record { count = has.count })

mux_more : (d : Database) (seen : Seen) → Counted d seen → Agrees seen (record_into Multiplexings d) grammar.mux Counted
unfolding record_into
mux_more d seen has = agree_then (mux_agrees seen) λ row. agree_value (record { count = has.count })

definition_more : (d : Database) (seen : Seen) → Counted d seen → Agrees seen (record_into Definitions d) grammar.definition Counted
unfolding record_into
definition_more d seen has = agree_then (definition_agrees seen) λ definition. agree_value (record { count = has.count })

default_more : (d : Database) (seen : Seen) → Counted d seen → Agrees seen (record_into Defaults d) grammar.default Counted
unfolding record_into
default_more d seen has = agree_then (default_agrees seen) λ row. agree_value (record { count = has.count })

kept_more : (d : Database) (seen : Seen) → Counted d seen → Agrees seen (record_into KeptVerbatim d) grammar.kept_rest Counted
unfolding record_into kept_at
kept_more d seen has =
    agree_then (agree_then (pieces_agree seen []) λ tokens. agree_then (mark_agrees seen 59) λ _. agree_value refl) λ row.
    agree_value (record { count = has.count })

-- ---- statements that may be kept ones, when they are not

abbrev plain_values : Pattern
plain_values = Word (codes "VAL_") ⇒ Whole 0 (2 ^ 32 - 1) ⇒ Name ⇒ grammar.entries

abbrev plain_comment : Pattern
plain_comment = Word (codes "CM_") ⇒ (grammar.target then String ⇒ grammar.statement_end)

abbrev plain_attribute : Pattern
plain_attribute = Word (codes "BA_") ⇒ String ⇒ (grammar.target then (grammar.given then grammar.statement_end))

values_more : (d : Database) (seen : Seen) → Counted d seen → Agrees seen (record_into ValueDescriptions d) plain_values Counted
unfolding record_into values_at
values_more d seen has =
    agree_then (agree_then (word_agrees seen (codes "VAL_")) λ _. agree_then (id_agrees seen) λ number. agree_then
    (name_agrees seen) λ signal. agree_then (entries_agree seen []) λ entries.
    agree_then (mark_agrees seen 59) λ _. agree_value refl) λ row. agree_value (record { count = has.count })

comment_more : (d : Database) (seen : Seen) → Counted d seen → Agrees seen (record_into Comments d) plain_comment Counted
unfolding record_into comment_at
comment_more d seen has =
    agree_then (agree_then (word_agrees seen (codes "CM_")) λ _. agree_then (target_agrees seen) λ target. agree_then
    (text_agrees seen) λ text.
    agree_then (mark_agrees seen 59) λ _. agree_value refl) λ row. agree_value (record { count = has.count })

attribute_more : (d : Database) (seen : Seen) → Counted d seen → Agrees seen (record_into Attributes d) plain_attribute Counted
unfolding record_into attribute_at
attribute_more d seen has =
    agree_then (agree_then (word_agrees seen (codes "BA_")) λ _. agree_then (text_agrees seen) λ name. agree_then
    (target_agrees seen) λ target. agree_then (given_agrees seen) λ given.
    agree_then (mark_agrees seen 59) λ _. agree_value refl) λ row. agree_value (record { count = has.count })

-- ---- by the first word

-- reading a statement that begins with these bytes agrees with the pattern
abbrev AgreesFor : Token → List ℕ → Type 0
AgreesFor u bytes =
    (d : Database) (seen : Seen) → Counted d seen → (q : Pattern) (cut : Cut)
    → Follows Counted (statement_into d (worded u bytes ▸ cut)) (first_fault q)
    (first_fault (grammar.statement then q) seen (worded u bytes ▸ cut))

symbols_case : (u : Token) → AgreesFor u (codes "NS_")
unfolding statement_into object_into value_row_into attribute_row_into begins_kept kept_fits has_object_word has_value_word
    has_attribute_word has_word has_kept_word has_name has_string has_piece is_piece is_string is_name is_keyword starts first_fault
symbols_case u d seen has q cut = (symbols_more d seen has).follows q (worded u (codes "NS_") ▸ cut)

nodes_case : (u : Token) → AgreesFor u (codes "BU_")
unfolding statement_into object_into value_row_into attribute_row_into begins_kept kept_fits has_object_word has_value_word
    has_attribute_word has_word has_kept_word has_name has_string has_piece is_piece is_string is_name is_keyword starts first_fault
nodes_case u d seen has q cut = (nodes_more d seen has).follows q (worded u (codes "BU_") ▸ cut)

begins_a_message : Begins (has_word (codes "BO_")) grammar.message
begins_a_message = begins_one (has_word (codes "BO_")) BeginsMessage _ (λ t seen. counted_class (has_word (codes "BO_") t)
    (nat_le 65535 seen.messages) seen)
  where
    counted_class : (word full : Bool) (seen : Seen)
        → is_of_class (cond word (cond full (Err causes.MessagesFull) (Ok (record { messages = seen.messages + 1; signals = [] })))
        (Err causes.Statement)) ≡ word
    counted_class true true seen = refl
    counted_class true false seen = refl
    counted_class false full seen = refl

pub begins_objects : Begins (λ t. has_word (codes "NS_") t || (has_word (codes "BU_") t || has_word (codes "BO_") t))
    grammar.objects
begins_objects = begins_either Done (begins_word (codes "NS_") _) (begins_either Done (begins_word (codes "BU_") _)
    begins_a_message)

message_first : (u : Token) (seen : Seen) (q : Pattern) (cut : Cut) → first_fault (grammar.statement then q) seen
    (worded u (codes "BO_") ▸ cut) ≡ first_fault (grammar.message then q) seen (worded u (codes "BO_")
    ▸ cut)
unfolding has_word
message_first u seen q cut =
    let t = worded u (codes "BO_") in
    let x = begins_objects.begins t seen refl in
    either_first grammar.objects _ q seen t cut x.0 x.1 ∙ either_second grammar.symbols (Either grammar.nodes grammar.message Done)
    q seen t cut refl refl ∙ either_second grammar.nodes grammar.message q seen t cut refl refl

message_case : (u : Token) → AgreesFor u (codes "BO_")
unfolding statement_into object_into value_row_into attribute_row_into begins_kept kept_fits has_object_word has_value_word
    has_attribute_word has_word has_kept_word has_name has_string has_piece is_piece is_string is_name is_keyword starts first_fault
message_case u d seen has q cut =
    let t = worded u (codes "BO_") in
    subst (λ total. Follows Counted (record_into Messages d (t ▸ cut)) (first_fault q) total) (sym (message_first u seen q
    cut))
    ((message_more d seen has).follows q (t ▸ cut))

table_case : (u : Token) → AgreesFor u (codes "VAL_TABLE_")
unfolding statement_into object_into value_row_into attribute_row_into begins_kept kept_fits has_object_word has_value_word
    has_attribute_word has_word has_kept_word has_name has_string has_piece is_piece is_string is_name is_keyword starts first_fault
table_case u d seen has q cut = (table_more d seen has).follows q (worded u (codes "VAL_TABLE_") ▸ cut)

float_case : (u : Token) → AgreesFor u (codes "SIG_VALTYPE_")
unfolding statement_into object_into value_row_into attribute_row_into begins_kept kept_fits has_object_word has_value_word
    has_attribute_word has_word has_kept_word has_name has_string has_piece is_piece is_string is_name is_keyword starts first_fault
float_case u d seen has q cut = (float_more d seen has).follows q (worded u (codes "SIG_VALTYPE_") ▸ cut)

mux_case : (u : Token) → AgreesFor u (codes "SG_MUL_VAL_")
unfolding statement_into object_into value_row_into attribute_row_into begins_kept kept_fits has_object_word has_value_word
    has_attribute_word has_word has_kept_word has_name has_string has_piece is_piece is_string is_name is_keyword starts first_fault
mux_case u d seen has q cut = (mux_more d seen has).follows q (worded u (codes "SG_MUL_VAL_") ▸ cut)

definition_case : (u : Token) → AgreesFor u (codes "BA_DEF_")
unfolding statement_into object_into value_row_into attribute_row_into begins_kept kept_fits has_object_word has_value_word
    has_attribute_word has_word has_kept_word has_name has_string has_piece is_piece is_string is_name is_keyword starts first_fault
definition_case u d seen has q cut = (definition_more d seen has).follows q (worded u (codes "BA_DEF_") ▸
    cut)

default_case : (u : Token) → AgreesFor u (codes "BA_DEF_DEF_")
unfolding statement_into object_into value_row_into attribute_row_into begins_kept kept_fits has_object_word has_value_word
    has_attribute_word has_word has_kept_word has_name has_string has_piece is_piece is_string is_name is_keyword starts first_fault
default_case u d seen has q cut = (default_more d seen has).follows q (worded u (codes "BA_DEF_DEF_") ▸ cut)

-- ---- statements kept verbatim, by their first word

kept_bo_tx_bu : (u : Token) → AgreesFor u (codes "BO_TX_BU_")
unfolding statement_into object_into value_row_into attribute_row_into begins_kept kept_fits has_object_word has_value_word
    has_attribute_word has_word has_kept_word has_name has_string has_piece is_piece is_string is_name is_keyword starts first_fault
kept_bo_tx_bu u d seen has q cut = (kept_more d seen has).follows q (worded u (codes "BO_TX_BU_") ▸ cut)

kept_ev : (u : Token) → AgreesFor u (codes "EV_")
unfolding statement_into object_into value_row_into attribute_row_into begins_kept kept_fits has_object_word has_value_word
    has_attribute_word has_word has_kept_word has_name has_string has_piece is_piece is_string is_name is_keyword starts first_fault
kept_ev u d seen has q cut = (kept_more d seen has).follows q (worded u (codes "EV_") ▸ cut)

kept_envvar_data : (u : Token) → AgreesFor u (codes "ENVVAR_DATA_")
unfolding statement_into object_into value_row_into attribute_row_into begins_kept kept_fits has_object_word has_value_word
    has_attribute_word has_word has_kept_word has_name has_string has_piece is_piece is_string is_name is_keyword starts first_fault
kept_envvar_data u d seen has q cut = (kept_more d seen has).follows q (worded u (codes "ENVVAR_DATA_") ▸
    cut)

kept_ev_data : (u : Token) → AgreesFor u (codes "EV_DATA_")
unfolding statement_into object_into value_row_into attribute_row_into begins_kept kept_fits has_object_word has_value_word
    has_attribute_word has_word has_kept_word has_name has_string has_piece is_piece is_string is_name is_keyword starts first_fault
kept_ev_data u d seen has q cut = (kept_more d seen has).follows q (worded u (codes "EV_DATA_") ▸ cut)

kept_sig_group : (u : Token) → AgreesFor u (codes "SIG_GROUP_")
unfolding statement_into object_into value_row_into attribute_row_into begins_kept kept_fits has_object_word has_value_word
    has_attribute_word has_word has_kept_word has_name has_string has_piece is_piece is_string is_name is_keyword starts first_fault
kept_sig_group u d seen has q cut = (kept_more d seen has).follows q (worded u (codes "SIG_GROUP_") ▸ cut)

kept_sgtype : (u : Token) → AgreesFor u (codes "SGTYPE_")
unfolding statement_into object_into value_row_into attribute_row_into begins_kept kept_fits has_object_word has_value_word
    has_attribute_word has_word has_kept_word has_name has_string has_piece is_piece is_string is_name is_keyword starts first_fault
kept_sgtype u d seen has q cut = (kept_more d seen has).follows q (worded u (codes "SGTYPE_") ▸ cut)

kept_sgtype_val : (u : Token) → AgreesFor u (codes "SGTYPE_VAL_")
unfolding statement_into object_into value_row_into attribute_row_into begins_kept kept_fits has_object_word has_value_word
    has_attribute_word has_word has_kept_word has_name has_string has_piece is_piece is_string is_name is_keyword starts first_fault
kept_sgtype_val u d seen has q cut = (kept_more d seen has).follows q (worded u (codes "SGTYPE_VAL_") ▸ cut)

kept_sig_type_ref : (u : Token) → AgreesFor u (codes "SIG_TYPE_REF_")
unfolding statement_into object_into value_row_into attribute_row_into begins_kept kept_fits has_object_word has_value_word
    has_attribute_word has_word has_kept_word has_name has_string has_piece is_piece is_string is_name is_keyword starts first_fault
kept_sig_type_ref u d seen has q cut = (kept_more d seen has).follows q (worded u (codes "SIG_TYPE_REF_") ▸
    cut)

kept_sigtype_valtype : (u : Token) → AgreesFor u (codes "SIGTYPE_VALTYPE_")
unfolding statement_into object_into value_row_into attribute_row_into begins_kept kept_fits has_object_word has_value_word
    has_attribute_word has_word has_kept_word has_name has_string has_piece is_piece is_string is_name is_keyword starts first_fault
kept_sigtype_valtype u d seen has q cut =
    (kept_more d seen has).follows q (worded u (codes "SIGTYPE_VALTYPE_") ▸ cut)

kept_ba_def_sgtype : (u : Token) → AgreesFor u (codes "BA_DEF_SGTYPE_")
unfolding statement_into object_into value_row_into attribute_row_into begins_kept kept_fits has_object_word has_value_word
    has_attribute_word has_word has_kept_word has_name has_string has_piece is_piece is_string is_name is_keyword starts first_fault
kept_ba_def_sgtype u d seen has q cut = (kept_more d seen has).follows q (worded u (codes "BA_DEF_SGTYPE_") ▸
    cut)

kept_ba_sgtype : (u : Token) → AgreesFor u (codes "BA_SGTYPE_")
unfolding statement_into object_into value_row_into attribute_row_into begins_kept kept_fits has_object_word has_value_word
    has_attribute_word has_word has_kept_word has_name has_string has_piece is_piece is_string is_name is_keyword starts first_fault
kept_ba_sgtype u d seen has q cut = (kept_more d seen has).follows q (worded u (codes "BA_SGTYPE_") ▸ cut)

kept_ba_def_rel : (u : Token) → AgreesFor u (codes "BA_DEF_REL_")
unfolding statement_into object_into value_row_into attribute_row_into begins_kept kept_fits has_object_word has_value_word
    has_attribute_word has_word has_kept_word has_name has_string has_piece is_piece is_string is_name is_keyword starts first_fault
kept_ba_def_rel u d seen has q cut = (kept_more d seen has).follows q (worded u (codes "BA_DEF_REL_") ▸ cut)

kept_ba_rel : (u : Token) → AgreesFor u (codes "BA_REL_")
unfolding statement_into object_into value_row_into attribute_row_into begins_kept kept_fits has_object_word has_value_word
    has_attribute_word has_word has_kept_word has_name has_string has_piece is_piece is_string is_name is_keyword starts first_fault
kept_ba_rel u d seen has q cut = (kept_more d seen has).follows q (worded u (codes "BA_REL_") ▸ cut)

kept_ba_def_def_rel : (u : Token) → AgreesFor u (codes "BA_DEF_DEF_REL_")
unfolding statement_into object_into value_row_into attribute_row_into begins_kept kept_fits has_object_word has_value_word
    has_attribute_word has_word has_kept_word has_name has_string has_piece is_piece is_string is_name is_keyword starts first_fault
kept_ba_def_def_rel u d seen has q cut = (kept_more d seen has).follows q (worded u (codes "BA_DEF_DEF_REL_")
    ▸ cut)

kept_cat_def : (u : Token) → AgreesFor u (codes "CAT_DEF_")
unfolding statement_into object_into value_row_into attribute_row_into begins_kept kept_fits has_object_word has_value_word
    has_attribute_word has_word has_kept_word has_name has_string has_piece is_piece is_string is_name is_keyword starts first_fault
kept_cat_def u d seen has q cut = (kept_more d seen has).follows q (worded u (codes "CAT_DEF_") ▸ cut)

kept_cat : (u : Token) → AgreesFor u (codes "CAT_")
unfolding statement_into object_into value_row_into attribute_row_into begins_kept kept_fits has_object_word has_value_word
    has_attribute_word has_word has_kept_word has_name has_string has_piece is_piece is_string is_name is_keyword starts first_fault
kept_cat u d seen has q cut = (kept_more d seen has).follows q (worded u (codes "CAT_") ▸ cut)

-- ---- statements of two kinds, by the token after their first word

either_last : (a b q : Pattern) (seen : Seen) (t : Token) (cut : Cut) → after b t seen ≡ None → may_end a ≡ false
    → may_end b ≡ false → first_fault (Either a b q) seen (t ▸ cut) ≡ first_fault (a then q) seen (t ▸ cut)
unfolding first_fault
either_last a b q seen t cut none a_some b_some =
    let one : after (Either a b q) t seen ≡ first_of (left_then (after a t seen) q) None = rw (none, a_some, b_some) refl in
    let two : after (a then q) t seen ≡ first_of (left_then (after a t seen) q) None = after_then a q t seen ∙ rw a_some refl in
    ap (λ z. judged z t seen (λ p s. first_fault p s cut)) (one ∙ sym two)

-- a token that passes a test and breaks no rule
plain_token : (c : Class) (p : Pattern) (seen : Seen) (t : Token) (cut : Cut) → verdict c t seen ≡ Ok seen
    → first_fault (c ⇒ p) seen (t ▸ cut) ≡ first_fault p seen cut
unfolding first_fault
plain_token c p seen t cut e = rw e (ap (λ v. ruled t.line v (λ s. first_fault p s cut)) e)

no_token : (c : Class) (p : Pattern) (seen : Seen) (t : Token) → verdict c t seen ≡ Err causes.Statement → after (c ⇒ p) t seen
    ≡ None
no_token c p seen t e = rw e refl

-- a token of a statement kept verbatim
piece_more : (q : Pattern) (seen : Seen) (t : Token) (cut : Cut) → has_piece t ≡ true → first_fault (grammar.kept_rest then q) seen
    (t ▸ cut) ≡ first_fault (grammar.kept_rest then q) seen cut
unfolding first_fault
piece_more q seen t cut e = rw e (ap (λ b. ruled t.line (plain b seen) (λ s. first_fault (grammar.kept_rest then q) s cut)) e)

not_same : (a b : List ℕ) → bytes_eq a b ≡ false → bytes_eq b a ≡ false
not_same a b e = elim (cases_Bool (bytes_eq b a)) [
  | inr differ ↦ differ
  | inl same ↦ (let is : b ≡ a = (bytes_eq-Decides b a).0 same in let back : bytes_eq a b ≡ true = (bytes_eq-Decides a b).1
      (sym is) in let both : true ≡ false = sym back ∙ e in cc)
]

comment_kept : (u : Token) (d : Database) (seen : Seen) → Counted d seen → (q : Pattern) (u2 : Token)
    (cut : Cut)
    → Follows Counted (statement_into d (worded u (codes "CM_") ▸ (worded u2 (codes "EV_") ▸ cut)))
    (first_fault q) (first_fault (grammar.statement then q) seen (worded u (codes "CM_") ▸
    (worded u2 (codes "EV_") ▸ cut)))
unfolding statement_into object_into value_row_into attribute_row_into begins_kept kept_fits has_object_word has_value_word
    has_attribute_word has_word has_kept_word has_name has_string has_piece is_piece is_string is_name is_keyword starts first_fault
comment_kept u d seen has q u2 cut = (kept_more d seen has).follows q (worded u (codes "CM_") ▸
    (worded u2 (codes "EV_") ▸ cut))

comment_first : (u : Token) (seen : Seen) (q : Pattern) (t : Token) (cut : Cut) → has_word (codes "EV_") t ≡ false
    → first_fault (grammar.statement then q) seen (worded u (codes "CM_") ▸ (t ▸ cut))
    ≡ first_fault (plain_comment then q) seen (worded u (codes "CM_") ▸ (t ▸ cut))
unfolding statement_into object_into value_row_into attribute_row_into begins_kept kept_fits has_object_word has_value_word
    has_attribute_word has_word has_kept_word has_name has_string has_piece is_piece is_string starts first_fault
comment_first u seen q t cut e =
    either_second (Word (codes "EV_") ⇒ grammar.kept_rest) (grammar.target then String ⇒ grammar.statement_end) q seen t cut
    (no_token (Word (codes "EV_")) grammar.kept_rest seen t (rw e refl)) refl

comment_plain : (u : Token) (d : Database) (t : Token) (cut : Cut) → bytes_eq (codes "EV_") t.bytes ≡ false
    → statement_into d (worded u (codes "CM_") ▸ (t ▸ cut))
    ≡ record_into Comments d (worded u (codes "CM_") ▸
    (t ▸ cut))
unfolding statement_into object_into value_row_into attribute_row_into begins_kept kept_fits has_object_word has_value_word
    has_attribute_word has_word has_kept_word has_name has_string has_piece is_piece is_string starts first_fault
comment_plain u d t cut e = rw e refl

comment_case : (u : Token) → AgreesFor u (codes "CM_")
unfolding statement_into object_into value_row_into attribute_row_into begins_kept kept_fits has_object_word has_value_word
    has_attribute_word has_word has_kept_word has_name has_string has_piece is_piece is_string starts first_fault
comment_case u d seen has q (End at) = (comment_more d seen has).follows q (worded u (codes "CM_") ▸ End at)
comment_case u d seen has q (Fault at) = (comment_more d seen has).follows q (worded u (codes "CM_") ▸
    Fault at)
comment_case u d seen has q (t ▸ cut) =
    let first = worded u (codes "CM_") in
    elim (cases_Bool (bytes_eq (codes "EV_") t.bytes)) [
      | inl same ↦
          subst (λ bytes. Follows Counted (statement_into d (first ▸ (worded t bytes ▸ cut))) (first_fault q)
          (first_fault (grammar.statement then q) seen (first ▸ (worded t bytes ▸ cut))))
          ((bytes_eq-Decides (codes "EV_") t.bytes).0 same) (comment_kept u d seen has q t cut)
      | inr differ ↦
          rw (comment_plain u d t cut differ, comment_first u seen q t cut (not_same (codes "EV_") t.bytes differ))
          ((comment_more d seen has).follows q (first ▸ (t ▸ cut)))
    ]

attribute_kept : (u : Token) (d : Database) (seen : Seen) → Counted d seen → (q : Pattern) (t : Token)
    → has_string t ≡ true → (u3 : Token) (cut : Cut)
    → statement_into d (worded u (codes "BA_") ▸ (t ▸ (worded u3 (codes "EV_") ▸ cut)))
    ≡ record_into KeptVerbatim d (worded u (codes "BA_") ▸ (t ▸ (worded u3 (codes "EV_") ▸ cut)))
unfolding statement_into object_into value_row_into attribute_row_into begins_kept kept_fits has_object_word has_value_word
    has_attribute_word has_word has_kept_word has_name has_string has_piece is_piece starts first_fault
attribute_kept u d seen has q t e u3 cut = rw e refl

attribute_ends : (u : Token) (d : Database) (t : Token) (cut : Cut) → has_string t ≡ false
    → statement_into d (worded u (codes "BA_") ▸ (t ▸ cut))
    ≡ record_into Attributes d (worded u (codes "BA_")
    ▸ (t ▸ cut))
unfolding statement_into object_into value_row_into attribute_row_into begins_kept kept_fits has_object_word has_value_word
    has_attribute_word has_word has_kept_word has_name has_string has_piece is_piece starts first_fault
attribute_ends u d t cut e = rw e refl

-- ---- value descriptions

values_kept : (u : Token) (d : Database) (t : Token) (cut : Cut) → has_name t ≡ true
    → statement_into d (worded u (codes "VAL_") ▸ (t ▸ cut))
    ≡ record_into KeptVerbatim d (worded u (codes "VAL_") ▸
    (t ▸ cut))
unfolding statement_into object_into value_row_into attribute_row_into begins_kept kept_fits has_object_word has_value_word
    has_attribute_word has_word has_kept_word has_name has_string has_piece is_piece is_string starts first_fault
values_kept u d t cut e = rw e refl

values_plain : (u : Token) (d : Database) (t : Token) (cut : Cut) → has_name t ≡ false
    → statement_into d (worded u (codes "VAL_") ▸ (t ▸ cut))
    ≡ record_into ValueDescriptions d (worded u (codes "VAL_")
    ▸ (t ▸ cut))
unfolding statement_into object_into value_row_into attribute_row_into begins_kept kept_fits has_object_word has_value_word
    has_attribute_word has_word has_kept_word has_name has_string has_piece is_piece is_string starts first_fault
values_plain u d t cut e = rw e refl

values_first_kept : (u : Token) (seen : Seen) (q : Pattern) (t : Token) (cut : Cut) → has_name t ≡ true
    → first_fault (grammar.statement then q) seen (worded u (codes "VAL_") ▸ (t ▸ cut))
    ≡ first_fault (grammar.kept_rest then q) seen (worded u (codes "VAL_") ▸ (t ▸ cut))
unfolding statement_into object_into value_row_into attribute_row_into begins_kept kept_fits has_object_word has_value_word
    has_attribute_word has_word has_kept_word has_string has_piece is_piece is_string starts first_fault
values_first_kept u seen q t cut e =
    either_second (Whole 0 (2 ^ 32 - 1) ⇒ Name ⇒ grammar.entries) (Name ⇒ grammar.kept_rest) q seen t cut
    ((begins_whole 0 (2 ^ 32 - 1) _).stops t seen (name_is_no_number t e)) refl
    ∙ plain_token Name (grammar.kept_rest then q) seen t cut (rw e refl)
    ∙ sym (piece_more q seen t cut (name_is_piece t e))

values_first_plain : (u : Token) (seen : Seen) (q : Pattern) (t : Token) (cut : Cut) → has_name t ≡ false
    → first_fault (grammar.statement then q) seen (worded u (codes "VAL_") ▸ (t ▸ cut))
    ≡ first_fault (plain_values then q) seen (worded u (codes "VAL_") ▸ (t ▸ cut))
unfolding statement_into object_into value_row_into attribute_row_into begins_kept kept_fits has_object_word has_value_word
    has_attribute_word has_word has_kept_word has_string has_piece is_piece is_string starts first_fault
values_first_plain u seen q t cut e =
    either_last (Whole 0 (2 ^ 32 - 1) ⇒ Name ⇒ grammar.entries) (Name ⇒ grammar.kept_rest) q seen t cut
    (no_token Name grammar.kept_rest seen t (rw e refl)) refl refl

values_case : (u : Token) → AgreesFor u (codes "VAL_")
unfolding statement_into object_into value_row_into attribute_row_into begins_kept kept_fits has_object_word has_value_word
    has_attribute_word has_word has_kept_word has_name has_string has_piece is_piece is_string starts first_fault
values_case u d seen has q (End at) = (values_more d seen has).follows q (worded u (codes "VAL_") ▸ End at)
values_case u d seen has q (Fault at) = (values_more d seen has).follows q (worded u (codes "VAL_") ▸
    Fault at)
values_case u d seen has q (t ▸ cut) =
    let first = worded u (codes "VAL_") in
    elim (cases_Bool (has_name t)) [
      | inl name ↦ rw (values_kept u d t cut name, values_first_kept u seen q t cut name)
          ((kept_more d seen has).follows q (first ▸ (t ▸ cut)))
      | inr none ↦ rw (values_plain u d t cut none, values_first_plain u seen q t cut none)
          ((values_more d seen has).follows q (first ▸ (t ▸ cut)))
    ]

-- ---- attributes

no_string : (p : Pattern) (seen : Seen) (t : Token) (cut : Cut) → has_string t ≡ false → first_fault (String ⇒ p) seen (t ▸ cut)
    ≡ Some (fault_in t.line causes.Statement)
unfolding first_fault
no_string p seen t cut e = rw e refl

abbrev after_name : Pattern
after_name = grammar.target then (grammar.given then grammar.statement_end)

abbrev ev_kept : Pattern
ev_kept = Word (codes "EV_") ⇒ grammar.kept_rest

attribute_short : (u : Token) (d : Database) (t : Token) (rest : Cut) → has_string t ≡ true
    → ((t3 : Token) (cut : Cut) → rest ≡ (t3 ▸ cut) → bytes_eq (codes "EV_") t3.bytes ≡ false)
    → statement_into d (worded u (codes "BA_") ▸ (t ▸ rest))
    ≡ record_into Attributes d (worded u (codes "BA_") ▸ (t ▸ rest))
unfolding statement_into object_into value_row_into attribute_row_into begins_kept kept_fits has_object_word has_value_word
    has_attribute_word has_word has_kept_word has_name has_string has_piece is_piece starts first_fault
attribute_short u d t (End at) e none = rw e refl
attribute_short u d t (Fault at) e none = rw e refl
attribute_short u d t (t3 ▸ cut) e none = rw (e, none t3 cut refl) refl

-- after the name the pattern is that of the plain attribute
attribute_first : (u : Token) (seen : Seen) (q : Pattern) (t : Token) (rest : Cut) → has_string t ≡ true
    → first_fault (Either ev_kept after_name q) seen rest ≡ first_fault (after_name then q) seen rest
    → first_fault (grammar.statement then q) seen (worded u (codes "BA_") ▸ (t ▸ rest))
    ≡ first_fault (plain_attribute then q) seen (worded u (codes "BA_") ▸ (t ▸ rest))
unfolding statement_into object_into value_row_into attribute_row_into begins_kept kept_fits has_object_word has_value_word
    has_attribute_word has_word has_kept_word has_name has_piece is_piece is_string starts first_fault
attribute_first u seen q t rest e following =
    plain_token String (Either ev_kept after_name q) seen t rest (rw e refl) ∙ following
    ∙ sym (plain_token String (after_name then q) seen t rest (rw e refl))

attribute_no_name : (u : Token) (seen : Seen) (q : Pattern) (t : Token) (rest : Cut) → has_string t ≡ false
    → first_fault (grammar.statement then q) seen (worded u (codes "BA_") ▸ (t ▸ rest))
    ≡ first_fault (plain_attribute then q) seen (worded u (codes "BA_") ▸ (t ▸ rest))
unfolding statement_into object_into value_row_into attribute_row_into begins_kept kept_fits has_object_word has_value_word
    has_attribute_word has_word has_kept_word has_name has_piece is_piece is_string starts first_fault
attribute_no_name u seen q t rest e = no_string (Either ev_kept after_name q) seen t rest e
    ∙ sym (no_string (after_name then q) seen t rest e)

attribute_first_kept : (u : Token) (seen : Seen) (q : Pattern) (t : Token) (u3 : Token) (cut : Cut)
    → has_string t ≡ true
    → first_fault (grammar.statement then q) seen (worded u (codes "BA_") ▸
    (t ▸ (worded u3 (codes "EV_") ▸ cut)))
    ≡ first_fault (grammar.kept_rest then q) seen (worded u (codes "BA_") ▸
    (t ▸ (worded u3 (codes "EV_") ▸ cut)))
unfolding statement_into object_into value_row_into attribute_row_into begins_kept kept_fits has_object_word has_value_word
    has_attribute_word has_word has_kept_word has_name has_piece is_piece is_string is_name is_keyword starts first_fault
attribute_first_kept u seen q t u3 cut e =
    plain_token String (Either ev_kept after_name q) seen t (worded u3 (codes "EV_") ▸ cut) (rw e refl)
    ∙ sym (piece_more q seen t (worded u3 (codes "EV_") ▸ cut) (string_is_piece t e))

other_word : (t : Token) → bytes_eq (codes "EV_") t.bytes ≡ false → has_word (codes "EV_") t ≡ false
unfolding has_word
other_word t differ = not_same (codes "EV_") t.bytes differ

attribute_named : (u : Token) (d : Database) (seen : Seen) → Counted d seen → (q : Pattern) (t : Token)
    → has_string t ≡ true → (rest : Cut)
    → Follows Counted (statement_into d (worded u (codes "BA_") ▸ (t ▸ rest))) (first_fault q)
    (first_fault (grammar.statement then q) seen (worded u (codes "BA_") ▸ (t ▸ rest)))
attribute_named u d seen has q t e (End at) =
    rw (
      attribute_short u d t (End at) e (λ t3 cut is. absurd cc),
      attribute_first u seen q t (End at) e
          (either_end ev_kept after_name q seen at refl),
    )
    ((attribute_more d seen has).follows q (worded u (codes "BA_") ▸ (t ▸ End at)))
attribute_named u d seen has q t e (Fault at) =
    rw (
      attribute_short u d t (Fault at) e (λ t3 cut is. absurd cc),
      attribute_first u seen q t (Fault at) e
          (either_fault ev_kept after_name q seen at),
    )
    ((attribute_more d seen has).follows q (worded u (codes "BA_") ▸ (t ▸ Fault at)))
attribute_named u d seen has q t e (t3 ▸ cut) =
    let first = worded u (codes "BA_") in
    elim (cases_Bool (bytes_eq (codes "EV_") t3.bytes)) [
      | inl same ↦
          subst (λ bytes. Follows Counted (statement_into d (first ▸ (t ▸ (worded t3 bytes ▸ cut))))
          (first_fault q) (first_fault (grammar.statement then q) seen
          (first ▸ (t ▸ (worded t3 bytes ▸ cut)))))
          ((bytes_eq-Decides (codes "EV_") t3.bytes).0 same)
          (rw (
            attribute_kept u d seen has q t e t3 cut,
            attribute_first_kept u seen q t t3 cut e,
          )
          ((kept_more d seen has).follows q (first ▸ (t ▸ (worded t3 (codes "EV_") ▸ cut)))))
      | inr differ ↦
          (let here : has_word (codes "EV_") t3 ≡ false = other_word t3 differ in
          rw (
            attribute_short u d t (t3 ▸ cut) e (only t3 cut differ),
            attribute_first u seen q t (t3 ▸ cut) e (either_second ev_kept after_name q seen t3 cut
                (no_token (Word (codes "EV_")) grammar.kept_rest seen t3 (rw here refl)) refl),
          )
          ((attribute_more d seen has).follows q (first ▸ (t ▸ (t3 ▸ cut)))))
    ]
  where
    same_token : (t3 t' : Token) (cut cut' : Cut) → (t3 ▸ cut) ≡ (t' ▸ cut') → t3 ≡ t'
    same_token t3 t' cut cut' is = cc

    only : (t3 : Token) (cut : Cut) → bytes_eq (codes "EV_") t3.bytes ≡ false → (t' : Token) (cut' : Cut) → (t3 ▸ cut) ≡ (t' ▸ cut')
        → bytes_eq (codes "EV_") t'.bytes ≡ false
    only t3 cut differ t' cut' is = subst (λ (t : Token). bytes_eq (codes "EV_") t.bytes ≡ false) (same_token t3 t' cut cut' is)
        differ

attribute_case : (u : Token) → AgreesFor u (codes "BA_")
unfolding statement_into object_into value_row_into attribute_row_into begins_kept kept_fits has_object_word has_value_word
    has_attribute_word has_word has_kept_word has_name has_string has_piece is_piece is_string starts first_fault
attribute_case u d seen has q (End at) = (attribute_more d seen has).follows q (worded u (codes "BA_") ▸
    End at)
attribute_case u d seen has q (Fault at) = (attribute_more d seen has).follows q (worded u (codes "BA_") ▸
    Fault at)
attribute_case u d seen has q (t ▸ cut) =
    elim (cases_Bool (has_string t)) [
      | inl name ↦ attribute_named u d seen has q t name cut
      | inr none ↦ rw (attribute_ends u d t cut none, attribute_no_name u seen q t cut none)
          ((attribute_more d seen has).follows q (worded u (codes "BA_") ▸ (t ▸ cut)))
    ]

-- ---- all statements

-- the same of each of these words
abbrev ForAll : (List ℕ → Type 0) → List (List ℕ) → Type 0
ForAll P [] = Unit {0}
ForAll P (word ∷ words) = P word × ForAll P words

one_of : (P : List ℕ → Type 0) (bytes : List ℕ) (words : List (List ℕ)) → list_any (bytes_eq bytes) words ≡ true → ForAll P words
    → P bytes
one_of P bytes [] e all = absurd cc
one_of P bytes (word ∷ words) e all = elim (cases_Bool (bytes_eq bytes word)) [
  | inl same ↦ subst P (sym ((bytes_eq-Decides bytes word).0 same)) all.0
  | inr differ ↦ one_of P bytes words (rest (bytes_eq bytes word) (list_any (bytes_eq bytes) words) differ e) all.1
]
  where
    rest : (x y : Bool) → x ≡ false → (x || y) ≡ true → y ≡ true
    rest true y e f = absurd cc
    rest false y e f = f

either_true : (x y : Bool) → (x || y) ≡ true → (x ≡ true) ⊎ (y ≡ true)
either_true true y e = inl refl
either_true false y e = inr e

kept_cases : (u : Token) → ForAll (AgreesFor u) kept_words
kept_cases u = (
  kept_bo_tx_bu u,
  (
    kept_ev u,
    (
      kept_envvar_data u,
      (
        kept_ev_data u,
        (
          kept_sig_group u,
          (
            kept_sgtype u,
            (
              kept_sgtype_val u,
              (
                kept_sig_type_ref u,
                (
                  kept_sigtype_valtype u,
                  (
                    kept_ba_def_sgtype u,
                    (
                      kept_ba_sgtype u,
                      (
                        kept_ba_def_rel u,
                        (
                          kept_ba_rel u,
                          (
                            kept_ba_def_def_rel u,
                            (kept_cat_def u, (kept_cat u, tt)),
                          ),
                        ),
                      ),
                    ),
                  ),
                ),
              ),
            ),
          ),
        ),
      ),
    ),
  ),
)

pub statement_agrees : (d : Database) (seen : Seen) (q : Pattern) (t : Token) (cut : Cut) → Counted d seen → begins_statement t
    ≡ true
    → Follows Counted (statement_into d (t ▸ cut)) (first_fault q) (first_fault (grammar.statement then q) seen (t ▸ cut))
unfolding begins_statement has_object_word has_value_word has_attribute_word has_kept_word
statement_agrees d seen q t cut has e =
    elim (either_true (list_any (bytes_eq t.bytes) object_words) _ e) [
      | inl object ↦ one_of (AgreesFor t) t.bytes object_words object (
        symbols_case t,
        (nodes_case t, (message_case t, tt)),
      ) d seen has q cut
      | inr e2 ↦ elim (either_true (list_any (bytes_eq t.bytes) value_words) _ e2) [
        | inl row ↦ one_of (AgreesFor t) t.bytes value_words row (
          table_case t,
          (values_case t, (float_case t, (mux_case t, tt))),
        ) d seen has q cut
        | inr e3 ↦ elim (either_true (list_any (bytes_eq t.bytes) attribute_words) (list_any (bytes_eq t.bytes) kept_words) e3) [
          | inl note ↦ one_of (AgreesFor t) t.bytes attribute_words note (
            comment_case t,
            (definition_case t, (default_case t, (attribute_case t, tt))),
          ) d seen has q cut
          | inr kept ↦ one_of (AgreesFor t) t.bytes kept_words kept (kept_cases t) d seen has q cut
        ]
      ]
    ]
