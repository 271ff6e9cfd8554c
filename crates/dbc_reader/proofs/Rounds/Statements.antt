-- Each statement takes tokens, and what one statement more does in the loop over them.
use Rattle.std.proofs.Common.{◌≡◌, ℕ, ◌<◌, true, false, List, [], Option, None, Result, Ok}
use Rattle.std.specs.Prelude.{codes, nat_lt}
use Rattle.dbc_records.specs.Databases.{Database}
use Rattle.dbc_values.specs.Decimals.{Decimal}
use Rattle.dbc_tokens.specs.declared.fault.Cause.TheVariants as causes
use Rattle.dbc_tokens.specs.declared.fault.ReadFault.{ReadFault}
use Rattle.dbc_reader.specs.inner.Databases.{record_into}
use Rattle.dbc_reader.specs.declared.stopped.Stopped.{Stopped}
use Rattle.dbc_tokens.specs.Tokens.{Cut}
use Rattle.dbc_reader.specs.Classes.{has_word}
use Rattle.dbc_reader.specs.inner.Readers.{starts, size, Fails}
use Rattle.dbc_reader.specs.inner.Messages.{begun, begin_message_at, head_at, message_at}
use Rattle.dbc_reader.specs.inner.Tables.{table_at, values_at, colon_at, float_at, ranges_at, mux_at}
use Rattle.dbc_reader.specs.inner.Attributes.{node_target_at, message_target_at, signal_target_at, target_at, comment_at}
use Rattle.dbc_reader.specs.inner.Attributes.{object_at, limits_at, string_form_at, enumeration_at, form_at, definition_at}
use Rattle.dbc_reader.specs.inner.Attributes.{value_at, default_at, attribute_at}
use Rattle.dbc_reader.specs.inner.Databases.{symbols_into, nodes_into, kept_at}
use Rattle.dbc_reader.specs.inner.Databases.{object_into, value_row_into, attribute_row_into, begins_statement, statement_into}
use Rattle.dbc_reader.specs.inner.Databases.{statements_into, timing_numbers_at, timing_at}
use Rattle.dbc_reader.specs.inner.Keywords.{keyword_at}
use Rattle.dbc_reader.proofs.Facts.Keywords.{no_statement_begins}
use Rattle.dbc_reader.proofs.Rounds.{Shrinks, Keeps, one_shrinks, value_keeps, keeps, bind_shrinks, bind_keeps, after_shrinks}
use Rattle.dbc_reader.proofs.Rounds.{choose_shrinks, choose_by_shrinks, choose_keeps, goes_on, fails, ends}
use Rattle.dbc_reader.proofs.Rounds.Lists.{word_shrinks, mark_shrinks, name_shrinks, text_shrinks, whole_shrinks, id_shrinks}
use Rattle.dbc_reader.proofs.Rounds.Lists.{decimal_shrinks, range_shrinks, names_keep, symbols_keep, pieces_keep, entries_keep}
use Rattle.dbc_reader.proofs.Rounds.Lists.{texts_keep, ranges_keep, number_shrinks}
use Rattle.dbc_reader.proofs.Rounds.Signals.{signals_keep}

-- ---- messages

begin_shrinks : (count : ℕ) → Shrinks (begin_message_at count)
unfolding begin_message_at
begin_shrinks count = one_shrinks (λ t. begun (has_word (codes "BO_") t) (nat_lt count 65535) causes.MessagesFull)

pub head_shrinks : (count : ℕ) → Shrinks (head_at count)
unfolding head_at
head_shrinks count =
    bind_shrinks (begin_shrinks count) λ _. bind_keeps (keeps id_shrinks) λ number. bind_keeps (keeps name_shrinks) λ name.
    bind_keeps (keeps (mark_shrinks 58)) λ _.
    bind_keeps (keeps (whole_shrinks _ _)) λ size. bind_keeps (keeps name_shrinks) λ sender. value_keeps _

message_shrinks : (count : ℕ) → Shrinks (message_at count)
unfolding message_at
message_shrinks count = bind_shrinks (head_shrinks count) λ head. bind_keeps (signals_keep []) λ signals. value_keeps _

-- ---- entries of values

table_shrinks : Shrinks table_at
unfolding table_at
table_shrinks = bind_shrinks (word_shrinks _) λ _. bind_keeps (keeps name_shrinks) λ name. bind_keeps (entries_keep []) λ entries.
    bind_keeps (keeps (mark_shrinks 59)) λ _. value_keeps _

values_shrinks : Shrinks values_at
unfolding values_at
values_shrinks =
    bind_shrinks (word_shrinks _) λ _. bind_keeps (keeps id_shrinks) λ number. bind_keeps (keeps name_shrinks) λ signal. bind_keeps
    (entries_keep []) λ entries.
    bind_keeps (keeps (mark_shrinks 59)) λ _. value_keeps _

colon_keeps : Keeps colon_at
unfolding colon_at
colon_keeps = choose_keeps _ (keeps (mark_shrinks 58)) (value_keeps _)

float_shrinks : Shrinks float_at
unfolding float_at
float_shrinks =
    bind_shrinks (word_shrinks _) λ _. bind_keeps (keeps id_shrinks) λ number. bind_keeps (keeps name_shrinks) λ signal. bind_keeps
    colon_keeps λ _.
    bind_keeps (keeps (whole_shrinks _ _)) λ kind. bind_keeps (keeps (mark_shrinks 59)) λ _. value_keeps _

ranges_shrink_all : Shrinks ranges_at
unfolding ranges_at
ranges_shrink_all = bind_shrinks range_shrinks λ range. ranges_keep _

mux_shrinks : Shrinks mux_at
unfolding mux_at
mux_shrinks =
    bind_shrinks (word_shrinks _) λ _. bind_keeps (keeps id_shrinks) λ number. bind_keeps (keeps name_shrinks) λ signal. bind_keeps
    (keeps name_shrinks) λ switch.
    bind_keeps (keeps ranges_shrink_all) λ ranges. bind_keeps (keeps (mark_shrinks 59)) λ _. value_keeps _

-- ---- comments and attributes

node_target_shrinks : Shrinks node_target_at
unfolding node_target_at
node_target_shrinks = bind_shrinks (word_shrinks _) λ _. bind_keeps (keeps name_shrinks) λ name. value_keeps _

message_target_shrinks : Shrinks message_target_at
unfolding message_target_at
message_target_shrinks = bind_shrinks (word_shrinks _) λ _. bind_keeps (keeps id_shrinks) λ number. value_keeps _

signal_target_shrinks : Shrinks signal_target_at
unfolding signal_target_at
signal_target_shrinks = bind_shrinks (word_shrinks _) λ _. bind_keeps (keeps id_shrinks) λ number. bind_keeps (keeps name_shrinks)
    λ name. value_keeps _

target_keeps : Keeps target_at
unfolding target_at
target_keeps = choose_keeps _ (keeps node_target_shrinks) (choose_keeps _ (keeps message_target_shrinks)
    (choose_keeps _ (keeps signal_target_shrinks) (value_keeps _)))

comment_shrinks : Shrinks comment_at
unfolding comment_at
comment_shrinks = bind_shrinks (word_shrinks _) λ _. bind_keeps target_keeps λ target. bind_keeps (keeps text_shrinks) λ text.
    bind_keeps (keeps (mark_shrinks 59)) λ _. value_keeps _

object_keeps : Keeps object_at
unfolding object_at
object_keeps =
    choose_keeps _ (bind_keeps (keeps (word_shrinks _)) λ _. value_keeps _)
    (choose_keeps _ (bind_keeps (keeps (word_shrinks _)) λ _. value_keeps _)
    (choose_keeps _ (bind_keeps (keeps (word_shrinks _)) λ _. value_keeps _)
    (choose_keeps _ (bind_keeps (keeps (word_shrinks _)) λ _. value_keeps _) (value_keeps _))))

limits_keep : Keeps limits_at
unfolding limits_at
limits_keep = choose_keeps _ (bind_keeps (keeps decimal_shrinks) λ minimum. bind_keeps (keeps decimal_shrinks) λ maximum.
    value_keeps _) (value_keeps _)

string_form_shrinks : Shrinks string_form_at
unfolding string_form_at
string_form_shrinks = bind_shrinks (word_shrinks _) λ _. value_keeps _

enumeration_shrinks : Shrinks enumeration_at
unfolding enumeration_at
enumeration_shrinks = bind_shrinks (word_shrinks _) λ _. bind_keeps (keeps text_shrinks) λ text. bind_keeps (texts_keep _) λ texts.
    value_keeps _

form_shrinks : Shrinks form_at
unfolding form_at
form_shrinks =
    choose_shrinks _ (bind_shrinks (word_shrinks _) λ _. bind_keeps limits_keep λ limits. value_keeps _)
    (choose_shrinks _ (bind_shrinks (word_shrinks _) λ _. bind_keeps limits_keep λ limits. value_keeps _)
    (choose_shrinks _ (bind_shrinks (word_shrinks _) λ _. bind_keeps limits_keep λ limits. value_keeps _)
    (choose_shrinks _ string_form_shrinks enumeration_shrinks)))

definition_shrinks : Shrinks definition_at
unfolding definition_at
definition_shrinks =
    bind_shrinks (word_shrinks _) λ _. bind_keeps object_keeps λ object. bind_keeps (keeps text_shrinks) λ name. bind_keeps
    (keeps form_shrinks) λ form.
    bind_keeps (keeps (mark_shrinks 59)) λ _. value_keeps _

value_shrinks : Shrinks value_at
unfolding value_at
value_shrinks = choose_shrinks _ (bind_shrinks text_shrinks λ text. value_keeps _) (bind_shrinks decimal_shrinks λ number.
    value_keeps _)

default_shrinks : Shrinks default_at
unfolding default_at
default_shrinks = bind_shrinks (word_shrinks _) λ _. bind_keeps (keeps text_shrinks) λ name. bind_keeps (keeps value_shrinks)
    λ given. bind_keeps (keeps (mark_shrinks 59)) λ _. value_keeps _

attribute_shrinks : Shrinks attribute_at
unfolding attribute_at
attribute_shrinks =
    bind_shrinks (word_shrinks _) λ _. bind_keeps (keeps text_shrinks) λ name. bind_keeps target_keeps λ target. bind_keeps
    (keeps value_shrinks) λ given.
    bind_keeps (keeps (mark_shrinks 59)) λ _. value_keeps _

-- ---- statements

kept_shrinks : Shrinks kept_at
unfolding kept_at
kept_shrinks = after_shrinks (pieces_keep []) λ tokens. bind_shrinks (mark_shrinks 59) λ _. value_keeps _

object_shrinks : (d : Database) → Shrinks (object_into d)
unfolding object_into symbols_into nodes_into record_into
object_shrinks d =
    choose_shrinks _ (bind_shrinks (word_shrinks _) λ _. bind_keeps (keeps (mark_shrinks 58)) λ _. bind_keeps (symbols_keep _)
    λ symbols. value_keeps _)
    (choose_shrinks _ (bind_shrinks (word_shrinks _) λ _. bind_keeps (keeps (mark_shrinks 58)) λ _. bind_keeps (names_keep _)
    λ nodes. value_keeps _)
    (bind_shrinks (message_shrinks _) λ message. value_keeps _))

value_row_shrinks : (d : Database) → Shrinks (value_row_into d)
unfolding value_row_into record_into
value_row_shrinks d =
    choose_shrinks _ (bind_shrinks table_shrinks λ row. value_keeps _)
    (choose_shrinks _ (bind_shrinks values_shrinks λ row. value_keeps _)
    (choose_shrinks _ (bind_shrinks float_shrinks λ row. value_keeps _) (bind_shrinks mux_shrinks λ row. value_keeps _)))

attribute_row_shrinks : (d : Database) → Shrinks (attribute_row_into d)
unfolding attribute_row_into record_into
attribute_row_shrinks d =
    choose_shrinks _ (bind_shrinks comment_shrinks λ row. value_keeps _)
    (choose_shrinks _ (bind_shrinks definition_shrinks λ row. value_keeps _)
    (choose_shrinks _ (bind_shrinks default_shrinks λ row. value_keeps _) (bind_shrinks attribute_shrinks λ row. value_keeps _)))

pub statement_shrinks : (d : Database) → Shrinks (statement_into d)
unfolding statement_into record_into
statement_shrinks d =
    choose_by_shrinks _ (bind_shrinks kept_shrinks λ row. value_keeps _) (choose_shrinks _ (object_shrinks d)
    (choose_shrinks _ (value_row_shrinks d) (attribute_row_shrinks d)))

pub statements_on : (d new : Database) (cut rest : Cut) (total : Result (Database × Cut) ReadFault) → starts begins_statement cut
    ≡ true → statement_into d cut ≡ Ok (new, rest) → statements_into d cut ≡ total → statements_into new rest ≡ total
unfolding statements_into
statements_on d new cut rest total t h so_far = goes_on begins_statement statement_into statement_shrinks d new cut rest total t h
    so_far

pub statements_fail : (e : Stopped) (d : Database) (cut : Cut) (total : Result (Database × Cut) ReadFault)
    → starts begins_statement cut ≡ true → Fails e (statement_into d cut) → statements_into d cut ≡ total → Fails e total
unfolding statements_into
statements_fail e d cut total t h so_far = fails begins_statement statement_into statement_shrinks e d cut total t h so_far

pub statements_end : (d : Database) (cut : Cut) (total : Result (Database × Cut) ReadFault) → starts begins_statement cut ≡ false
    → statements_into d cut ≡ total → total ≡ Ok (d, cut)
unfolding statements_into
statements_end d cut total t so_far = ends begins_statement statement_into statement_shrinks d cut total t so_far

-- if there is no keyword, the statements are over
pub statements_over : (d : Database) (cut : Cut) (total : Result (Database × Cut) ReadFault) → keyword_at cut ≡ None
    → statements_into d cut ≡ total → total ≡ Ok (d, cut)
statements_over d cut total none so_far = statements_end d cut total (no_statement_begins cut none) so_far

pub statements_less : (d new : Database) (cut rest : Cut) → statement_into d cut ≡ Ok (new, rest) → size rest < size cut
statements_less d new cut rest h = (statement_shrinks d).less cut (new, rest) h

-- ---- the bit timing

timing_shrinks : Shrinks timing_at
unfolding timing_at timing_numbers_at
timing_shrinks = bind_shrinks (word_shrinks _) λ _. bind_keeps (keeps (mark_shrinks 58)) λ _. choose_keeps _
    (bind_keeps (keeps (number_shrinks false)) λ rate. bind_keeps (keeps (mark_shrinks 58)) λ _.
    bind_keeps (keeps (number_shrinks false)) λ first. bind_keeps (keeps (mark_shrinks 44)) λ _.
    bind_keeps (keeps (number_shrinks false)) λ second. value_keeps _) (value_keeps _)

pub timing_less : (cut : Cut) (x : Option (List Decimal) × Cut) → timing_at cut ≡ Ok x → size x.1 < size cut
timing_less cut x e = timing_shrinks.less cut x e
