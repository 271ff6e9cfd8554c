-- Reading one statement meets the first fault of the pattern of one statement.
use Rattle.std.proofs.Common.{◌≡◌, Bool, true, false, cond, [], Ok, Err, refl}
use Rattle.std.specs.Prelude.{codes, nat_le, ◌+◌}
use Rattle.dbc_tokens.specs.declared.fault.Cause.TheVariants as causes
use Rattle.dbc_tokens.specs.Tokens.{Cut}
use Rattle.dbc_reader.specs.Classes.{has_word}
use Rattle.dbc_reader.specs.Pattern.{is_of_class, BeginsMessage, Seen, Done, first_fault, nothing_seen}
use Rattle.dbc_reader.specs.Grammar as grammar
use Rattle.dbc_reader.specs.inner.Tables.{values_at}
use Rattle.dbc_reader.specs.inner.Databases.{message_attribute_at, standalone_statement_at, statement_at}
use Rattle.dbc_reader.proofs.Agrees.{Judges}
use Rattle.dbc_reader.proofs.Agrees.{Agrees, Same, Any, Begins, agree_bind, agree_then, agree_value, agree_choose, begins_one}
use Rattle.dbc_reader.proofs.Agrees.Kinds.{begins_word, word_agrees, mark_agrees, name_agrees, text_agrees, id_agrees}
use Rattle.dbc_reader.proofs.Agrees.Kinds.{entries_agree}
use Rattle.dbc_reader.proofs.Agrees.Rows.{table_agrees, mux_agrees, message_target_agrees, given_agrees}
use Rattle.dbc_reader.proofs.Agrees.Messages.{head_agrees, signal_agrees, begins_a_signal}
use Rattle.dbc_reader.proofs.Agrees.Texts.{bind_judges, end_judges}

-- ---- statements of their own

begins_a_head : Begins (has_word (codes "BO_")) grammar.head
begins_a_head = begins_one (has_word (codes "BO_")) BeginsMessage _ (λ t seen. counted_class (has_word (codes "BO_") t)
    (nat_le 65535 seen.messages) seen)
  where
    counted_class : (word full : Bool) (seen : Seen)
        → is_of_class (cond word (cond full (Err causes.MessagesFull) (Ok (record { messages = seen.messages + 1; signals = [] })))
        (Err causes.Statement)) ≡ word
    counted_class true true seen = refl
    counted_class true false seen = refl
    counted_class false full seen = refl

values_agrees : (seen : Seen) → Agrees seen values_at grammar.signal_values (Same seen)
unfolding values_at
values_agrees seen =
    agree_then (word_agrees seen (codes "VAL_")) λ _. agree_then (id_agrees seen) λ number. agree_then (name_agrees seen) λ signal.
    agree_then (entries_agree seen []) λ entries.
    agree_then (mark_agrees seen 59) λ _. agree_value refl

message_attribute_agrees : (seen : Seen) → Agrees seen message_attribute_at grammar.message_attribute (Same seen)
unfolding message_attribute_at
message_attribute_agrees seen =
    agree_then (word_agrees seen (codes "BA_")) λ _. agree_then (text_agrees seen) λ name. agree_then (message_target_agrees seen)
    λ target. agree_then (given_agrees seen) λ given.
    agree_then (mark_agrees seen 59) λ _. agree_value refl

-- ---- one statement

one_of_six_agrees : Agrees nothing_seen standalone_statement_at grammar.one_statement Any
unfolding standalone_statement_at
one_of_six_agrees =
    agree_choose (has_word (codes "BO_")) begins_a_head (agree_bind (head_agrees nothing_seen 0 refl) λ head s began.
    agree_value tt)
    (agree_choose (has_word (codes "SG_")) begins_a_signal (agree_bind (signal_agrees nothing_seen [] refl) λ signal s named.
    agree_value tt)
    (agree_choose (has_word (codes "VAL_TABLE_")) (begins_word (codes "VAL_TABLE_") _) (agree_then (table_agrees nothing_seen)
    λ row. agree_value tt)
    (agree_choose (has_word (codes "VAL_")) (begins_word (codes "VAL_") _) (agree_then (values_agrees nothing_seen) λ row.
    agree_value tt)
    (agree_choose (has_word (codes "SG_MUL_VAL_")) (begins_word (codes "SG_MUL_VAL_") _) (agree_then (mux_agrees nothing_seen)
    λ row. agree_value tt)
    (agree_then (message_attribute_agrees nothing_seen) λ row. agree_value tt)))))

pub statement_judges : (cut : Cut) → Judges (statement_at cut) (first_fault grammar.one_statement nothing_seen cut)
unfolding statement_at
statement_judges cut = bind_judges Any _ (first_fault Done) (standalone_statement_at cut) _ (one_of_six_agrees.follows Done cut)
    (λ statement seen rest now. end_judges statement seen rest)
