-- Reading a whole text meets the first fault of the pattern of texts.
use Rattle.std.proofs.Common.{◌≡◌, ℕ, Bool, true, false, ◌||◌, List, Option, Result, Ok, Err, refl, sym, ap, subst}
use Rattle.std.specs.Prelude.{codes}
use Rattle.std.specs.Str.{bytes_eq}
use Rattle.dbc_records.specs.Databases.{Database}
use Rattle.dbc_tokens.specs.declared.fault.ReadFault.{ReadFault}
use Rattle.dbc_tokens.specs.Tokens.{Cut, End, Fault, ◌▸◌}
use Rattle.dbc_reader.specs.Classes.{has_word, has_number, has_kept_word}
use Rattle.dbc_reader.specs.Pattern.{Word, Mark, String, Number, KeptWord, Seen, Done, ◌⇒◌, Either, Repeat, ◌then◌, first_fault}
use Rattle.dbc_reader.specs.Pattern.{nothing_seen}
use Rattle.dbc_reader.specs.Grammar as grammar
use Rattle.dbc_reader.specs.inner.Readers.{Reader, and_then, value, end_at}
use Rattle.dbc_reader.specs.inner.Databases.{has_object_word, has_value_word, has_attribute_word, begins_statement}
use Rattle.dbc_reader.specs.inner.Databases.{statement_into, statements_into, version_at, timing_numbers_at, timing_at}
use Rattle.dbc_reader.specs.inner.Databases.{timed_into, empty_database, database_at}
use Rattle.dbc_reader.proofs.Agrees.{Judges}
use Rattle.dbc_reader.proofs.Rounds.Statements.{statement_shrinks}
use Rattle.dbc_reader.proofs.Agrees.{Agrees, Same, Follows, Begins, agree_then, agree_value, agree_choose, agree_repeated}
use Rattle.dbc_reader.proofs.Agrees.{begins_one, begins_either, begins_as}
use Rattle.dbc_reader.proofs.Agrees.Kinds.{begins_word, begins_number, plain_class, word_agrees, mark_agrees, text_agrees}
use Rattle.dbc_reader.proofs.Agrees.Kinds.{number_agrees}
use Rattle.dbc_reader.proofs.Agrees.Databases.{Counted, begins_objects, statement_agrees}

-- ---- statements

begins_rows : Begins (λ t. has_word (codes "VAL_TABLE_") t || (has_word (codes "VAL_") t || (has_word (codes "SIG_VALTYPE_")
    t || has_word (codes "SG_MUL_VAL_") t))) grammar.rows
begins_rows = begins_either Done (begins_word _ _) (begins_either Done (begins_word _ _) (begins_either Done (begins_word _ _)
    (begins_word _ _)))

begins_notes : Begins (λ t. has_word (codes "CM_") t || (has_word (codes "BA_DEF_") t || (has_word (codes "BA_DEF_DEF_")
    t || has_word (codes "BA_") t))) grammar.notes
begins_notes = begins_either Done (begins_word _ _) (begins_either Done (begins_word _ _) (begins_either Done (begins_word _ _)
    (begins_word _ _)))

begins_kept_one : Begins has_kept_word grammar.kept
begins_kept_one = begins_one has_kept_word KeptWord _ (λ t seen. plain_class (has_kept_word t) seen)

any_of_three : (a b c : Bool) → (a || (b || c)) ≡ (a || (b || (c || false)))
any_of_three true b c = refl
any_of_three false true c = refl
any_of_three false false true = refl
any_of_three false false false = refl

any_of_four : (a b c d : Bool) → (a || (b || (c || d))) ≡ (a || (b || (c || (d || false))))
any_of_four true b c d = refl
any_of_four false b c d = any_of_three b c d

begins_a_statement : Begins begins_statement grammar.statement
unfolding begins_statement has_object_word has_value_word has_attribute_word has_word
begins_a_statement =
    begins_as (λ t. rw (
      any_of_three (bytes_eq t.bytes (codes "NS_")) (bytes_eq t.bytes (codes "BU_")) (bytes_eq t.bytes (codes "BO_")),
      any_of_four (bytes_eq t.bytes (codes "VAL_TABLE_")) (bytes_eq t.bytes (codes "VAL_"))
          (bytes_eq t.bytes (codes "SIG_VALTYPE_")) (bytes_eq t.bytes (codes "SG_MUL_VAL_")),
      any_of_four (bytes_eq t.bytes (codes "CM_")) (bytes_eq t.bytes (codes "BA_DEF_")) (bytes_eq t.bytes (codes "BA_DEF_DEF_"))
          (bytes_eq t.bytes (codes "BA_")),
    ) refl)
    (begins_either Done begins_objects (begins_either Done begins_rows (begins_either Done begins_notes begins_kept_one)))

statements_agree : (d : Database) (seen : Seen) → Counted d seen → Agrees seen (statements_into d) (Repeat grammar.statement Done)
    Counted
unfolding statements_into
statements_agree d seen has = agree_repeated begins_statement statement_into statement_shrinks grammar.statement begins_a_statement
    Counted statement_agrees d seen has

-- ---- texts

version_agrees : (seen : Seen) → Agrees seen version_at (Either (Word (codes "VERSION") ⇒ String ⇒ Done) Done Done) (Same seen)
unfolding version_at
version_agrees seen =
    agree_choose (has_word (codes "VERSION")) (begins_word (codes "VERSION") _) (agree_then (word_agrees seen (codes "VERSION"))
    λ _. text_agrees seen) (agree_value refl)

timing_numbers_agree : (seen : Seen) → Agrees seen timing_numbers_at (Number false ⇒ Mark 58 ⇒ Number false ⇒ Mark 44 ⇒ Number false
    ⇒ Done) (Same seen)
unfolding timing_numbers_at
timing_numbers_agree seen =
    agree_then (number_agrees seen false) λ rate. agree_then (mark_agrees seen 58) λ _. agree_then (number_agrees seen false)
    λ first.
    agree_then (mark_agrees seen 44) λ _. agree_then (number_agrees seen false) λ second. agree_value refl

timing_agrees : (seen : Seen) → Agrees seen timing_at grammar.timing (Same seen)
unfolding timing_at
timing_agrees seen =
    agree_then (word_agrees seen (codes "BS_")) λ _. agree_then (mark_agrees seen 58) λ _.
    agree_choose (has_number false) (begins_number false _) (timing_numbers_agree seen) (agree_value refl)

timed_agrees : (d : Database) (seen : Seen) → Counted d seen
    → Agrees seen (timed_into d) (Either (grammar.timing then Repeat grammar.statement Done) Done Done) Counted
unfolding timed_into
timed_agrees d seen has =
    agree_choose (has_word (codes "BS_")) (begins_word (codes "BS_") _)
    (agree_then (timing_agrees seen) λ timing. statements_agree (record d { bit_timing = timing }) seen
    (record { count = has.count })) (agree_value has)

pub end_judges : {A : Type 0} (a : A) (seen : Seen) (rest : Cut) → Judges (and_then (end_at rest) (λ u. value a))
    (first_fault Done seen rest)
unfolding first_fault end_at
end_judges a seen (End line) = refl
end_judges a seen (Fault line) = refl
end_judges a seen (t ▸ rest) = refl

pub bind_judges : {A B : Type 0} (post : A → Seen → Type 0) (f : A → Reader B) (go : Seen → Cut → Option ReadFault)
    (o : Result (A × Cut) ReadFault) (total : Option ReadFault) → Follows post o go total
    → ((a : A) (s : Seen) (rest : Cut) → post a s → Judges (f a rest) (go s rest)) → Judges (and_then o f) total
bind_judges post f go (Ok x) total h k = subst (λ t. Judges (f x.0 x.1) t) (sym h.2) (k x.0 h.0 x.1 h.1)
bind_judges post f go (Err e) total h k = h

begun_empty : (version : List ℕ) (seen : Seen) → seen ≡ nothing_seen → Counted (empty_database version) seen
begun_empty version seen is = record { count = ap (λ (s : Seen). s.messages) is }

pub database_judges : (cut : Cut) → Judges (database_at cut) (first_fault grammar.text nothing_seen cut)
unfolding database_at
database_judges cut =
    let timed = Either (grammar.timing then Repeat grammar.statement Done) Done Done in
    bind_judges (Same nothing_seen) _ (first_fault (Repeat grammar.statement timed)) (version_at cut) _
    ((version_agrees nothing_seen).follows (Repeat grammar.statement timed) cut)
    (λ version s rest is. bind_judges Counted _ (first_fault timed) (statements_into (empty_database version) rest) _
    ((statements_agree (empty_database version) s (begun_empty version s is)).follows timed rest)
    (λ before s' rest' has. bind_judges Counted _ (first_fault Done) (timed_into before rest') _
    ((timed_agrees before s' has).follows Done rest')
    (λ all s'' end now. end_judges all s'' end)))
