-- What is read of a text is what the text spells.
use Rattle.std.proofs.Common.{◌≡◌, ℕ, ◌⊎◌, List, Result, Ok, Err, sym, ap, subst, ◌∙◌, inl, inr}
use Rattle.dbc_records.specs.Databases.{Database}
use Rattle.dbc_tokens.specs.declared.fault.ReadFault.{ReadFault}
use Rattle.dbc_reader.specs.declared.statement.Statement.{Statement}
use Rattle.dbc_reader.specs.declared.stopped.Stopped.{Stopped}
use Rattle.dbc_reader.specs.declared.stopped.Stopped.TheVariants as stops
use Rattle.dbc_tokens.specs.Tokens.{Cut, End, HasTokens}
use Rattle.dbc_tokens.specs.inner.Scanner.{cut_of}
use Rattle.dbc_reader.specs.Forms.{◌▸▸◌}
use Rattle.dbc_reader.specs.Grammar as grammar
use Rattle.dbc_reader.proofs.Agrees.{Judges}
use Rattle.dbc_reader.specs.inner.Readers.{Fails, fault_of}
use Rattle.dbc_reader.specs.Pattern.{Pattern, first_fault, nothing_seen, memory_fault}
use Rattle.dbc_reader.specs.inner.Databases.{database_at, statement_at}
use Rattle.dbc_reader.specs.Texts.{HasDatabase, HasStatement, HasFirstFault}
use Rattle.dbc_tokens.proofs.CutLaws.{cut_is}
use Rattle.dbc_reader.proofs.Sound.Databases.{database_sound}
use Rattle.dbc_reader.proofs.Yields.Databases.{database_is_proper, statement_is_proper}
use Rattle.dbc_reader.proofs.Sound.Statements.{statement_sound}
use Rattle.dbc_reader.proofs.Agrees.Statements.{statement_judges}
use Rattle.dbc_reader.proofs.Agrees.Texts.{database_judges}

pub tokens_of_cut : (text : List ℕ) (cut : Cut) → cut_of 1 text ≡ cut → HasTokens 1 0 text cut
tokens_of_cut text cut same = subst (HasTokens 1 0 text) same (cut_is 1 text)

fault_found : {A : Type 0} (pattern : Pattern) (text : List ℕ) (fault : ReadFault) (read : Result (A × Cut) ReadFault)
    → Judges read (first_fault pattern nothing_seen (cut_of 1 text)) → read ≡ Err fault → HasFirstFault pattern text fault
fault_found {A} pattern text fault read judges e = (
  cut_of 1 text,
  cut_is 1 text,
  subst (λ (r : Result (A × Cut) ReadFault). Judges r (first_fault pattern nothing_seen (cut_of 1 text))) e judges,
)

pub database_read : (text : List ℕ) (database : Database) (rest : Cut) → database_at (cut_of 1 text) ≡ Ok (database, rest)
    → HasDatabase text database
database_read text database rest e =
    let found = database_sound (cut_of 1 text) database rest e (database_is_proper (cut_of 1 text) database rest e) in
    (found.0, found.1, tokens_of_cut text (found.0 ▸▸ End found.1) found.2, found.3)

pub database_refused : (text : List ℕ) (cut : Cut) (stopped : Stopped) (fault : ReadFault) → cut ≡ cut_of 1 text
    → Fails stopped (database_at cut) → fault ≡ fault_of stopped → (fault ≡ memory_fault) ⊎ HasFirstFault grammar.text text fault
database_refused text cut stops.Memory fault at fails is = inl is
database_refused text cut (stops.Fault met) fault at e is =
    inr (subst (HasFirstFault grammar.text text) (sym is) (fault_found grammar.text text met _ (database_judges (cut_of 1 text))
    (ap database_at (sym at) ∙ e)))

pub statement_read : (text : List ℕ) (statement : Statement) (rest : Cut) → statement_at (cut_of 1 text) ≡ Ok (statement, rest)
    → HasStatement text statement
statement_read text statement rest e =
    let found = statement_sound (cut_of 1 text) statement rest e (statement_is_proper (cut_of 1 text) statement rest e) in
    (found.0, found.1, tokens_of_cut text (found.0 ▸▸ End found.1) found.2, found.3)

pub statement_refused : (text : List ℕ) (cut : Cut) (stopped : Stopped) (fault : ReadFault) → cut ≡ cut_of 1 text
    → Fails stopped (statement_at cut) → fault ≡ fault_of stopped → (fault ≡ memory_fault)
    ⊎ HasFirstFault grammar.one_statement text fault
statement_refused text cut stops.Memory fault at fails is = inl is
statement_refused text cut (stops.Fault met) fault at e is =
    inr (subst (HasFirstFault grammar.one_statement text) (sym is) (fault_found grammar.one_statement text met _
    (statement_judges (cut_of 1 text)) (ap statement_at (sym at) ∙ e)))
