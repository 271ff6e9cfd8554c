-- Tokens have no first fault exactly when they spell something, and then they spell it alone.
pub mod OneReadings
pub mod FaultLines
use Rattle.std.proofs.Common.{◌≡◌, Option, Some, None, Result, Ok, Err, refl, sym, ap, subst, ◌∙◌}
use Rattle.dbc_tokens.specs.declared.fault.ReadFault.{ReadFault}
use Rattle.dbc_tokens.specs.Tokens.{Cut, End}
use Rattle.dbc_reader.specs.Pattern.{first_fault, nothing_seen}
use Rattle.dbc_reader.specs.Grammar as grammar
use Rattle.dbc_read.specs.Laws.{FaultOrDatabase, FaultOrStatement, OneDatabase, OneStatement}
use Rattle.dbc_reader.specs.inner.Databases.{database_at, statement_at}
use Rattle.dbc_reader.proofs.Rounds.{ok_is}
use Rattle.dbc_reader.proofs.Agrees.{Judges}
use Rattle.dbc_reader.proofs.Agrees.Texts.{database_judges}
use Rattle.dbc_reader.proofs.Agrees.Statements.{statement_judges}
use Rattle.dbc_reader.proofs.Yields.Databases.{database_is_proper, statement_is_proper}
use Rattle.dbc_reader.proofs.Sound.Databases.{database_sound}
use Rattle.dbc_reader.proofs.Sound.Statements.{statement_sound}
use Rattle.dbc_read.proofs.Takes.Databases.{database_again}
use Rattle.dbc_read.proofs.Takes.Alone.{statement_again}

abbrev read : {A : Type 0} → A → Cut → Result (A × Cut) ReadFault
read a rest = Ok (a, rest)

-- a reading that met no fault has read something
was_read : {A : Type 0} (o : Result (A × Cut) ReadFault) (fault : Option ReadFault) → Judges o fault → fault ≡ None → (a : A)
    × (rest : Cut) × (o ≡ read a rest)
was_read (Ok x) fault judges none = (x.0, x.1, refl)
was_read (Err e) fault judges none = let both : Some e ≡ None = sym judges ∙ none in absurd cc

no_fault : {A : Type 0} (o : Result (A × Cut) ReadFault) (fault : Option ReadFault) (a : A) (rest : Cut) → Judges o fault
    → o ≡ read a rest → fault ≡ None
no_fault {A} o fault a rest judges e = subst (λ (o : Result (A × Cut) ReadFault). Judges o fault) e judges

same_read : {A : Type 0} (a b : A) (c d : Cut) → read a c ≡ read b d → a ≡ b
same_read {A} a b c d e = ap (λ (x : A × Cut). x.0) (ok_is (a, c) (b, d) e)

pub fault_or_database : FaultOrDatabase
fault_or_database cut = (
  λ none. (
      let found = was_read (database_at cut) (first_fault grammar.text nothing_seen cut) (database_judges cut) none in
      let sound = database_sound cut found.0 found.1 found.2 (database_is_proper cut found.0 found.1 found.2) in
      (sound.0, sound.1, found.0, sound.2, sound.3)),
  λ spelled. no_fault (database_at cut) (first_fault grammar.text nothing_seen cut) spelled.2 (End spelled.1) (database_judges cut)
      (ap database_at spelled.3 ∙ database_again spelled.0 spelled.1 spelled.2 spelled.4),
)

pub one_database : OneDatabase
one_database tokens a b first second = same_read a b (End 0) (End 0) (sym (database_again tokens 0 a first)
    ∙ database_again tokens 0 b second)

pub fault_or_statement : FaultOrStatement
fault_or_statement cut = (
  λ none. (
      let found = was_read (statement_at cut) (first_fault grammar.one_statement nothing_seen cut) (statement_judges cut) none in
      let sound = statement_sound cut found.0 found.1 found.2 (statement_is_proper cut found.0 found.1 found.2) in
      (sound.0, sound.1, found.0, sound.2, sound.3)),
  λ spelled. no_fault (statement_at cut) (first_fault grammar.one_statement nothing_seen cut) spelled.2 (End spelled.1)
      (statement_judges cut)
      (ap statement_at spelled.3 ∙ statement_again spelled.0 spelled.1 spelled.2 spelled.4),
)

pub one_statement : OneStatement
one_statement tokens a b first second = same_read a b (End 0) (End 0) (sym (statement_again tokens 0 a first)
    ∙ statement_again tokens 0 b second)
