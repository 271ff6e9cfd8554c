-- Reading signals and statements with where each begins, one after another.
use Rattle.std.proofs.Common.{◌≡◌, ◌<◌, true, false, None, List, [], ◌∷◌, ◌++◌, Result, Ok, refl, subst}
use Rattle.std.specs.Prelude.{codes}
use Rattle.dbc_records.specs.Databases.{Database}
use Rattle.dbc_records.specs.Records.{Signal}
use Rattle.dbc_tokens.specs.declared.fault.ReadFault.{ReadFault}
use Rattle.dbc_tokens.specs.Tokens.{Cut}
use Rattle.dbc_reader.specs.declared.start.Start.{Start}
use Rattle.dbc_reader.specs.declared.start.Starts.{Starts}
use Rattle.dbc_reader.specs.declared.stopped.Stopped.{Stopped}
use Rattle.dbc_reader.specs.declared.stopped.Stopped.TheVariants as stops
use Rattle.dbc_reader.specs.Classes.{has_word}
use Rattle.dbc_reader.specs.Starts.{start_at}
use Rattle.dbc_reader.specs.inner.Keywords.{keyword_at}
use Rattle.dbc_reader.specs.inner.Readers.{starts, size, value, Fails}
use Rattle.dbc_reader.specs.inner.Messages.{signal_at}
use Rattle.dbc_reader.specs.inner.Databases.{begins_statement}
use Rattle.dbc_reader.specs.inner.Located.{signal_with_start, signals_with_starts, message_with_starts, message_with_starts_into}
use Rattle.dbc_reader.specs.inner.Located.{without_signals_into, with_signals_into, located_into, all_located_into}
use Rattle.dbc_reader.proofs.Facts.Keywords.{no_statement_begins}
use Rattle.dbc_reader.proofs.Rounds.{Shrinks, Keeps, bind_shrinks, bind_keeps, choose_shrinks, value_keeps, goes_on, fails, ends}
use Rattle.dbc_reader.proofs.Rounds.{repeated_keeps}
use Rattle.dbc_reader.proofs.Rounds.Signals.{signal_shrinks}
use Rattle.dbc_reader.proofs.Rounds.Statements.{head_shrinks, statement_shrinks}

-- ---- signals

pub signal_with_start_shrinks : (s : List Signal × List Start) → Shrinks (signal_with_start s)
unfolding signal_with_start
signal_with_start_shrinks s = record {
  less = λ cut y e. (bind_shrinks {f = λ signal. value (s.0 ++ signal ∷ [], s.1 ++ start_at cut ∷ [])} (signal_shrinks s.0)
      (λ signal. value_keeps _)).less cut y e;
}

signal_once : (signals : List Signal) (found : List Start) (signal : Signal) (cut rest : Cut) → signal_at signals cut
    ≡ Ok (signal, rest)
    → signal_with_start (signals, found) cut ≡ Ok ((signals ++ signal ∷ [], found ++ start_at cut ∷ []), rest)
unfolding signal_with_start
signal_once signals found signal cut rest h = rw h refl

signal_stops : (e : Stopped) (signals : List Signal) (found : List Start) (cut : Cut) → Fails e (signal_at signals cut)
    → Fails e (signal_with_start (signals, found) cut)
unfolding signal_with_start
signal_stops stops.Memory signals found cut h = tt
signal_stops (stops.Fault fault) signals found cut h = rw h refl

pub signals_on : (signals : List Signal) (found : List Start) (signal : Signal) (cut rest : Cut)
    (total : Result ((List Signal × List Start) × Cut) ReadFault) → starts (has_word (codes "SG_")) cut ≡ true
    → signal_at signals cut ≡ Ok (signal, rest) → signals_with_starts (signals, found) cut ≡ total
    → signals_with_starts (signals ++ signal ∷ [], found ++ start_at cut ∷ []) rest ≡ total
unfolding signals_with_starts
signals_on signals found signal cut rest total t h so_far =
    goes_on (has_word (codes "SG_")) signal_with_start signal_with_start_shrinks (signals, found)
    (signals ++ signal ∷ [], found ++ start_at cut ∷ []) cut rest total t (signal_once signals found signal cut rest h) so_far

pub signals_fail : (e : Stopped) (signals before : List Signal) (found : List Start) (cut : Cut)
    (total : Result ((List Signal × List Start) × Cut) ReadFault) → starts (has_word (codes "SG_")) cut ≡ true
    → Fails e (signal_at before cut) → before ≡ signals → signals_with_starts (signals, found) cut ≡ total → Fails e total
unfolding signals_with_starts
signals_fail e signals before found cut total t h same so_far =
    fails (has_word (codes "SG_")) signal_with_start signal_with_start_shrinks e (signals, found) cut total t
    (signal_stops e signals found cut (subst (λ (list : List Signal). Fails e (signal_at list cut)) same h)) so_far

pub signals_end : (signals : List Signal) (found : List Start) (cut : Cut)
    (total : Result ((List Signal × List Start) × Cut) ReadFault) → starts (has_word (codes "SG_")) cut ≡ false
    → signals_with_starts (signals, found) cut ≡ total → total ≡ Ok ((signals, found), cut)
unfolding signals_with_starts
signals_end signals found cut total t so_far =
    ends (has_word (codes "SG_")) signal_with_start signal_with_start_shrinks (signals, found) cut total t so_far

-- ---- statements

signals_keep : (s : List Signal × List Start) → Keeps (signals_with_starts s)
unfolding signals_with_starts
signals_keep s = repeated_keeps (has_word (codes "SG_")) signal_with_start signal_with_start_shrinks s

message_shrinks : (s : Database × Starts) → Shrinks (message_with_starts_into s)
unfolding message_with_starts_into message_with_starts
message_shrinks s =
    bind_shrinks (bind_shrinks (head_shrinks _) λ head. bind_keeps (signals_keep _) λ signals. value_keeps _) λ message. value_keeps
    _

without_shrinks : (s : Database × Starts) → Shrinks (without_signals_into s)
unfolding without_signals_into
without_shrinks s = bind_shrinks (statement_shrinks s.0) λ database. value_keeps _

with_signals_shrinks : (s : Database × Starts) → Shrinks (with_signals_into s)
unfolding with_signals_into
with_signals_shrinks s = choose_shrinks (has_word (codes "BO_")) (message_shrinks s) (without_shrinks s)

pub located_shrinks : (s : Database × Starts) → Shrinks (located_into s)
unfolding located_into
located_shrinks s = record { less = λ cut y e. (bind_shrinks (with_signals_shrinks s) (λ x. value_keeps _)).less cut y e }

pub located_on : (s s' : Database × Starts) (cut rest : Cut) (total : Result ((Database × Starts) × Cut) ReadFault)
    → starts begins_statement cut ≡ true → located_into s cut ≡ Ok (s', rest) → all_located_into s cut ≡ total
    → all_located_into s' rest ≡ total
unfolding all_located_into
located_on s s' cut rest total t h so_far = goes_on begins_statement located_into located_shrinks s s' cut rest total t h so_far

pub located_fail : (e : Stopped) (s : Database × Starts) (cut : Cut) (total : Result ((Database × Starts) × Cut) ReadFault)
    → starts begins_statement cut ≡ true → Fails e (located_into s cut) → all_located_into s cut ≡ total → Fails e total
unfolding all_located_into
located_fail e s cut total t h so_far = fails begins_statement located_into located_shrinks e s cut total t h so_far

-- if there is no keyword, the statements are over
pub located_over : (s : Database × Starts) (cut : Cut) (total : Result ((Database × Starts) × Cut) ReadFault)
    → keyword_at cut ≡ None → all_located_into s cut ≡ total → total ≡ Ok (s, cut)
unfolding all_located_into
located_over s cut total none so_far =
    ends begins_statement located_into located_shrinks s cut total (no_statement_begins cut none) so_far

pub located_less : (s s' : Database × Starts) (cut rest : Cut) → located_into s cut ≡ Ok (s', rest) → size rest < size cut
located_less s s' cut rest h = (located_shrinks s).less cut (s', rest) h
