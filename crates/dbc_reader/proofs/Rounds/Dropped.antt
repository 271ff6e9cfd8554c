-- Reading that records where statements begin reads what reading without it does.
use Rattle.std.proofs.Common.{◌≡◌, ℕ, zero, suc, Bool, true, false, cond, List, [], ◌∷◌, ◌++◌, length, Result, Ok, Err, refl, sym}
use Rattle.std.proofs.Common.{ap}
use Rattle.std.proofs.Common.{◌∙◌}
use Rattle.std.specs.Prelude.{codes}
use Rattle.dbc_records.specs.Databases.{Database}
use Rattle.dbc_records.specs.Records.{Signal}
use Rattle.dbc_tokens.specs.declared.fault.ReadFault.{ReadFault}
use Rattle.dbc_tokens.specs.Tokens.{Token, Cut}
use Rattle.dbc_reader.specs.declared.start.Start.{Start}
use Rattle.dbc_reader.specs.declared.start.Starts.{Starts}
use Rattle.dbc_reader.specs.declared.stopped.Stopped.{Stopped}
use Rattle.dbc_reader.specs.declared.stopped.Stopped.TheVariants as stops
use Rattle.dbc_reader.specs.Classes.{has_word}
use Rattle.dbc_reader.specs.Kinds.{Messages, empty_database}
use Rattle.dbc_reader.specs.Starts.{start_at, no_starts, caught_up}
use Rattle.dbc_reader.specs.inner.Readers.{Reader, and_then, value, starts, size, rounds, repeated, end_at, Fails}
use Rattle.dbc_reader.specs.inner.Messages.{head_at, signal_at, signals_from, message_at}
use Rattle.dbc_reader.specs.inner.Databases.{record_into, begins_statement, statement_into, statements_into, version_at}
use Rattle.dbc_reader.specs.inner.Databases.{timing_at}
use Rattle.dbc_reader.specs.inner.Databases.{timed_into, database_at}
use Rattle.dbc_reader.specs.inner.Located.{signal_with_start, signals_with_starts, message_with_starts, message_with_starts_into}
use Rattle.dbc_reader.specs.inner.Located.{without_signals_into, with_signals_into, located_into, all_located_into}
use Rattle.dbc_reader.specs.inner.Located.{timed_located_into, located_database_at}
use Rattle.dbc_reader.proofs.Facts.Keywords.{message_into_here}

-- without the starts
abbrev pub dropped : {A S : Type 0} → Result ((A × S) × Cut) ReadFault → Result (A × Cut) ReadFault
dropped (Ok x) = Ok (x.0.0, x.1)
dropped (Err fault) = Err fault

and_drop : {A B S T : Type 0} (o : Result ((A × S) × Cut) ReadFault) (p : Result (A × Cut) ReadFault)
    (f : A × S → Reader (B × T)) (g : A → Reader B) → dropped o ≡ p
    → ((s : A × S) (cut : Cut) → dropped (f s cut) ≡ g s.0 cut) → dropped (and_then o f) ≡ and_then p g
and_drop (Ok x) p f g e h = rw (← e) (h x.0 x.1)
and_drop (Err fault) p f g e h = rw (← e) refl

-- a value of which the starts aren't part
value_drops : {A B T : Type 0} (o : Result (A × Cut) ReadFault) (f : A → Reader (B × T)) (g : A → Reader B)
    → ((a : A) (cut : Cut) → dropped (f a cut) ≡ g a cut) → dropped (and_then o f) ≡ and_then o g
value_drops (Ok x) f g h = h x.0 x.1
value_drops (Err fault) f g h = refl

module _ {A S : Type 0} (test : Token → Bool) (r : A × S → Reader (A × S)) (q : A → Reader A)
    (drops : (s : A × S) (cut : Cut) → dropped (r s cut) ≡ q s.0 cut) where
  round_drops : (n : ℕ) → ((s : A × S) (cut : Cut) → dropped (rounds n test r s cut) ≡ rounds n test q s.0 cut)
      → (s : A × S) (cut : Cut) (b : Bool)
      → dropped (cond b (and_then (r s cut) (rounds n test r)) (Ok (s, cut)))
      ≡ cond b (and_then (q s.0 cut) (rounds n test q)) (Ok (s.0, cut))
  round_drops n below s cut true = and_drop (r s cut) (q s.0 cut) _ _ (drops s cut) below
  round_drops n below s cut false = refl

  rounds_drop : (n : ℕ) (s : A × S) (cut : Cut) → dropped (rounds n test r s cut) ≡ rounds n test q s.0 cut
  rounds_drop zero s cut = refl
  rounds_drop (suc n) s cut = round_drops n (rounds_drop n) s cut (starts test cut)

  repeated_drops : (s : A × S) (cut : Cut) → dropped (repeated test r s cut) ≡ repeated test q s.0 cut
  unfolding repeated
  repeated_drops s cut = rounds_drop (size cut) s cut

-- ---- messages

signal_drops : (s : List Signal × List Start) (cut : Cut)
    → dropped (signal_with_start s cut) ≡ and_then (signal_at s.0 cut) (λ signal. value (s.0 ++ signal ∷ []))
unfolding signal_with_start
signal_drops s cut = value_drops (signal_at s.0 cut) _ _ (λ signal rest. refl)

signals_drop : (s : List Signal × List Start) (cut : Cut) → dropped (signals_with_starts s cut) ≡ signals_from s.0 cut
unfolding signals_with_starts signals_from
signals_drop s cut = repeated_drops (has_word (codes "SG_")) signal_with_start _ signal_drops s cut

message_drops : (count : ℕ) (found : List Start) (cut : Cut) → dropped (message_with_starts count found cut) ≡ message_at count cut
unfolding message_with_starts message_at
message_drops count found cut = value_drops (head_at count cut) _ _ (λ head rest.
    and_drop (signals_with_starts ([], found) rest) (signals_from [] rest) _ _ (signals_drop ([], found) rest) (λ s end. refl))

message_into_drops : (s : Database × Starts) (cut : Cut) → dropped (message_with_starts_into s cut) ≡ record_into Messages s.0 cut
unfolding message_with_starts_into record_into
message_into_drops s cut =
    and_drop (message_with_starts (length s.0.messages) s.1.signals cut) (message_at (length s.0.messages) cut) _ _
    (message_drops (length s.0.messages) s.1.signals cut) (λ message rest. refl)

-- ---- statements

without_drops : (s : Database × Starts) (cut : Cut) → dropped (without_signals_into s cut) ≡ statement_into s.0 cut
unfolding without_signals_into
without_drops s cut = by_result (statement_into s.0 cut)
  where
    by_result : (o : Result (Database × Cut) ReadFault) → dropped (and_then o (λ database. value (database, s.1))) ≡ o
    by_result (Ok x) = refl
    by_result (Err fault) = refl

pub with_signals_drops : (s : Database × Starts) (cut : Cut) → dropped (with_signals_into s cut) ≡ statement_into s.0 cut
unfolding with_signals_into
with_signals_drops s cut = by_test (starts (has_word (codes "BO_")) cut) refl
  where
    by_test : (b : Bool) → starts (has_word (codes "BO_")) cut ≡ b
        → dropped (cond b (message_with_starts_into s cut) (without_signals_into s cut)) ≡ statement_into s.0 cut
    by_test true is = message_into_drops s cut ∙ sym (message_into_here s.0 cut is)
    by_test false is = without_drops s cut

located_drops : (s : Database × Starts) (cut : Cut) → dropped (located_into s cut) ≡ statement_into s.0 cut
unfolding located_into
located_drops s cut = by_result (with_signals_into s cut) ∙ with_signals_drops s cut
  where
    by_result : (o : Result ((Database × Starts) × Cut) ReadFault)
        → dropped (and_then o (λ x. value (x.0, caught_up x.1 x.0 (start_at cut)))) ≡ dropped o
    by_result (Ok x) = refl
    by_result (Err fault) = refl

all_drop : (s : Database × Starts) (cut : Cut) → dropped (all_located_into s cut) ≡ statements_into s.0 cut
unfolding all_located_into statements_into
all_drop s cut = repeated_drops begins_statement located_into statement_into located_drops s cut

timed_drops : (s : Database × Starts) (cut : Cut) → dropped (timed_located_into s cut) ≡ timed_into s.0 cut
unfolding timed_located_into timed_into
timed_drops s cut = by_test (starts (has_word (codes "BS_")) cut)
  where
    by_test : (b : Bool)
        → dropped (cond b (and_then (timing_at cut) (λ timing. all_located_into (record s.0 { bit_timing = timing }, s.1))) (Ok (
          s,
          cut,
        )))
        ≡ cond b (and_then (timing_at cut) (λ timing. statements_into (record s.0 { bit_timing = timing }))) (Ok (s.0, cut))
    by_test true = value_drops (timing_at cut) _ _ (λ timing rest. all_drop (record s.0 { bit_timing = timing }, s.1) rest)
    by_test false = refl

pub database_drops : (cut : Cut) → dropped (located_database_at cut) ≡ database_at cut
unfolding located_database_at database_at
database_drops cut = value_drops (version_at cut) _ _ (λ version rest.
    and_drop (all_located_into (empty_database version, no_starts) rest) (statements_into (empty_database version) rest) _ _
    (all_drop (empty_database version, no_starts) rest) (λ s middle.
    and_drop (timed_located_into s middle) (timed_into s.0 middle) _ _ (timed_drops s middle) (λ all end.
    value_drops (end_at end) _ _ (λ _ there. refl))))

-- what is read without the starts is read with some
pub with_some_starts : {A S : Type 0} (o : Result ((A × S) × Cut) ReadFault) (p : Result (A × Cut) ReadFault) (x : A × Cut)
    → dropped o ≡ p → p ≡ Ok x → (found : S) × (o ≡ Ok ((x.0, found), x.1))
with_some_starts (Ok y) p x e f =
    let same : (y.0.0, y.1) ≡ x = cc in
    (y.0.1, ap (λ (z : _ × Cut). Ok ((z.0, y.0.1), z.1)) same)
with_some_starts (Err fault) p x e f = absurd cc

pub fails_dropped : (stopped : Stopped) (cut : Cut) → Fails stopped (located_database_at cut) → Fails stopped (database_at cut)
fails_dropped stops.Memory cut fails = tt
fails_dropped (stops.Fault fault) cut e = sym (database_drops cut) ∙ ap dropped e
