-- Reading of statements with where they begin.
use Rattle.std.specs.Prelude.{◌≡◌, ℕ, List, [], ◌∷◌, ◌++◌, length, codes, Result, Ok, Err}
use Rattle.dbc_records.specs.Databases.{Database}
use Rattle.dbc_records.specs.Records.{Signal, Message}
use Rattle.dbc_tokens.specs.declared.fault.ReadFault.{ReadFault}
use Rattle.dbc_tokens.specs.Tokens.{Cut}
use Rattle.dbc_reader.specs.declared.start.Start.{Start}
use Rattle.dbc_reader.specs.declared.start.Starts.{Starts}
use Rattle.dbc_reader.specs.declared.stopped.Stopped.{Stopped}
use Rattle.dbc_reader.specs.Classes.{has_word}
use Rattle.dbc_reader.specs.Kinds.{Messages, with_list, empty_database}
use Rattle.dbc_reader.specs.Starts.{start_at, no_starts, caught_up}
use Rattle.dbc_reader.specs.inner.Readers.{Reader, and_then, ◌>>=◌, value, choose, repeated, end_at, Fails}
use Rattle.dbc_reader.specs.inner.Messages.{head_at, signal_at}
use Rattle.dbc_reader.specs.inner.Databases.{begins_statement, statement_into, version_at, timing_at}

-- a signal, and where it begins
unfoldable pub signal_with_start : List Signal × List Start → Reader (List Signal × List Start)
signal_with_start s cut = and_then (signal_at s.0 cut) (λ signal. value (s.0 ++ signal ∷ [], s.1 ++ start_at cut ∷ []))

-- signals, as many as there are, and where each begins
unfoldable pub signals_with_starts : List Signal × List Start → Reader (List Signal × List Start)
signals_with_starts = repeated (has_word (codes "SG_")) signal_with_start

-- a message, in a text that already has this many, and where its signals begin, after those that began before
unfoldable pub message_with_starts : ℕ → List Start → Reader (Message × List Start)
message_with_starts count starts = do
  head ← head_at count
  signals ← signals_with_starts ([], starts)
  value (record { head = head; signals = signals.0 }, signals.1)

unfoldable pub message_with_starts_into : Database × Starts → Reader (Database × Starts)
message_with_starts_into s = do
  message ← message_with_starts (length s.0.messages) s.1.signals
  value (with_list Messages s.0 (s.0.messages ++ message.0 ∷ []), record s.1 { signals = message.1 })

-- a statement that has no signals
unfoldable pub without_signals_into : Database × Starts → Reader (Database × Starts)
without_signals_into s cut = and_then (statement_into s.0 cut) (λ database. value (database, s.1))

-- a statement of any kind that may be repeated, and where its signals begin
unfoldable pub with_signals_into : Database × Starts → Reader (Database × Starts)
with_signals_into s = choose (has_word (codes "BO_")) (message_with_starts_into s) (without_signals_into s)

-- and where the statement begins
unfoldable pub located_into : Database × Starts → Reader (Database × Starts)
located_into s cut = and_then (with_signals_into s cut) (λ x. value (x.0, caught_up x.1 x.0 (start_at cut)))

-- such statements, as many as there are
unfoldable pub all_located_into : Database × Starts → Reader (Database × Starts)
all_located_into = repeated begins_statement located_into

-- the bit timing and what follows it, or nothing
unfoldable pub timed_located_into : Database × Starts → Reader (Database × Starts)
timed_located_into s = choose (has_word (codes "BS_")) (do
  timing ← timing_at
  all_located_into (record s.0 { bit_timing = timing }, s.1)) (value s)

-- a whole text
unfoldable pub located_database_at : Reader (Database × Starts)
located_database_at = do
  version ← version_at
  before ← all_located_into (empty_database version, no_starts)
  all ← timed_located_into before
  _ ← end_at
  value all

-- what a function returned, what it made of one of its arguments, and the tokens that it left, are what reading gives
abbrev pub GivesWith : {A S : Type 0} → Result A Stopped → S → Cut → Result ((A × S) × Cut) ReadFault → Type 0
GivesWith (Ok x) made left read = read ≡ Ok ((x, made), left)
GivesWith (Err stopped) made left read = Fails stopped read
