-- Signals in the order of their message IDs.
use Rattle.std.specs.Prelude.{◌≡◌, ◌≢◌, ◌+◌, ◌<◌, ℕ, Bool, if◌then◌else◌, List, All, length, slice_index_or}
use Rattle.std.specs.List.{list_any}
use Rattle.std.specs.List.Sorted.{IsNonDecreasingBy}
use Rattle.can_references.specs.inner.KeySets.{RisesFrom}
use Rattle.can_references.specs.SignalNames.{same_signal}
use Rattle.can_references.specs.inner.SignalHashes.{name_hash, hash_of}
use Rattle.can_references.specs.declared.numbered.Numbered.{Numbered}

abbrev pub message_number : Numbered → ℕ
message_number signal = signal.number

-- the signal without its mark
abbrev pub signal_of : Numbered → ℕ × List ℕ
signal_of signal = (signal.number, signal.name.now)

-- the signal with the mark of its name
abbrev pub hashed : Numbered → Numbered
hashed signal = record { number = signal.number; hash = name_hash signal.name.now; name = signal.name }

-- the signal has the message ID and the name
abbrev pub is_signal : ℕ → List ℕ → Numbered → Bool
is_signal number name signal = same_signal (number, name) (signal_of signal)

-- the signal has the mark of its name, or 0 if signals are not marked
abbrev pub HasHash : Bool → Numbered → Type 0
HasHash is_hashed signal = signal.hash ≡ hash_of is_hashed signal.name.now

-- the signals of `rest` are of `whole`, in order and not below the message ID, and all of the message ID in `whole` are there
pub record StartsAt (number : ℕ) (whole rest : List Numbered) : Type 0 where
  pub rises : RisesFrom message_number number rest
  pub all : (name : List ℕ) → list_any (is_signal number name) rest ≡ list_any (is_signal number name) whole
  pub hashes : (is_hashed : Bool) → All (HasHash is_hashed) whole → All (HasHash is_hashed) rest

-- No two signals that are this far from one another have the same message ID. If these are in order, at most this many
-- have the same one.
abbrev pub DifferAfter : ℕ → List Numbered → Type 0
DifferAfter distance signals = (k : ℕ) (d : Numbered) → k + distance < length signals
    → message_number (slice_index_or signals k d) ≢ message_number (slice_index_or signals (k + distance) d)

-- how many signals of one message ID are compared one after another: more with marks, which decide most comparisons
abbrev pub most_of : Bool → ℕ
most_of is_hashed = if is_hashed then 32 else 4

-- signals in the order of their message IDs, with their marks or without, and few enough of each message ID
pub record AreSearchable (is_hashed : Bool) (signals : List Numbered) : Type 0 where
  pub ordered : IsNonDecreasingBy message_number signals
  pub few : DifferAfter (most_of is_hashed) signals
  pub hashes : All (HasHash is_hashed) signals
