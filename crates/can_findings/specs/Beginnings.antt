-- Records of a database, each with where it begins in the text.
use Rattle.std.specs.Prelude.{List, [], ◌∷◌, take, drop, length}
use Rattle.dbc_records.specs.Records.{Message}
use Rattle.dbc_reader.specs.declared.start.Start.{Start}

-- of nothing
abbrev pub no_start : Start
no_start = record { line = 0; left = 0 }

abbrev pub first_start : List Start → Start
first_start [] = no_start
first_start (start ∷ starts) = start

-- those after it
abbrev pub after_first : List Start → List Start
after_first [] = []
after_first (start ∷ starts) = starts

-- records, each with where it begins
abbrev pub at_starts : {X : Type 0} → List X → List Start → List (X × Start)
at_starts [] starts = []
at_starts (thing ∷ things) starts = (thing, first_start starts) ∷ at_starts things (after_first starts)

-- a message, where it begins, and where its signals begin
pub record MessageAt : Type 0 where
  pub message : Message
  pub start : Start
  pub signals : List Start

-- messages, each with where it begins; the signals of all of them begin there, those of the first message first
abbrev pub messages_at : List Message → List Start → List Start → List MessageAt
messages_at [] heads signals = []
messages_at (m ∷ messages) heads signals =
    record { message = m; start = first_start heads; signals = take (length m.signals) signals }
    ∷ messages_at messages (after_first heads) (drop (length m.signals) signals)
