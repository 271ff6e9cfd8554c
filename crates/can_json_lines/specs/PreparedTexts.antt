-- What is prepared of messages, once, before the lines of a log are written.
use Rattle.std.specs.Prelude.{List, map}
use Rattle.dbc_records.specs.Records.{Message}
use Rattle.dbc_records.specs.Databases.{Database}
use Rattle.can_layout.specs.Plans.{Plan, plan_of}
use Rattle.can_layout.specs.declared.row.Row.{Row}

-- the text of a message, and the texts of each of its signals in order
pub record MessageTexts (A B : Type 0) : Type 0 where
  pub head : A
  pub signals : List B

abbrev pub texts_by : {A B : Type 0} → (Message → A) → (Message → Row → B) → Message → Plan → MessageTexts A B
texts_by head_of signal_of message plan = record { head = head_of message; signals = map (signal_of message) plan.rows }

-- the texts of all messages, in order
abbrev pub all_texts : {A B : Type 0} → (Message → A) → (Message → Row → B) → Database → List (MessageTexts A B)
all_texts head_of signal_of database =
    map (λ message. texts_by head_of signal_of message (plan_of database message)) database.messages
