-- Entries of a message or a signal that are removed with it, as equal numbers and lists determine.
use Rattle.std.proofs.Common.{◌≡◌, ◌∙◌, ℕ, List, ap, refl}
use Rattle.std.specs.Prelude.{Some, Ok, remove, slice_get}
use Rattle.dbc_records.specs.Records.{Message}
use Rattle.dbc_records.specs.Databases.{Database}
use Rattle.dbc_edits.specs.Rows.{without}
use Rattle.dbc_edits.specs.Edits.{at_message, is_named, with_message, cleared_of_number, cleared_of_signal, message_removed}

pub number_cleared : (index number : ℕ) (message : Message) (database copy edited : Database)
    → edited ≡ cleared_of_number number (record copy { messages = remove copy.messages index })
    → number ≡ message.head.number
    → copy ≡ database
    → edited ≡ cleared_of_number message.head.number (record database { messages = remove database.messages index })
number_cleared index number message database copy edited e f g = rw (← g, ← f) e

pub signal_cleared : (index number : ℕ) (name : List ℕ) (message other : Message) (database copy edited : Database)
    → edited ≡ cleared_of_signal number name copy
    → number ≡ message.head.number
    → copy ≡ with_message index other database
    → other ≡ record message { signals = without (is_named name) message.signals }
    → edited ≡ cleared_of_signal message.head.number name
    (with_message index (record message { signals = without (is_named name) message.signals }) database)
signal_cleared index number name message other database copy edited e f g h =
    e ∙ ap (λ n. cleared_of_signal n name copy) f ∙ ap (cleared_of_signal message.head.number name) (g
    ∙ ap (λ m. with_message index m database) h)

pub message_gone : (index : ℕ) (database : Database) (message : Message) (edited : Database)
    → slice_get database.messages index ≡ Some message
    → edited ≡ cleared_of_number message.head.number (record database { messages = remove database.messages index })
    → message_removed index database ≡ Ok edited
unfolding message_removed at_message
message_gone index database message edited e f = rw (e, f) refl
