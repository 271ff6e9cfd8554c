-- A signal that may be added is.
use Rattle.std.proofs.Common.{◌≡◌, ℕ, ◌<◌, ◌≤◌, false, length, refl, arith}
use Rattle.std.specs.Prelude.{Some, Ok, insert, slice_get, nat_lt, nat_le}
use Rattle.dbc_records.specs.Records.{Signal, Message, most_signals}
use Rattle.dbc_records.specs.Databases.{Database}
use Rattle.dbc_edits.specs.Edits.{at_message, refused_if, has_named, with_message, signal_added}

no_less : (n m : ℕ) → m ≤ n → nat_lt n m ≡ false
no_less n m e = grind arith

not_as_many : (n m : ℕ) → n < m → nat_le m n ≡ false
not_as_many n m e = grind arith

pub added : (index at : ℕ) (signal : Signal) (database : Database) (message : Message) (edited : Database)
    → slice_get database.messages index ≡ Some message
    → at ≤ length message.signals
    → length message.signals < most_signals
    → has_named signal.name message.signals ≡ false
    → edited ≡ with_message index (record message { signals = insert message.signals at signal }) database
    → signal_added index at signal database ≡ Ok edited
unfolding signal_added at_message refused_if
added index at signal database message edited e f g h i =
    rw (e, no_less (length message.signals) at f, h, not_as_many (length message.signals) most_signals g, i) refl
