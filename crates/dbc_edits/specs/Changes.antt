-- The change of a message's first line.
use Rattle.std.specs.Prelude.{ℕ, List, IsTrue}
use Rattle.dbc_values.specs.Names.{IsName}
use Rattle.dbc_records.specs.Records.{Head, head_fits}

-- all of the first line except its CAN identifier
pub record Change : Type 0 where
  pub name : List ℕ
  pub size : ℕ
  pub sender : List ℕ

pub record IsChange (change : Change) : Type 0 where
  pub name : IsName change.name
  pub size : IsTrue (head_fits change.size)
  pub sender : IsName change.sender

-- the first line with these instead of its own; the CAN identifier stays
abbrev pub changed : Change → Head → Head
changed change head = record { number = head.number; name = change.name; size = change.size; sender = change.sender }
