-- Edits that were accepted.
use Rattle.std.specs.Prelude.{◌≡◌, ℕ, List, Ok}
use Rattle.dbc_records.specs.Databases.{Database}
use Rattle.dbc_edits.specs.declared.edit.Edit.{Edit}
use Rattle.dbc_edits.specs.Edits.{edited}
use Rattle.session_log.specs.Touched.{edit_numbers}

-- an edit, with the databases before and after it
pub record Acceptance : Type 0 where
  pub before : Database
  pub edit : Edit
  pub after : Database

-- messages of other CAN identifiers stay what they are, and so do the lines that go to these
abbrev pub numbers_of : Acceptance → List ℕ
numbers_of accepted = edit_numbers accepted.before accepted.edit

-- the one database accepted the edit, which gave the other, and these are its CAN identifiers
pub record IsAccepted (accepted : Acceptance) (numbers : List ℕ) : Type 0 where
  pub done : edited accepted.before accepted.edit ≡ Ok accepted.after
  pub numbered : numbers ≡ numbers_of accepted
