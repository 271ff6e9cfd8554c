-- What comments and attributes are about, and comments, as plain data. Source: the DBC file format, "Comment Definitions".
use Rattle.std.specs.Prelude.{◌==◌, ℕ, Bool, false, List}
use Rattle.dbc_values.specs.Names.{IsName, IsText}
use Rattle.dbc_records.specs.Records.{IsNumber}
use Rattle.dbc_records.specs.declared.target.Target.{Target}
use Rattle.dbc_records.specs.declared.target.Target.TheVariants as targets

-- the whole database, or a node, a message or a signal by name
abbrev pub IsTarget : Target → Type 0
IsTarget targets.Whole = Unit {0}
IsTarget (targets.Node name) = IsName name
IsTarget (targets.Message number) = IsNumber number
IsTarget (targets.Signal number name) = IsNumber number × IsName name

-- whether it is the message of this CAN identifier
abbrev pub is_for_message : ℕ → Target → Bool
is_for_message number targets.Whole = false
is_for_message number (targets.Node name) = false
is_for_message number (targets.Message other) = other == number
is_for_message number (targets.Signal other name) = false

pub record Comment : Type 0 where
  pub target : Target
  pub text : List ℕ

pub record IsComment (comment : Comment) : Type 0 where
  pub target : IsTarget comment.target
  pub text : IsText comment.text
