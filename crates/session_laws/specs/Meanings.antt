-- A line of a script asks for one command, or for none.
use Rattle.std.specs.Prelude.{◌↔◌, ℕ, List, None}
use Rattle.dbc_read.specs.Laws.{ExactlyOne, NoSuch}
use Rattle.session_script.specs.Commands.{Means}
use Rattle.session_script.specs.ScriptGrammar.{IsScriptLine}

-- a line asks for one command, or for none and is a bad command; and it is bad exactly when it isn't written as any command is
pub record HasOneMeaning (line : List ℕ) : Type 0 where
  pub one : ExactlyOne (Means line)
  pub bad : Means line None ↔ NoSuch (IsScriptLine line)

abbrev pub OneMeaning : Type 0
OneMeaning = (line : List ℕ) → HasOneMeaning line
