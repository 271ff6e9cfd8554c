-- A run as a whole: what was given, the answers, and what is shown after it.
use Rattle.std.specs.Prelude.{ℕ, List}
use Rattle.can_session.specs.declared.options.Options.{Options}
use Rattle.can_session.specs.States.{State}
use Rattle.session_laws.specs.Runs.{Command, Answer, RunsText}
use Rattle.session_laws.specs.SessionView.{SessionView, FromScratch}

-- what was given, and the answer to each command
pub record Transcript : Type 0 where
  pub text : List ℕ
  pub options : Options
  pub commands : List Command
  pub answers : List Answer

-- The commands lead from the text's database to a state, with these answers, at whichever of them memory ran out. A session in that
-- state shows what you get by printing its database, reading it again, and decoding each of its lines alone.
abbrev pub Shows : Transcript → SessionView → Type 0
Shows run all = (last : State) × RunsText run.text run.options run.commands run.answers last × FromScratch last all
