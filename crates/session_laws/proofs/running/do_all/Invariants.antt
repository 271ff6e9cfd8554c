use Rattle.std.proofs.Common.{◌≡◌, ◌≤◌, map, take, length, vec_len}
use Rattle.std.specs.Prelude.{vec_capacity}
use Rattle.session_laws.specs.Runs.{command_of, Runs}
use Rattle.session_laws.proofs.running.do_all.Given as goal

-- the commands so far are done, and there is space for the answers to all
abbrev pub invariant-loop-command : goal.invariant-loop-command
invariant-loop-command l = record {
  ran : Runs l.initial.session.state (map command_of (take l.command-index l.commands)) l.answers.items l.session.state;
  len : vec_len l.answers ≡ l.command-index;
  space : length l.commands ≤ vec_capacity l.answers;
}
