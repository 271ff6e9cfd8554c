use Rattle.std.proofs.Common.{◌≡◌, ◌++◌, map, drop}
use Rattle.session_database.specs.CompiledMessage.{compiled_of, Raised}
use Rattle.session_database.proofs.compiled.compiled_of.Given as goal

-- those of the messages so far are there
abbrev pub invariant-loop-message : goal.invariant-loop-message
invariant-loop-message g l =
    let database = l.sharing in
    record {
      compiled : map (λ one. one.value) l.all.items ++ map (compiled_of database) (drop l.message-index l.messages)
          ≡ map (compiled_of database) l.messages;
      made : Raised l.message-index 0 l.initial.meter l.meter;
    }
