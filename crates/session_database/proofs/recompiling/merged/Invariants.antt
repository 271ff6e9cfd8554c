use Rattle.std.proofs.Common.{◌≡◌, ◌++◌, map, filter, take, drop, count_by}
use Rattle.session_log.specs.Elsewhere.{is_elsewhere}
use Rattle.session_database.specs.CompiledMessage.{compiled_of, message_touched, Raised}
use Rattle.session_database.proofs.recompiling.merged.Given as goal

-- those of the messages so far are there, and the kept ones of the messages to come are left
abbrev pub invariant-loop-message : goal.invariant-loop-message
invariant-loop-message g l =
    let database = l.sharing in
    record {
      compiled : map (λ one. one.value) l.all.items ++ map (compiled_of database) (drop l.message-index l.messages)
          ≡ map (compiled_of database) l.messages;
      rest : map (λ one. one.value) l.rest ≡ map (compiled_of database) (filter (is_elsewhere l.numbers)
          (drop l.message-index l.messages));
      made : Raised (count_by (message_touched l.numbers) (take l.message-index l.messages)) 0 l.initial.meter l.meter;
    }
