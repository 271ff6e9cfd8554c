use Rattle.std.proofs.Common.{◌≡◌, ◌++◌, map, filter, drop}
use Rattle.session_log.specs.Elsewhere.{is_elsewhere}
use Rattle.session_database.specs.CompiledMessage.{compiled_of}
use Rattle.session_database.proofs.recompiling.kept.Given as goal

-- those of the messages so far are kept, and those of the messages to come are left
abbrev pub invariant-loop-message : goal.invariant-loop-message
invariant-loop-message l =
    let messages = l.before.messages in
    record {
      kept : map (λ one. one.value) l.kept.items ++ map (compiled_of l.before) (filter (is_elsewhere l.numbers)
          (drop l.message-index messages)) ≡ map (compiled_of l.before) (filter (is_elsewhere l.numbers) messages);
      rest : map (λ one. one.value) l.rest ≡ map (compiled_of l.before) (drop l.message-index messages);
    }
