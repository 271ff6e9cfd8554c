use Rattle.std.proofs.Common.{◌≡◌, ◌++◌, map, filter, drop}
use Rattle.session_log.specs.Elsewhere.{is_elsewhere}
use Rattle.can_check.specs.MessageFaults.{own_faults}
use Rattle.session_database.proofs.rediagnosing.kept_own.Given as goal

-- those of the messages so far are kept, and those of the messages to come are left
abbrev pub invariant-loop-message : goal.invariant-loop-message
invariant-loop-message l =
    let messages = l.before.messages in
    record {
      kept : map (λ one. one.now) l.kept.items ++ map (own_faults l.before) (filter (is_elsewhere l.numbers)
          (drop l.message-index messages)) ≡ map (own_faults l.before) (filter (is_elsewhere l.numbers) messages);
      rest : l.rest ≡ map (own_faults l.before) (drop l.message-index messages);
    }
