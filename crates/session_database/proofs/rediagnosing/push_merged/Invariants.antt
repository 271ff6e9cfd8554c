use Rattle.std.proofs.Common.{◌≡◌, ◌++◌, map, filter, drop}
use Rattle.std.specs.List.{flat_map}
use Rattle.session_log.specs.Elsewhere.{is_elsewhere}
use Rattle.can_check.specs.MessageFaults.{own_faults, head_then_own}
use Rattle.session_database.specs.Diagnosed.{counts_of}
use Rattle.session_database.proofs.rediagnosing.push_merged.Given as goal

-- those of the messages so far are there, and the kept ones of the messages to come are left
abbrev pub invariant-loop-message : goal.invariant-loop-message
invariant-loop-message g l =
    record {
      diagnostics : l.made.diagnostics.items ++ flat_map (head_then_own l.known) (drop l.message-index l.messages)
          ≡ l.initial.made.diagnostics.items ++ flat_map (head_then_own l.known) l.messages;
      counts : l.made.counts.items ++ map (counts_of l.known) (drop l.message-index l.messages)
          ≡ l.initial.made.counts.items ++ map (counts_of l.known) l.messages;
      rest : map (λ one. one.now) l.rest ≡ map (own_faults l.known) (filter (is_elsewhere l.numbers)
          (drop l.message-index l.messages));
    }
