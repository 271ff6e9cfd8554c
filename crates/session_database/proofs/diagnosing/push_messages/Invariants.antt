use Rattle.std.proofs.Common.{◌≡◌, ◌++◌, map, take}
use Rattle.std.specs.List.{flat_map}
use Rattle.can_check.specs.MessageFaults.{head_then_own}
use Rattle.session_database.specs.Diagnosed.{counts_of}
use Rattle.session_database.proofs.diagnosing.push_messages.Given as goal

-- those of the messages so far are there
abbrev pub invariant-loop-message : goal.invariant-loop-message
invariant-loop-message g l =
    record {
      diagnostics : l.made.diagnostics.items ≡ l.initial.made.diagnostics.items
          ++ flat_map (head_then_own l.known) (take l.message-index l.messages);
      counts : l.made.counts.items ≡ l.initial.made.counts.items ++ map (counts_of l.known) (take l.message-index l.messages);
    }
