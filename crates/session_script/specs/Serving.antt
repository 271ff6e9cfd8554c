-- What a script has done and written when it ends.
use Rattle.std.specs.Prelude.{◌≡◌, ℕ, List, [], Result, Ok, Err}
use Rattle.byte_devices.specs.Device.{Unread, Written}
use Rattle.can_line_stream.specs.declared.fault.StreamFault.{StreamFault}
use Rattle.can_line_stream.specs.declared.fault.StreamFault.TheVariants as faults
use Rattle.can_line_stream.specs.Runs.{Rules}
use Rattle.can_line_stream.specs.Stream.{StreamEnds}
use Rattle.can_session.specs.States.{State}
use Rattle.session_script.specs.Replies.{Replies}

-- the most bytes of a line
abbrev pub longest_line : ℕ
longest_line = 65536

-- no line ends the script because memory ran out
abbrev pub NeverStops : State → List ℕ → Type 0
NeverStops state line = ⊥

-- a reply is written before the next command is done
abbrev pub NothingWaits : List ℕ → Type 0
NothingWaits held = held ≡ []

-- how the lines of a script are handled
abbrev pub script_rules : Rules State
script_rules = record { Step = Replies; Stops = NeverStops; Waits = NothingWaits }

abbrev pub Ends : State → Written → Unread → Unread → State → Written → Result ℕ StreamFault → Type 0
Ends before old unread left after new result = StreamEnds script_rules longest_line before old unread left after new result

-- The lines of the script were done one after another, each with its reply. Or nothing was read, since there was no memory for a
-- line.
abbrev pub Serves : State → Written → Unread → Unread → State → Written → Result ℕ StreamFault → Type 0
Serves before old unread left after new (Ok count) = Ends before old unread left after new (Ok count)
Serves before old unread left after new (Err faults.LongLine) = Ends before old unread left after new (Err faults.LongLine)
Serves before old unread left after new (Err faults.Read) = Ends before old unread left after new (Err faults.Read)
Serves before old unread left after new (Err faults.Write) = Ends before old unread left after new (Err faults.Write)
Serves before old unread left after new (Err faults.Memory) = (after ≡ before) × (left ≡ unread) × (new ≡ old)
