-- What a run of `session` has read and written when it ends.
use Rattle.std.specs.Prelude.{◌≡◌, ℕ, List, [], Result, Ok, Err}
use Rattle.byte_devices.specs.Device.{Unread, Written}
use Rattle.dbc_reader.specs.Texts.{HasDatabase, IsRead}
use Rattle.can_line_stream.specs.declared.fault.StreamFault.{StreamFault}
use Rattle.can_session.specs.declared.options.Options.{Options}
use Rattle.can_session.specs.States.{State}
use Rattle.session_script.specs.declared.fault.SessionFault.{SessionFault}
use Rattle.session_script.specs.declared.fault.SessionFault.TheVariants as faults
use Rattle.session_script.specs.Serving.{Serves}

-- the script was run in a session that was so before, and is so after
abbrev pub ServesSession : State → State → Unread → Unread → Written → Written → Result ℕ SessionFault → Type 0
ServesSession first last unread left old new (Ok count) = Serves first old unread left last new (Ok count)
ServesSession first last unread left old new (Err (faults.Stream fault)) = Serves first old unread left last new (Err fault)
ServesSession first last unread left old new (Err (faults.Read fault)) = ⊥

-- the script was run from the text's database without lines, with the options
abbrev pub ServesText : List ℕ → Options → Unread → Unread → Written → Written → Result ℕ StreamFault → Type 0
ServesText text options unread left old new result =
    (first last : State) × HasDatabase text first.database × (first.lines ≡ []) × (first.options ≡ options)
    × Serves first old unread left last new result

-- Or nothing was read and nothing was written, and the fault is the first of the text, or memory ran out.
abbrev pub RunsScript : List ℕ → Options → Unread → Unread → Written → Written → Result ℕ SessionFault → Type 0
RunsScript text options unread left old new (Ok count) = ServesText text options unread left old new (Ok count)
RunsScript text options unread left old new (Err (faults.Stream fault)) = ServesText text options unread left old new (Err fault)
RunsScript text options unread left old new (Err (faults.Read fault)) = (left ≡ unread) × (new ≡ old) × IsRead text (Err fault)
