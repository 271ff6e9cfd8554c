use Rattle.std.proofs.Common.{◌≡◌, ◌++◌, take}
use Rattle.dbc_text_buffer.specs.Shown.{shown}
use Rattle.dbc_text_buffer.proofs.showing.push_each_shown.Given as goal

-- the bytes so far are pushed
abbrev pub invariant-loop-b : goal.invariant-loop-b
invariant-loop-b l = l.text.items ≡ l.initial.text.items ++ shown (take l.b-index l.bytes)
