use Rattle.std.proofs.Common.{take}
use Rattle.session_database.specs.CompiledMessage.{Raised}
use Rattle.session_log.specs.Logs.{TextsAt}
use Rattle.can_session.proofs.logged_edit.decode_positions.Given as goal

-- the texts of the indexes so far are made
abbrev pub invariant-loop-position : goal.invariant-loop-position
invariant-loop-position l = record {
  texts : TextsAt l.bus l.log (take l.position-index l.positions) l.redecoded.items;
  lines : Raised 0 l.position-index l.initial.meter l.meter;
}
