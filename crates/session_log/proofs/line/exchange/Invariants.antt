use Rattle.std.proofs.Common.{◌≡◌, ◌<◌, length}
use Rattle.std.specs.Prelude.{map, All}
use Rattle.can_decode.specs.DecodedLines.{Bus}
use Rattle.session_log.specs.declared.line.RedecodedLine.{RedecodedLine}
use Rattle.session_log.specs.Logs.{bytes_of, IsNumbered, Completes}
use Rattle.session_log.proofs.line.exchange.Given as goal

-- the lines keep their bytes, and the texts that are left complete them
abbrev pub invariant-loop-position : goal.invariant-loop-position
invariant-loop-position l = record {
  bytes : map bytes_of l.lines.items ≡ map bytes_of l.initial.lines.items;
  numbered : All IsNumbered l.initial.lines.items → All IsNumbered l.lines.items;
  within : All {X = RedecodedLine} (λ text. text.position < length l.lines.items) l.redecoded.items;
  completes : (bus : Bus) → Completes bus l.initial.lines.items l.initial.redecoded.items → Completes bus l.lines.items
      l.redecoded.items;
}

abbrev pub decreases-loop-position : goal.decreases-loop-position
decreases-loop-position l = length l.redecoded.items
