use Rattle.std.proofs.Common.{◌≡◌, ℕ, ◌-◌, ◌^◌, min, List, [], length}
use Rattle.byte_devices.specs.Device.{Pulled}
use Rattle.byte_devices.specs.Outs.{SameSink}
use Rattle.can_line_stream.specs.Lines.{IsShort}
use Rattle.can_line_stream.specs.Cuts.{Cuts, HasNoLineFeed}
use Rattle.can_line_stream.specs.Runs.{Handled}
use Rattle.can_line_stream.proofs.streaming.Streaming.run_lines.Given as goal

-- those lines of what was read that have their LF were handled and all their text written, the unfinished one is kept, and nothing
-- is held
abbrev pub invariant-loop-len : goal.invariant-loop-len
invariant-loop-len g l =
    (read : List ℕ) × (lines : List (List ℕ))
    × Pulled (g.R.Source.unread l.initial.source) (g.R.Source.unread l.source) read
    × Cuts read lines l.line.items
    × HasNoLineFeed l.line.items
    × IsShort g.row.MAX_SIZE l.line.items
    × (l.count ≡ min (length lines) (2 ^ 64 - 1))
    × Handled (g.H.Handler.rules l.handler) g.row.MAX_SIZE (g.H.Handler.view l.initial.state)
    (g.W.Sink.written l.initial.self.out.sink.now) lines (g.H.Handler.view l.state) (g.W.Sink.written l.self.out.sink.now)
    × (l.self.out.held.items ≡ [])
    × SameSink l.initial.self.out l.self.out

abbrev pub decreases-loop-len : goal.decreases-loop-len
decreases-loop-len g l = (g.R.Source.unread l.source).patience
