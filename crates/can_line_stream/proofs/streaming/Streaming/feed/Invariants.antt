use Rattle.std.proofs.Common.{◌≡◌, ℕ, ◌-◌, ◌^◌, min, List, ◌++◌, length}
use Rattle.byte_devices.specs.Outs.{SameSink}
use Rattle.can_line_stream.specs.Cuts.{Cuts, HasNoLineFeed}
use Rattle.can_line_stream.specs.Runs.{HandledBut}
use Rattle.can_line_stream.proofs.streaming.Streaming.feed.Given as goal

-- the lines that ended so far were handled; the line that began and what is left of the piece are the lines to come
abbrev pub invariant-loop-head : goal.invariant-loop-head
invariant-loop-head g l =
    (lines : List (List ℕ))
    × Cuts (l.initial.line.items ++ l.piece) lines (l.line.items ++ l.rest)
    × HasNoLineFeed l.line.items
    × (l.count ≡ min (length lines) (2 ^ 64 - 1))
    × HandledBut (g.H.Handler.rules l.handler) g.row.MAX_SIZE (g.H.Handler.view l.initial.state)
    (g.W.Sink.written l.initial.self.out.sink.now) lines (g.H.Handler.view l.state) (g.W.Sink.written l.self.out.sink.now)
    l.self.out.held.items
    × SameSink l.initial.self.out l.self.out

abbrev pub decreases-loop-head : goal.decreases-loop-head
decreases-loop-head g l = length l.rest
