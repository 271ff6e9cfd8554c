use Rattle.std.proofs.Common.{◌≡◌, ◌<◌, [], ◌∷◌, length, Err, refl, sym, ap, rules}
use Rattle.std.proofs.lemmas.Result.{err_from_is_err_and}
use Rattle.can_line_stream.specs.declared.fault.StreamFault.TheVariants.{Memory, Write}
use Rattle.can_line_stream.proofs.Handling.{HandledBut-none, HandledBut-next, Handled-flush, StopsAmong-at, BreaksAmong-at}
use Rattle.can_line_stream.proofs.Handling.{BreaksAmong-state_after}
use Rattle.can_line_stream.proofs.Reading.{lines_of-unended}
use Rattle.can_line_stream.proofs.streaming.Streaming.finish.Goals as goal

pub returns-in_err-emit-clause-memory : goal.returns-in_err-emit-clause-memory
returns-in_err-emit-clause-memory g c = λ is.
    let p = err_from_is_err_and c.from_residual.result c.from_residual.ensures.1 in
    let was : c.in_err-emit.field-0.0 ≡ Memory = cc in
    let some : 0 < length c.args.line.now = search rules in
    let h = g.H.Handler in
    let none = HandledBut-none (h.rules c.args.handler.now) g.row.MAX_SIZE (h.view c.args.state.now)
    (g.W.Sink.written c.args.self.now.out.sink.now) (g.met.H.Handler.nothing_waits c.args.handler.now) in
    rw (lines_of-unended c.args.line.now c.requires.no_line_feed some)
    (StopsAmong-at (h.rules c.args.handler.now) g.row.MAX_SIZE _ _ _ _ _ _ [] c.args.line.now [] none
    (rw c.requires.empty at (c.in_err-emit.ensures.memory (ap Err was))))

pub returns-in_err-emit-clause-write : goal.returns-in_err-emit-clause-write
returns-in_err-emit-clause-write g c = λ is.
    let p = err_from_is_err_and c.from_residual.result c.from_residual.ensures.1 in
    let was : c.in_err-emit.field-0.0 ≡ Write = cc in
    let some : 0 < length c.args.line.now = search rules in
    let h = g.H.Handler in
    let none = HandledBut-none (h.rules c.args.handler.now) g.row.MAX_SIZE (h.view c.args.state.now)
    (g.W.Sink.written c.args.self.now.out.sink.now) (g.met.H.Handler.nothing_waits c.args.handler.now) in
    rw (lines_of-unended c.args.line.now c.requires.no_line_feed some)
    (BreaksAmong-at (h.rules c.args.handler.now) g.row.MAX_SIZE _ _ _ _ _ _ [] c.args.line.now [] none
    (rw c.requires.empty at (c.in_err-emit.ensures.write (ap Err was))))

pub returns-in-Err-clause-write : goal.returns-in-Err-clause-write
returns-in-Err-clause-write g c = λ _.
    let some : 0 < length c.args.line.now = search rules in
    let h = g.H.Handler in
    let none = HandledBut-none (h.rules c.args.handler.now) g.row.MAX_SIZE (h.view c.args.state.now)
    (g.W.Sink.written c.args.self.now.out.sink.now) (g.met.H.Handler.nothing_waits c.args.handler.now) in
    let one = HandledBut-next (h.rules c.args.handler.now) g.row.MAX_SIZE _ _ _ _ _ _ [] c.args.line.now []
    c.emit.new.self.out.held.items none c.requires.short (rw c.requires.empty at c.in_ok-emit.ensures.ok) in
    rw (lines_of-unended c.args.line.now c.requires.no_line_feed some)
    (BreaksAmong-state_after (h.rules c.args.handler.now) g.row.MAX_SIZE _ _ _ _ _ _ (c.args.line.now ∷ []) []
    c.emit.new.self.out.held.items
    one refl c.in-Err.ensures.some c.in-Err.ensures.prints)

pub returns-clause-ok : goal.returns-clause-ok
returns-clause-ok g c =
    let some : 0 < length c.args.line.now = search rules in
    let h = g.H.Handler in
    let none = HandledBut-none (h.rules c.args.handler.now) g.row.MAX_SIZE (h.view c.args.state.now)
    (g.W.Sink.written c.args.self.now.out.sink.now) (g.met.H.Handler.nothing_waits c.args.handler.now) in
    let one = HandledBut-next (h.rules c.args.handler.now) g.row.MAX_SIZE _ _ _ _ _ _ [] c.args.line.now []
    c.emit.new.self.out.held.items none c.requires.short (rw c.requires.empty at c.in_ok-emit.ensures.ok) in
    rw (lines_of-unended c.args.line.now c.requires.no_line_feed some)
    (Handled-flush (h.rules c.args.handler.now) g.row.MAX_SIZE _ _ _ _ _ _ (c.args.line.now ∷ []) c.emit.new.self.out.held.items one
    refl c.in_default.ensures.prints)

pub returns-clause-count : goal.returns-clause-count
returns-clause-count g c =
    let some : 0 < length c.args.line.now = search rules in
    sym (ap length (lines_of-unended c.args.line.now c.requires.no_line_feed some))
