use Rattle.std.proofs.Common.{◌≡◌, [], ◌++◌, length, take, Err, refl, sym, ap, ◌∙◌, arith, length-append}
use Rattle.std.proofs.lemmas.Result.{err_from_is_err_and}
use Rattle.can_line_stream.specs.declared.fault.StreamFault.TheVariants.{LongLine, Write, Memory}
use Rattle.can_line_stream.specs.Lines.{lines_of}
use Rattle.can_line_stream.specs.Runs.{StopsAmong, BreaksAmong}
use Rattle.can_line_stream.proofs.Handling.{Handled-none, Handled-then, StopsAmong-then, BreaksAmong-then, BreaksAmong-rises}
use Rattle.can_line_stream.proofs.Handling.{Leads-then, Handled-leads, StopsAmong-leads, BreaksAmong-leads, at-fault}
use Rattle.can_line_stream.proofs.Reading.{Pulled-nil, Pulled-then, Pulled-none, PullFailed-then, Cuts-nil, Cuts-more, exit-read}
use Rattle.can_line_stream.proofs.Reading.{exit-long, exit-memory, exit-write, exit-end, exit-ok}
use Rattle.can_line_stream.proofs.streaming.Streaming.run_lines.Goals as goal

pub loop-len-init : goal.loop-len-init
loop-len-init g c =
    let h = g.H.Handler in (
      [],
      [],
      Pulled-nil _,
      Cuts-nil _ c.requires.empty,
      rw c.requires.empty tt,
      rw c.requires.empty (omega arith),
      refl {a = 0},
      Handled-none (h.rules c.args.handler.now) g.row.MAX_SIZE _ _,
      c.requires.nothing_waits,
      refl,
    )

pub returns-in-Err-clause-read : goal.returns-in-Err-clause-read
returns-in-Err-clause-read g c = λ _.
    let h = g.H.Handler in
    let so_far = c.loop-len.invariant in
    let failed = PullFailed-then _ _ _ so_far.0 so_far.2 c.in-Err.ensures.failed in
    exit-read (h.rules c.args.handler.now) g.row.MAX_SIZE _ _ _ _ _ _ so_far.0 so_far.1 c.loop-len.line.items failed.bytes so_far.3
    _ _
    so_far.4 so_far.5 failed so_far.7

pub returns-in_err-fed-clause-long : goal.returns-in_err-fed-clause-long
returns-in_err-fed-clause-long g c = λ is.
    let p = err_from_is_err_and c.from_residual.result c.from_residual.ensures.1 in
    let was : c.in_err-fed.field-0.0 ≡ LongLine = cc in
    let fault = c.in_err-fed.ensures.long (ap Err was) in
    let h = g.H.Handler in
    let so_far = c.loop-len.invariant in
    let piece = take c.in-Ok.len c.pull.new.piece in
    exit-long (h.rules c.args.handler.now) g.row.MAX_SIZE _ _ _ _ _ _ (so_far.0 ++ piece) (so_far.1 ++ fault.0) fault.1 fault.2
    (Pulled-then _ _ _ so_far.0 piece so_far.2 c.in-Ok.ensures.pulled).bytes
    (Cuts-more so_far.0 piece so_far.1 fault.0 c.loop-len.line.items _ so_far.3 fault.3)
    fault.4 fault.5
    (Handled-then (h.rules c.args.handler.now) g.row.MAX_SIZE _ _ _ _ _ _ so_far.1 fault.0 so_far.7 fault.6)

pub returns-in_err-fed-clause-write : goal.returns-in_err-fed-clause-write
returns-in_err-fed-clause-write g c = λ is.
    let p = err_from_is_err_and c.from_residual.result c.from_residual.ensures.1 in
    let was : c.in_err-fed.field-0.0 ≡ Write = cc in
    let fault = c.in_err-fed.ensures.write (ap Err was) in
    let h = g.H.Handler in
    let so_far = c.loop-len.invariant in
    let piece = take c.in-Ok.len c.pull.new.piece in
    exit-write (h.rules c.args.handler.now) g.row.MAX_SIZE _ _ _ _ _ _ (so_far.0 ++ piece) (so_far.1 ++ fault.0) fault.1
    (Pulled-then _ _ _ so_far.0 piece so_far.2 c.in-Ok.ensures.pulled).bytes
    (Cuts-more so_far.0 piece so_far.1 fault.0 c.loop-len.line.items _ so_far.3 fault.2)
    (BreaksAmong-then (h.rules c.args.handler.now) g.row.MAX_SIZE _ _ _ _ _ _ so_far.1 fault.0 so_far.7 fault.3)

pub returns-in_err-fed-clause-sink_failed : goal.returns-in_err-fed-clause-sink_failed
returns-in_err-fed-clause-sink_failed g c = λ is.
    let p = err_from_is_err_and c.from_residual.result c.from_residual.ensures.1 in
    let was : c.in_err-fed.field-0.0 ≡ Write = cc in
    let fault = c.in_err-fed.ensures.write (ap Err was) in
    let h = g.H.Handler in
    let so_far = c.loop-len.invariant in
    BreaksAmong-rises (h.rules c.args.handler.now) g.row.MAX_SIZE _ _ _ _ _ (BreaksAmong-then (h.rules c.args.handler.now)
    g.row.MAX_SIZE _
    _ _ _ _ _ so_far.1 fault.0 so_far.7 fault.3)

pub returns-in_err-fed-clause-memory : goal.returns-in_err-fed-clause-memory
returns-in_err-fed-clause-memory g c = λ is.
    let p = err_from_is_err_and c.from_residual.result c.from_residual.ensures.1 in
    let was : c.in_err-fed.field-0.0 ≡ Memory = cc in
    let fault = c.in_err-fed.ensures.memory (ap Err was) in
    let h = g.H.Handler in
    let so_far = c.loop-len.invariant in
    let piece = take c.in-Ok.len c.pull.new.piece in
    exit-memory (h.rules c.args.handler.now) g.row.MAX_SIZE _ _ _ _ _ _ (so_far.0 ++ piece) (so_far.1 ++ fault.0) fault.1
    (Pulled-then _ _ _ so_far.0 piece so_far.2 c.in-Ok.ensures.pulled).bytes
    (Cuts-more so_far.0 piece so_far.1 fault.0 c.loop-len.line.items _ so_far.3 fault.2)
    (StopsAmong-then (h.rules c.args.handler.now) g.row.MAX_SIZE _ _ _ _ _ _ so_far.1 fault.0 so_far.7 fault.3)

pub loop-len-preserved : goal.loop-len-preserved
loop-len-preserved g c =
    let h = g.H.Handler in
    let so_far = c.loop-len.invariant in
    let piece = take c.in-Ok.len c.pull.new.piece in
    let fed = c.in_ok-fed.ensures.ok in (
      so_far.0 ++ piece,
      so_far.1 ++ fed.0,
      Pulled-then _ _ _ so_far.0 piece so_far.2 c.in-Ok.ensures.pulled,
      Cuts-more so_far.0 piece so_far.1 fed.0 c.loop-len.line.items _ so_far.3 fed.1,
      fed.2,
      fed.3,
      omega (arith, length-append so_far.1 fed.0),
      Handled-then (h.rules c.args.handler.now) g.row.MAX_SIZE _ _ _ _ _ _ so_far.1 fed.0 so_far.7 fed.5,
      c.in_ok-fed.ensures.empty,
      c.in_ok-fed.ensures.same ∙ so_far.9,
    )

pub returns-in_err-last-clause-write : goal.returns-in_err-last-clause-write
returns-in_err-last-clause-write g c = λ is.
    let p = err_from_is_err_and c.from_residual-in_err-last.result c.from_residual-in_err-last.ensures.1 in
    let was : c.in_err-last.field-0.0 ≡ Write = cc in
    let h = g.H.Handler in
    let so_far = c.loop-len.invariant in
    exit-end _ _ so_far.0 so_far.1 c.loop-len.line.items
    (Pulled-none _ _ _ so_far.0 c.pull.new.piece c.in-Ok.len so_far.2 c.in-Ok.ensures.pulled c.if-len-eq0.true).bytes
    so_far.3
    (λ ls. BreaksAmong (h.rules c.args.handler.now) g.row.MAX_SIZE (h.view c.args.state.now)
    (g.W.Sink.written c.args.self.now.out.sink.now) ls (h.view c.finish.new.state)
    (g.W.Sink.written c.finish.new.self.out.sink.now))
    (c.in-Ok.ensures.end c.if-len-eq0.true (omega arith))
    (BreaksAmong-then (h.rules c.args.handler.now) g.row.MAX_SIZE _ _ _ _ _ _ so_far.1 (lines_of c.loop-len.line.items) so_far.7
    (rw (sym c.as_slice.ensures.value) (c.in_err-last.ensures.write (ap Err was))))

pub returns-in_err-last-clause-sink_failed : goal.returns-in_err-last-clause-sink_failed
returns-in_err-last-clause-sink_failed g c = λ is.
    let p = err_from_is_err_and c.from_residual-in_err-last.result c.from_residual-in_err-last.ensures.1 in
    let was : c.in_err-last.field-0.0 ≡ Write = cc in
    let h = g.H.Handler in
    let fault = c.in_err-last.ensures.write (ap Err was) in
    let so_far = c.loop-len.invariant in
    BreaksAmong-rises (h.rules c.args.handler.now) g.row.MAX_SIZE _ _ _ _ _ (BreaksAmong-then (h.rules c.args.handler.now)
    g.row.MAX_SIZE _
    _ _ _ _ _ so_far.1 _ so_far.7 fault)

pub returns-in_err-last-clause-memory : goal.returns-in_err-last-clause-memory
returns-in_err-last-clause-memory g c = λ is.
    let p = err_from_is_err_and c.from_residual-in_err-last.result c.from_residual-in_err-last.ensures.1 in
    let was : c.in_err-last.field-0.0 ≡ Memory = cc in
    let h = g.H.Handler in
    let so_far = c.loop-len.invariant in
    exit-end _ _ so_far.0 so_far.1 c.loop-len.line.items
    (Pulled-none _ _ _ so_far.0 c.pull.new.piece c.in-Ok.len so_far.2 c.in-Ok.ensures.pulled c.if-len-eq0.true).bytes
    so_far.3
    (λ ls. StopsAmong (h.rules c.args.handler.now) g.row.MAX_SIZE (h.view c.args.state.now)
    (g.W.Sink.written c.args.self.now.out.sink.now) ls (h.view c.finish.new.state)
    (g.W.Sink.written c.finish.new.self.out.sink.now))
    (c.in-Ok.ensures.end c.if-len-eq0.true (omega arith))
    (StopsAmong-then (h.rules c.args.handler.now) g.row.MAX_SIZE _ _ _ _ _ _ so_far.1 (lines_of c.loop-len.line.items) so_far.7
    (rw (sym c.as_slice.ensures.value) (c.in_err-last.ensures.memory (ap Err was))))

pub returns-clause-ok : goal.returns-clause-ok
returns-clause-ok g c =
    let h = g.H.Handler in
    let so_far = c.loop-len.invariant in
    let same = ap length (ap lines_of c.as_slice.ensures.value) in
    exit-ok (h.rules c.args.handler.now) g.row.MAX_SIZE _ _ _ _ _ _ so_far.0 so_far.1 c.loop-len.line.items
    (Pulled-none _ _ _ so_far.0 c.pull.new.piece c.in-Ok.len so_far.2 c.in-Ok.ensures.pulled c.if-len-eq0.true).bytes
    so_far.3
    c.saturating_add.result
    (c.in-Ok.ensures.end c.if-len-eq0.true (omega arith))
    (Handled-then (h.rules c.args.handler.now) g.row.MAX_SIZE _ _ _ _ _ _ so_far.1 (lines_of c.loop-len.line.items) so_far.7
    (rw (sym c.as_slice.ensures.value) c.in_ok-last.ensures.ok))
    (omega (arith, c.in_ok-last.ensures.count))

pub returns-in_err-fed-clause-handler_stops : goal.returns-in_err-fed-clause-handler_stops
returns-in_err-fed-clause-handler_stops g c = λ is.
    let p = err_from_is_err_and c.from_residual.result c.from_residual.ensures.1 in
    let was : c.in_err-fed.field-0.0 ≡ Memory = cc in
    let fault = c.in_err-fed.ensures.memory (ap Err was) in
    (_, fault.3.line, fault.3.stops)

pub returns-in_err-last-clause-handler_stops : goal.returns-in_err-last-clause-handler_stops
returns-in_err-last-clause-handler_stops g c = λ is.
    let p = err_from_is_err_and c.from_residual-in_err-last.result c.from_residual-in_err-last.ensures.1 in
    let was : c.in_err-last.field-0.0 ≡ Memory = cc in
    let fault = c.in_err-last.ensures.memory (ap Err was) in
    (_, fault.line, fault.stops)

pub returns-in-Err-clause-leads : goal.returns-in-Err-clause-leads
returns-in-Err-clause-leads g c = Handled-leads (g.H.Handler.rules c.args.handler.now) g.row.MAX_SIZE _ _ _ _ c.loop-len.invariant.1
    c.loop-len.invariant.7

pub returns-in_err-fed-clause-leads : goal.returns-in_err-fed-clause-leads
returns-in_err-fed-clause-leads g c =
    let rules = g.H.Handler.rules c.args.handler.now in
    let so_far = c.loop-len.invariant in
    let fed = c.in_err-fed.ensures in
    Leads-then rules g.row.MAX_SIZE _ _ _ (Handled-leads rules g.row.MAX_SIZE _ _ _ _ so_far.1 so_far.7)
    (at-fault c.in_err-fed.field-0.0
    (λ is. let long = fed.long is in Handled-leads rules g.row.MAX_SIZE _ _ _ _ long.0 long.6)
    (λ is. let stopped = fed.memory is in StopsAmong-leads rules g.row.MAX_SIZE _ _ _ _ stopped.0 stopped.3)
    (λ is. let broke = fed.write is in BreaksAmong-leads rules g.row.MAX_SIZE _ _ _ _ broke.0 broke.3)
    fed.others)

pub returns-in_err-last-clause-leads : goal.returns-in_err-last-clause-leads
returns-in_err-last-clause-leads g c =
    let rules = g.H.Handler.rules c.args.handler.now in
    let so_far = c.loop-len.invariant in
    let last = c.in_err-last.ensures in
    Leads-then rules g.row.MAX_SIZE _ _ _ (Handled-leads rules g.row.MAX_SIZE _ _ _ _ so_far.1 so_far.7)
    (at-fault c.in_err-last.field-0.0
    (λ is. absurd (last.others.0 is))
    (λ is. StopsAmong-leads rules g.row.MAX_SIZE _ _ _ _ _ (last.memory is))
    (λ is. BreaksAmong-leads rules g.row.MAX_SIZE _ _ _ _ _ (last.write is))
    last.others.1)

pub returns-clause-leads : goal.returns-clause-leads
returns-clause-leads g c =
    let rules = g.H.Handler.rules c.args.handler.now in
    let so_far = c.loop-len.invariant in
    Leads-then rules g.row.MAX_SIZE _ _ _ (Handled-leads rules g.row.MAX_SIZE _ _ _ _ so_far.1 so_far.7) (Handled-leads rules
    g.row.MAX_SIZE _ _
    _ _ _ c.in_ok-last.ensures.ok)
