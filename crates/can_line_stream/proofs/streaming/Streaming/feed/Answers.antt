use Rattle.std.proofs.Common.{◌≡◌, ◌+◌, ◌<◌, [], ◌∷◌, ◌++◌, Err, ap, ◌∙◌, arith, refl, rules, length, length-append, append-nil}
use Rattle.std.proofs.lemmas.Result.{err_from_is_err_and}
use Rattle.can_line_stream.specs.declared.fault.StreamFault.TheVariants.{LongLine, Memory, Write}
use Rattle.can_line_stream.proofs.Handling.{AllByRecursion-append, HandledBut-none, HandledBut-next, Handled-flush, StopsAmong-at}
use Rattle.can_line_stream.proofs.Handling.{BreaksAmong-at, BreaksAmong-state_after}
use Rattle.can_line_stream.proofs.Reading.{Cuts-at, Cuts-one}
use Rattle.can_line_stream.proofs.streaming.Streaming.feed.Goals as goal

pub loop-head-init : goal.loop-head-init
loop-head-init g c =
    let h = g.H.Handler in (
      [],
      record { whole = refl; each = tt },
      c.requires.no_line_feed,
      refl {a = 0},
      rw c.requires.empty (HandledBut-none (h.rules c.args.handler.now) g.row.MAX_SIZE (h.view c.args.state.now)
          (g.W.Sink.written c.args.self.now.out.sink.now) (g.met.H.Handler.nothing_waits c.args.handler.now)),
      refl,
    )

pub end_line-requires : goal.end_line-requires
end_line-requires g c =
    let so_far = c.loop-head.invariant in (
      search rules,
      (
        AllByRecursion-append _ c.loop-head.line.items c.in-Some.head.now so_far.2 c.in-Some.ensures.head,
        so_far.4.waits,
      ),
    )

pub returns-in_err-end_line-clause-long : goal.returns-in_err-end_line-clause-long
returns-in_err-end_line-clause-long g c = λ is.
    let p = err_from_is_err_and c.from_residual.result c.from_residual.ensures.1 in
    let was : c.in_err-end_line.field-0.0 ≡ LongLine = cc in
    let fault = c.in_err-end_line.ensures.long (ap Err was) in
    let h = g.H.Handler in
    let so_far = c.loop-head.invariant in (
      so_far.0,
      c.loop-head.line.items ++ c.in-Some.head.now,
      10 ∷ c.in-Some.tail.now,
      Cuts-at _ so_far.0 c.loop-head.line.items c.loop-head.rest.now c.in-Some.head.now c.in-Some.tail.now so_far.1
          c.in-Some.ensures.parts,
      AllByRecursion-append _ c.loop-head.line.items c.in-Some.head.now so_far.2 c.in-Some.ensures.head,
      fault.0,
      Handled-flush (h.rules c.args.handler.now) g.row.MAX_SIZE _ _ _ _ _ _ so_far.0 c.loop-head.self.out.held.items so_far.4
          fault.1
          fault.2,
    )

pub returns-in_err-end_line-clause-memory : goal.returns-in_err-end_line-clause-memory
returns-in_err-end_line-clause-memory g c = λ is.
    let p = err_from_is_err_and c.from_residual.result c.from_residual.ensures.1 in
    let was : c.in_err-end_line.field-0.0 ≡ Memory = cc in
    let fault = c.in_err-end_line.ensures.memory (ap Err was) in
    let h = g.H.Handler in
    let so_far = c.loop-head.invariant in
    let next = c.loop-head.line.items ++ c.in-Some.head.now in
    let at = Cuts-at _ so_far.0 c.loop-head.line.items c.loop-head.rest.now c.in-Some.head.now c.in-Some.tail.now so_far.1
    c.in-Some.ensures.parts in
    let no_line_feed = AllByRecursion-append _ c.loop-head.line.items c.in-Some.head.now so_far.2 c.in-Some.ensures.head in (
      so_far.0 ++ next ∷ [],
      c.in-Some.tail.now,
      Cuts-one _ so_far.0 next c.in-Some.tail.now at no_line_feed,
      StopsAmong-at (h.rules c.args.handler.now) g.row.MAX_SIZE _ _ _ _ _ _ so_far.0 next c.loop-head.self.out.held.items so_far.4
          fault,
    )

pub returns-in_err-end_line-clause-write : goal.returns-in_err-end_line-clause-write
returns-in_err-end_line-clause-write g c = λ is.
    let p = err_from_is_err_and c.from_residual.result c.from_residual.ensures.1 in
    let was : c.in_err-end_line.field-0.0 ≡ Write = cc in
    let fault = c.in_err-end_line.ensures.write (ap Err was) in
    let h = g.H.Handler in
    let so_far = c.loop-head.invariant in
    let next = c.loop-head.line.items ++ c.in-Some.head.now in
    let at = Cuts-at _ so_far.0 c.loop-head.line.items c.loop-head.rest.now c.in-Some.head.now c.in-Some.tail.now so_far.1
    c.in-Some.ensures.parts in
    let no_line_feed = AllByRecursion-append _ c.loop-head.line.items c.in-Some.head.now so_far.2 c.in-Some.ensures.head in (
      so_far.0 ++ next ∷ [],
      c.in-Some.tail.now,
      Cuts-one _ so_far.0 next c.in-Some.tail.now at no_line_feed,
      BreaksAmong-at (h.rules c.args.handler.now) g.row.MAX_SIZE _ _ _ _ _ _ so_far.0 next c.loop-head.self.out.held.items so_far.4
          fault,
    )

pub loop-head-preserved : goal.loop-head-preserved
loop-head-preserved g c =
    let so_far = c.loop-head.invariant in
    let h = g.H.Handler in
    let next = c.loop-head.line.items ++ c.in-Some.head.now in
    let end = c.in_ok-end_line.ensures in
    let at = Cuts-at _ so_far.0 c.loop-head.line.items c.loop-head.rest.now c.in-Some.head.now c.in-Some.tail.now so_far.1
    c.in-Some.ensures.parts in
    let no_line_feed = AllByRecursion-append _ c.loop-head.line.items c.in-Some.head.now so_far.2 c.in-Some.ensures.head in (
      so_far.0 ++ next ∷ [],
      rw end.empty (Cuts-one _ so_far.0 next c.in-Some.tail.now at no_line_feed),
      rw end.empty tt,
      omega (arith, length-append so_far.0 (next ∷ [])),
      HandledBut-next (h.rules c.args.handler.now) g.row.MAX_SIZE _ _ _ _ _ _ so_far.0 next c.loop-head.self.out.held.items
          c.end_line.new.self.out.held.items so_far.4 end.short end.ok,
      end.same ∙ so_far.5,
    )

pub returns-in-Err-clause-write : goal.returns-in-Err-clause-write
returns-in-Err-clause-write g c = λ _.
    let h = g.H.Handler in
    let so_far = c.loop-head.invariant in (
      so_far.0,
      c.loop-head.line.items ++ c.loop-head.rest.now,
      so_far.1,
      rw (append-nil so_far.0) at (BreaksAmong-state_after (h.rules c.args.handler.now) g.row.MAX_SIZE _ _ _ _ _ _ so_far.0 []
          c.loop-head.self.out.held.items so_far.4 refl c.in-Err.ensures.some c.in-Err.ensures.prints),
    )

pub returns-then-is_err-clause-long : goal.returns-then-is_err-clause-long
returns-then-is_err-clause-long g c = λ _.
    let h = g.H.Handler in
    let so_far = c.loop-head.invariant in
    let long = c.loop-head.line.items ++ c.loop-head.rest.now in
    let refused : g.row.MAX_SIZE < length c.loop-head.line.items + length c.loop-head.rest.now = search rules in (
      so_far.0,
      long,
      [],
      rw (append-nil long) so_far.1,
      AllByRecursion-append _ c.loop-head.line.items c.loop-head.rest.now so_far.2 c.in_default.ensures.none,
      omega (arith, length-append c.loop-head.line.items c.loop-head.rest.now),
      Handled-flush (h.rules c.args.handler.now) g.row.MAX_SIZE _ _ _ _ _ _ so_far.0 c.loop-head.self.out.held.items so_far.4 refl
          c.in_default-flush_held.ensures.prints,
    )
