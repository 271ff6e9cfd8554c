use Rattle.std.proofs.Common.{◌<◌, ◌++◌, ℕ, [], length, codes, arith}
use Rattle.std.proofs.lemmas.List.{length-map}
use Rattle.std.proofs.lemmas.Result.{MatchResult-from_err}
use Rattle.byte_devices.proofs.Outs.{Took-item, Lost-item}
use Rattle.can_decode.specs.DecodedLines.{decoded_line}
use Rattle.session_script.specs.Replies.{decoded_texts}
use Rattle.session_script.proofs.Layouts.{at_index}
use Rattle.session_script.proofs.replies.send_lines.Goals as goal

pub returns-in_err-send_line : goal.returns-in_err-send_line
returns-in_err-send_line g c =
    let state = c.args.session.now.state in
    let n : ℕ = c.loop-n.n in
    let within : n < length (decoded_texts state) = omega (
      arith,
      c.loop-n-test.true,
      c.line_count-n-end.ensures,
      length-map state.lines (decoded_line state.options.short state.database),
    ) in
    MatchResult-from_err c.from_residual.result _ _ c.from_residual.ensures.0
    (λ _. Lost-item g.W.Sink.written (λ text. text ++ codes "\n") (decoded_texts state) n c.decoded.result.now [] _ _ _ within
    (at_index (decoded_line state.options.short state.database) state.lines n c.decoded.result.now [] c.decoded.ensures)
    c.loop-n.invariant c.in_err-send_line.ensures)

pub loop-n-preserved : goal.loop-n-preserved
loop-n-preserved g c =
    let state = c.args.session.now.state in
    let n : ℕ = c.loop-n.n in
    let within : n < length (decoded_texts state) = omega (
      arith,
      c.loop-n-test.true,
      c.line_count-n-end.ensures,
      length-map state.lines (decoded_line state.options.short state.database),
    ) in
    Took-item g.W.Sink.written (λ text. text ++ codes "\n") (decoded_texts state) n c.decoded.result.now [] _ _ _ within
    (at_index (decoded_line state.options.short state.database) state.lines n c.decoded.result.now [] c.decoded.ensures)
    c.loop-n.invariant c.in_ok-send_line.ensures
