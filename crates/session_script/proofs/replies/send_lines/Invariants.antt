use Rattle.std.proofs.Common.{◌++◌, take, codes}
use Rattle.std.specs.List.{flat_map}
use Rattle.byte_devices.specs.Outs.{Took}
use Rattle.session_script.specs.Replies.{decoded_texts}
use Rattle.session_script.proofs.replies.send_lines.Given as goal

-- the lines so far went through the buffer
abbrev pub invariant-loop-n : goal.invariant-loop-n
invariant-loop-n g l =
    Took g.W.Sink.written l.initial.out l.out (flat_map (λ text. text ++ codes "\n") (take l.n (decoded_texts l.session.state)))
