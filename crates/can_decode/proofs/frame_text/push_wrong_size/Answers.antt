use Rattle.std.proofs.Common.{◌≡◌, ◌∙◌}
use Rattle.std.specs.Fmt.{decimal}
use Rattle.can_decode.specs.DecodedLines.{wrong_size_text}
use Rattle.can_decode.proofs.frame_text.push_wrong_size.Goals as goal

pub returns : goal.returns
unfolding wrong_size_text
returns c =
    let there : c.as_bytes.result.now ≡ decimal c.args.there = c.as_bytes.ensures.value ∙ c.format.ensures.text in
    let wanted : c.as_bytes-2.result.now ≡ decimal c.args.wanted = c.as_bytes-2.ensures.value ∙ c.format-2.ensures.text in
    rw (← there, ← wanted) c.push_pieces.ensures
