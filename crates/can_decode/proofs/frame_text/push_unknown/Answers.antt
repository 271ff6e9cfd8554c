use Rattle.std.proofs.Common.{◌≡◌, ◌∙◌, false}
use Rattle.std.specs.Fmt.{decimal, digits}
use Rattle.can_decode.specs.DecodedLines.{unknown_text}
use Rattle.can_decode.proofs.frame_text.push_unknown.Goals as goal

pub returns : goal.returns
unfolding unknown_text
returns c =
    let number : c.as_bytes.result.now ≡ decimal c.args.identifier = c.as_bytes.ensures.value ∙ c.format-2.ensures.text in
    let hexadecimal : c.as_bytes-2.result.now ≡ digits 16 false c.args.identifier =
    c.as_bytes-2.ensures.value ∙ (rw c.in_radix.ensures at c.in_ok-hexadecimal.ensures.ok) in
    rw (← number, ← hexadecimal) c.push_pieces.ensures
