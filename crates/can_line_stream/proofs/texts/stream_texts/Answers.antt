use Rattle.can_line_stream.proofs.OfTexts.{Streams-of}
use Rattle.can_line_stream.proofs.texts.stream_texts.Goals as goal

pub returns : goal.returns
returns g c = Streams-of (record { text_of = g.T.LineText.text_of; next = g.T.LineText.next }) g.met.T.LineText.same_texts _ _ _ _ _
    _ c.stream_lines.result c.stream_lines.ensures.ends c.stream_lines.ensures.leads
