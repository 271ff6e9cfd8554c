use Rattle.session_log.specs.Touched.{edit_numbers}
use Rattle.session_log.proofs.Edits.{others}
use Rattle.session_log.proofs.Frames.{decoded_line-same}
use Rattle.session_log.proofs.reach_laws.untouched_lines_stay.Goals as goal

pub returns : goal.returns
returns c = λ short before after edit line ok untouched. decoded_line-same short (edit_numbers before edit) before after
    (others before after edit ok) line untouched
