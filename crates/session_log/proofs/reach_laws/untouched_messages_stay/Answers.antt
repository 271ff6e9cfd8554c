use Rattle.session_log.specs.Touched.{edit_numbers}
use Rattle.session_log.proofs.Edits.{others}
use Rattle.session_log.proofs.Frames.{plan-same, picture-same}
use Rattle.session_log.proofs.reach_laws.untouched_messages_stay.Goals as goal

pub returns-clause-plan : goal.returns-clause-plan
returns-clause-plan c = λ before after edit message ok out. plan-same (edit_numbers before edit) before after message
    (others before after edit ok) out

pub returns-clause-picture : goal.returns-clause-picture
returns-clause-picture c = λ before after edit message ok out. picture-same (edit_numbers before edit) before after message
    (others before after edit ok) out
