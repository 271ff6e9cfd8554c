use Rattle.std.proofs.Common.{◌≡◌, take}
use Rattle.can_json_lines.specs.PreparedTexts.{all_texts}
use Rattle.can_json_lines.proofs.prepared.texts_of_all.Given as goal

-- what is prepared of the messages so far
abbrev pub invariant-loop-index : goal.invariant-loop-index
invariant-loop-index g l = l.texts.items ≡ take l.index (all_texts g.P.Prepare.head_of g.P.Prepare.signal_of l.decoding.database)
