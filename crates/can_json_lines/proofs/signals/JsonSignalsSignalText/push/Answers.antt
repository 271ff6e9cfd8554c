use Rattle.std.proofs.Common.{◌≡◌, ◌++◌, Some, slice_get, if◌then◌else◌, ap, ◌∙◌, rules}
use Rattle.can_layout.specs.Plans.{Plan}
use Rattle.can_json_lines.specs.declared.plan_texts.RowTexts.{RowTexts}
use Rattle.can_json_lines.proofs.Labels.{next_pushed}
use Rattle.can_json_lines.proofs.signals.JsonSignalsSignalText.push.Goals as goal

pub returns : goal.returns
returns c =
    λ row here.
    let there : Some row ≡ slice_get c.self.inside.target.now.plan.rows c.args.index =
    cc (here, ap (λ (plan : Plan). slice_get plan.rows c.args.index) c.self.view_is) in
    next_pushed c.args.some c.args.text.now.items c.push_label.new.text.items c.push_after_label.new.text.items c.args.bytes.now
    row (search rules)
    (c.in_ok-push_label.ensures
    ∙ ap (λ (texts : RowTexts). c.args.text.now.items ++ (if c.args.some then texts.next else texts.label))
    (c.signal-texts.ensures row there))
