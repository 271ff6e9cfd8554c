use Rattle.std.proofs.Common.{◌≡◌, sym, ap, ◌∙◌}
use Rattle.can_frames.specs.Frames.{Frame}
use Rattle.can_frames.specs.declared.frame.Kind.TheVariants.{Remote}
use Rattle.can_json_lines.proofs.frame.push_stated.Goals as goal

pub returns-in-Remote : goal.returns-in-Remote
returns-in-Remote c =
    let kind : c.args.frame.now.kind ≡ Remote = ap (λ (frame : Frame). frame.kind) (sym c.frame.view_is) ∙ c.in-Remote.is in
    rw kind c.push_cause-in-Remote.ensures
