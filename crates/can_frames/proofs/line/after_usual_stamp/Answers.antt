use Rattle.std.proofs.Common.{sym}
use Rattle.can_frames.proofs.UsualLines.{usual_stamp}
use Rattle.can_frames.proofs.line.after_usual_stamp.Goals as goal

pub returns-clause-stamp : goal.returns-clause-stamp
returns-clause-stamp c =
    (usual_stamp c.args.body.now c.in_ok-stamp.stamp.now c.in_ok-stamp.after.now c.in_ok-stamp.ensures.cases.0
    c.in_ok-stamp.ensures.cases.1 (c.is_usual_stamp.ensures.stamp c.if-not-is_usual_stamp.false)
    (c.is_usual_stamp.ensures.blank c.if-not-is_usual_stamp.false) (sym c.if-begins_with_blank.ensures)).stamp

pub returns-clause-after : goal.returns-clause-after
returns-clause-after c =
    (usual_stamp c.args.body.now c.in_ok-stamp.stamp.now c.in_ok-stamp.after.now c.in_ok-stamp.ensures.cases.0
    c.in_ok-stamp.ensures.cases.1 (c.is_usual_stamp.ensures.stamp c.if-not-is_usual_stamp.false)
    (c.is_usual_stamp.ensures.blank c.if-not-is_usual_stamp.false) (sym c.if-begins_with_blank.ensures)).rest
