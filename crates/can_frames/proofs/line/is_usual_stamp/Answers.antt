use Rattle.can_frames.proofs.UsualStamps.{usual}
use Rattle.can_frames.proofs.line.is_usual_stamp.Goals as goal

pub returns-clause-stamp : goal.returns-clause-stamp
returns-clause-stamp c passes = (usual c.args.bytes.now c.requires passes).stamp

pub returns-clause-blank : goal.returns-clause-blank
returns-clause-blank c passes = (usual c.args.bytes.now c.requires passes).blank
