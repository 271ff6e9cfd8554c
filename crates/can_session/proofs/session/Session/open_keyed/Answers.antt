use Rattle.std.proofs.Common.{inl, refl}
use Rattle.can_session.proofs.session.Session.open_keyed.Goals as goal

pub returns-in-Err : goal.returns-in-Err
returns-in-Err c = inl refl
