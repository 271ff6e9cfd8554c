use Rattle.std.proofs.Common.{◌≡◌, None, refl, arith}
use Rattle.std.specs.Prelude.{slice_get}
use Rattle.std.proofs.lemmas.Option.{slice_get_past}
use Rattle.session_log.proofs.Positions.{line_there}
use Rattle.session_log.proofs.Reached.{untouched_by_number}
use Rattle.session_log.proofs.log.Log.is_untouched_at.Goals as goal

pub returns-then-position-len : goal.returns-then-position-len
returns-then-position-len c =
    rw (line_there c.args.self.now c.args.position, ← c.line.ensures.line, c.number_touched.ensures)
    (untouched_by_number c.args.numbers.now c.line.result.now c.line.ensures.numbered)

pub returns-else-position-len : goal.returns-else-position-len
returns-else-position-len c =
    let past : slice_get c.args.self.now c.args.position ≡ None = slice_get_past c.args.self.now c.args.position
    (omega (arith, c.if-position-len.false, c.len.ensures)) in
    rw (line_there c.args.self.now c.args.position, past) refl
