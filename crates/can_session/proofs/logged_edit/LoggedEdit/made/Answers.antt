use Rattle.std.proofs.Common.{length, ap, arith}
use Rattle.std.proofs.lemmas.List.{length-map}
use Rattle.session_database.specs.Acceptance.{numbers_of}
use Rattle.session_log.specs.Logs.{bytes_of}
use Rattle.session_log.proofs.Positions.{all_done}
use Rattle.can_session.proofs.Raising.{fewer_decoded, made_then_decoded}
use Rattle.can_session.proofs.logged_edit.LoggedEdit.made.Goals as goal

pub decode_positions-requires : goal.decode_positions-requires
decode_positions-requires c =
    let covers = c.in_ok-positions.ensures in
    rw c.as_slice.ensures.value (λ k d within. omega (arith, covers.within k d within, length-map c.args.self.log.now bytes_of))

pub returns-in_err-redecoded-clause-made : goal.returns-in_err-redecoded-clause-made
returns-in_err-redecoded-clause-made c =
    let covers = rw (c.numbers.ensures, c.in_ok-applied.ensures.same) at c.in_ok-positions.ensures in
    let decoded = fewer_decoded _ _ _ _ (omega (arith, ap length c.as_slice.ensures.value, covers.few))
    c.decode_positions.ensures.lines in
    made_then_decoded _ _ c.args.meter.now c.applied.new.meter c.decode_positions.new.meter c.applied.ensures.made decoded

pub returns-clause-made : goal.returns-clause-made
returns-clause-made c =
    let covers = rw (c.numbers.ensures, c.in_ok-applied.ensures.same) at c.in_ok-positions.ensures in
    let decoded = fewer_decoded _ _ _ _ (omega (arith, ap length c.as_slice.ensures.value, covers.few))
    c.decode_positions.ensures.lines in
    made_then_decoded _ _ c.args.meter.now c.applied.new.meter c.decode_positions.new.meter c.applied.ensures.made decoded

pub returns-clause-redecoded : goal.returns-clause-redecoded
returns-clause-redecoded c =
    let accepted = c.args.self.accepted in
    let short = c.args.self.short in
    let same = c.in_ok-applied.ensures.same in
    all_done (record { database = accepted.before; short = short }) (record { database = accepted.after; short = short })
    (numbers_of accepted) c.args.self.log.now c.in_ok-positions.positions.items c.in_ok-redecoded.redecoded.items
    (λ line untouched. c.untouched_lines_stay.ensures short accepted.before accepted.after accepted.edit line
    (rw same at c.shown.ensures.done) untouched)
    c.args.self.decoded
    (rw (c.numbers.ensures, same) at c.in_ok-positions.ensures)
    (rw (c.as_slice.ensures.value, c.shown.ensures.shown, same) at c.in_ok-redecoded.ensures.texts)
