use Rattle.std.proofs.Common.{length, ap, arith}
use Rattle.std.proofs.lemmas.List.{length-map}
use Rattle.session_log.specs.Logs.{bytes_of}
use Rattle.can_session.proofs.session.Session.apply.Goals as goal

pub returns-in_err-shown-clause-meter : goal.returns-in_err-shown-clause-meter
returns-in_err-shown-clause-meter c =
    let accepted = c.in_ok-accepted.ensures in
    rw (← c.self.view_is) (rw accepted.done (rw (accepted.before, accepted.edit) at c.made.ensures.made))

pub returns-clause-meter : goal.returns-clause-meter
returns-clause-meter c =
    let accepted = c.in_ok-accepted.ensures in
    rw (← c.self.view_is) (rw accepted.done (rw (accepted.before, accepted.edit) at c.made.ensures.made))

pub invariant_of-self-2 : goal.invariant_of-self-2
invariant_of-self-2 c =
    let lines = c.exchange.ensures.lines in
    record {
      decoded = c.exchange.ensures.decoded (record { database = c.in_ok-shown.shown; short = c.self.inside.options.short })
          (rw c.in_ok-shown.ensures.shown c.in_ok-shown.ensures.redecoded);
      few = omega (
        arith,
        c.self.invariant.few,
        ap length lines,
        length-map c.exchange.new.self bytes_of,
        length-map c.self.inside.log bytes_of,
      );
    }
