use Rattle.std.proofs.Common.{◌≡◌, [], rules}
use Rattle.std.proofs.lemmas.Result.{MatchResult-from_err}
use Rattle.byte_devices.proofs.Writes.{Broke-more, Broke-then, Passes-all}
use Rattle.byte_devices.proofs.sending.Out.make_space.Goals as goal

pub returns-in_err-flush : goal.returns-in_err-flush
returns-in_err-flush g c =
    MatchResult-from_err c.from_residual.result _ _ c.from_residual.ensures.0
    (λ _. record {
      same = c.in_err-flush.ensures.same;
      broke = Broke-more _ _ c.args.self.now.held.items c.args.bytes.now
          c.in_err-flush.ensures.prints;
    })

pub returns-in_err-put_all : goal.returns-in_err-put_all
returns-in_err-put_all g c =
    MatchResult-from_err c.from_residual-in_err-put_all.result _ _ c.from_residual-in_err-put_all.ensures.0
    (λ _. record {
      same = c.in_ok-flush.ensures.same;
      broke = Broke-then _ _ _ c.args.self.now.held.items c.args.bytes.now
          c.in_ok-flush.ensures.prints c.in_err-put_all.ensures;
    })

pub returns-in_ok-put_all : goal.returns-in_ok-put_all
returns-in_ok-put_all g c =
    let none : c.try_push.new.self.items ≡ [] = search rules in
    record {
      same = c.in_ok-flush.ensures.same;
      passes = rw none (Passes-all _ _ _ c.args.self.now.held.items c.args.bytes.now
          c.in_ok-flush.ensures.prints c.in_ok-put_all.ensures);
    }
