use Rattle.std.proofs.Common.{rules}
use Rattle.std.proofs.lemmas.Result.{MatchResult-from_err}
use Rattle.byte_devices.proofs.Writes.{Broke-inside, Wrote-more}
use Rattle.byte_devices.proofs.device.put_all.Goals as goal

pub returns-in_err-count : goal.returns-in_err-count
returns-in_err-count g c =
    MatchResult-from_err c.from_residual.result _ _ c.from_residual.ensures.0
    (λ _. Broke-inside _ _ _ c.loop-done.done c.args.bytes.now c.in_err-count.ensures.broke c.loop-done.invariant.wrote)

pub loop-done-preserved : goal.loop-done-preserved
loop-done-preserved g c = record {
  in_range = search rules;
  wrote = Wrote-more _ _ _ c.loop-done.done c.in_ok-count.count c.args.bytes.now
      (rw c.split_at.ensures.back at c.in_ok-count.ensures.wrote) c.loop-done.invariant.wrote;
}
