use Rattle.std.proofs.Common.{◌*◌, ap, arith, length-set, sym, ◌∙◌}
use Rattle.std.specs.Result.{result_ok}
use Rattle.hex.proofs.Pairs.{decode_step}
use Rattle.can_frames.proofs.Digits.{all_read, ok_of, one_fails}
use Rattle.can_frames.proofs.pairs.bytes_of_pairs.Goals as goal

pub bytes-preserved : goal.bytes-preserved
bytes-preserved g c =
    let same = length-set c.bytes.out c.bytes.i c.in-Some.byte in
    record {
      pairs = omega (arith, same, c.bytes.invariant.pairs);
      ends = same ∙ c.bytes.invariant.ends;
      so_far = decode_step _ _ c.bytes.i _ (omega (arith, c.bytes.invariant.pairs, c.bytes.invariant.ends, c.bytes-test.true))
          (omega (arith, c.bytes.invariant.ends, c.bytes-test.true)) (ok_of _ _ (c.in-Some.ensures (2 * c.bytes.i)))
          c.bytes.invariant.so_far;
    }

pub returns-in_default : goal.returns-in_default
returns-in_default g c =
    one_fails _ c.bytes.out c.bytes.i c.bytes.invariant.pairs (omega (arith, c.bytes.invariant.ends, c.bytes-test.true))
    (c.in_default.ensures (2 * c.bytes.i)) c.bytes.invariant.so_far

pub returns : goal.returns
returns g c =
    sym (ap result_ok (all_read _ _ c.bytes.i c.bytes.invariant.pairs (omega (arith, c.bytes.invariant.ends, c.bytes-test.false))
    c.bytes.invariant.so_far))
