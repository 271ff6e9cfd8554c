use Rattle.std.proofs.Common.{arith, ap, length, length-append, ◌∙◌}
use Rattle.can_frames.proofs.Pieces.{so_far, goes_on, fails, ends, given_following}
use Rattle.can_frames.proofs.reading.push_pairs.Goals as goal

pub returns-in_default-bytes_of_pairs : goal.returns-in_default-bytes_of_pairs
returns-in_default-bytes_of_pairs c =
    fails 1 c.pairs.bytes.items c.pairs.rest.now _ _ c.pairs.invariant.same c.in-Some.ensures.cases.0 c.in-Some.ensures.cases.1
    c.in-Some.ensures.cases.2 c.in_default-bytes_of_pairs.ensures ∙ given_following c.args.bytes.now.items c.args.digits.now

pub pairs-preserved : goal.pairs-preserved
pairs-preserved c =
    let items = c.push_bytes.ensures in
    let count = ap length items ∙ length-append c.pairs.bytes.items c.in-Some-bytes_of_pairs.one in
    record {
      space = omega (arith, count, c.pairs.invariant.space, c.in-Some.ensures.cases.2);
      same = ap (λ items. so_far items c.in-Some.after.now) items
          ∙ goes_on 1 c.pairs.bytes.items c.pairs.rest.now _ _ c.pairs.invariant.same c.in-Some.ensures.cases.0
          c.in-Some.ensures.cases.1 c.in-Some.ensures.cases.2 _ c.in-Some-bytes_of_pairs.ensures;
    }

pub returns : goal.returns
returns c =
    rw c.is_empty.ensures (ends c.pairs.bytes.items c.pairs.rest.now c.pairs.invariant.same c.in_default.ensures.cases)
    ∙ given_following c.args.bytes.now.items c.args.digits.now
