use Rattle.std.proofs.Common.{arith, sym, ap, length, length-append, ◌∙◌}
use Rattle.can_frames.proofs.Pieces.{so_far, starts, goes_on, fails, given_following}
use Rattle.can_frames.proofs.reading.bytes_of.Goals as goal

pub sixteens-init : goal.sixteens-init
sixteens-init c =
    let none = c.new-bytes.ensures in
    record {
      count = omega (arith, ap length none);
      same = ap (λ items. so_far items c.args.digits.now) none ∙ starts c.args.digits.now;
    }

pub returns-in_default-bytes_of_sixteen : goal.returns-in_default-bytes_of_sixteen
returns-in_default-bytes_of_sixteen c =
    fails 8 c.sixteens.bytes.items c.sixteens.rest.now _ _ c.sixteens.invariant.same c.in-Some.ensures.cases.0
    c.in-Some.ensures.cases.1 c.in-Some.ensures.cases.2 c.in_default-bytes_of_sixteen.ensures

pub sixteens-preserved : goal.sixteens-preserved
sixteens-preserved c =
    let items = c.push_bytes.ensures in
    let count = ap length items ∙ length-append c.sixteens.bytes.items c.in-Some-bytes_of_sixteen.eight in
    record {
      count = omega (arith, count, c.sixteens.invariant.count, c.in-Some.ensures.cases.2);
      same = ap (λ items. so_far items c.in-Some.after.now) items
          ∙ goes_on 8 c.sixteens.bytes.items c.sixteens.rest.now _ _ c.sixteens.invariant.same c.in-Some.ensures.cases.0
          c.in-Some.ensures.cases.1 c.in-Some.ensures.cases.2 _ c.in-Some-bytes_of_sixteen.ensures;
    }

pub returns-then-push_pairs : goal.returns-then-push_pairs
returns-then-push_pairs c =
    c.if-push_pairs.ensures ∙ sym (given_following c.sixteens.bytes.items c.sixteens.rest.now) ∙ c.sixteens.invariant.same

pub returns-else-push_pairs : goal.returns-else-push_pairs
returns-else-push_pairs c =
    c.if-push_pairs.ensures ∙ sym (given_following c.sixteens.bytes.items c.sixteens.rest.now) ∙ c.sixteens.invariant.same
