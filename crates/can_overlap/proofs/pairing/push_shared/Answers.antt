use Rattle.std.proofs.Common.{ℕ, ◌+◌, ◌-◌, ◌<◌, ◌≡◌, List, ◌++◌, length, length-drop, take, drop, arith, ap, sym, ◌∙◌}
use Rattle.std.specs.List.{enumerate_from, flat_map}
use Rattle.can_entries.specs.Links.{Link}
use Rattle.can_entries.specs.declared.walk.Walk.{Walk}
use Rattle.can_entries.specs.declared.walk.Walk.TheVariants.{Loop}
use Rattle.can_overlap.specs.Overlaps.{pair_where}
use Rattle.can_overlap.specs.declared.pair.Pair.{Pair}
use Rattle.can_overlap.specs.inner.Occupancy.{shared_pair}
use Rattle.can_overlap.specs.inner.IndexSet.{has}
use Rattle.can_overlap.specs.inner.MuxPaths.{goes_at}
use Rattle.can_overlap.proofs.Gone.{goes_after}
use Rattle.can_overlap.proofs.Sharing.{none_shared, next_shared, all_shared}
use Rattle.can_overlap.proofs.pairing.push_shared.Goals as goal

pub loop-next-init : goal.loop-next-init
loop-next-init c =
    let from : ℕ = c.args.first + 1 in
    record {
      forward = c.next_from-next.ensures.forward;
      shared = c.next_from-next.ensures.found;
      noted = c.requires.noted;
      done = none_shared c.args.first c.args.indexed.now.links c.args.shared.now.words from (drop from c.args.indexed.now.walks)
          c.args.found.now.items (c.next_from-next.result - from) (0, Loop)
          (λ k low high. c.next_from-next.ensures.none_between (from + k) (omega arith) (omega arith));
    }

pub loop-next-preserved : goal.loop-next-preserved
loop-next-preserved c =
    let from : ℕ = c.args.first + 1 in
    let links : List Link = c.args.indexed.now.links in
    let walks : List Walk = c.args.indexed.now.walks in
    let words : List ℕ = c.args.shared.now.words in
    let forward = c.loop-next.invariant.forward in
    let onward = c.next_from-next-in-loop-next.ensures.forward in
    record {
      forward = omega arith;
      shared = c.next_from-next-in-loop-next.ensures.found;
      noted = c.in_ok-push_pair.ensures.noted;
      done =
          let a : ℕ = c.loop-next.next - from in
          let later : List Walk = drop from walks in
          let done : ℕ → List Pair = λ n. c.args.found.now.items ++ flat_map (shared_pair c.args.first links words)
          (take n (enumerate_from from later)) in
          let here : from + a ≡ c.loop-next.next = omega (arith, forward) in
          let left : length later ≡ length walks - from = length-drop from walks in
          let below : c.loop-next.next < length walks = omega (arith, c.count-end.ensures, c.loop-next-test.true) in
          let inside : from + a < length walks = omega (arith, here, below) in
          let within : a < length later = omega (arith, left, inside) in
          c.in_ok-push_pair.ensures.found
          ∙ ap (λ ys. ys ++ pair_where (goes_at links walks c.loop-next.next) c.args.first c.loop-next.next)
          c.loop-next.invariant.done
          ∙ ap (λ n. done a ++ pair_where (goes_at links walks n) c.args.first n) (sym here)
          ∙ ap (λ b. done a ++ pair_where b c.args.first (from + a)) (goes_after links walks from a Loop inside)
          ∙ next_shared c.args.first links words from later
          c.args.found.now.items a (c.next_from-next-in-loop-next.result - from) (0, Loop)
          (omega (arith, onward, forward)) within (ap (has words) here ∙ c.loop-next.invariant.shared (omega arith))
          (λ k low high most. c.next_from-next-in-loop-next.ensures.none_between (from + k) (omega (arith, low))
          (omega (arith, high)));
    }

pub returns : goal.returns
returns c =
    let from : ℕ = c.args.first + 1 in
    let later : List Walk = drop from c.args.indexed.now.walks in
    let left : length later ≡ length c.args.indexed.now.walks - from = length-drop from c.args.indexed.now.walks in
    c.loop-next.invariant.done
    ∙ ap (λ ys. c.args.found.now.items ++ flat_map (shared_pair c.args.first c.args.indexed.now.links c.args.shared.now.words) ys)
    (all_shared c.args.first c.args.indexed.now.links c.args.shared.now.words from later (c.loop-next.next - from)
    (omega (arith, left, c.count-end.ensures, c.loop-next-test.false, c.loop-next.invariant.forward)))
