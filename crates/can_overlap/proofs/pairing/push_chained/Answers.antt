use Rattle.std.proofs.Common.{◌≡◌, ℕ, ◌+◌, ◌-◌, List, length, length-drop, drop, arith}
use Rattle.can_entries.specs.declared.walk.Walk.{Walk}
use Rattle.can_overlap.proofs.Sharing.{none_following}
use Rattle.can_overlap.proofs.pairing.push_chained.Goals as goal

pub returns-then-next_from-count : goal.returns-then-next_from-count
returns-then-next_from-count c =
    let from : ℕ = c.args.first + 1 in
    let later : List Walk = drop from c.args.paths.now.walks in
    let left : length later ≡ length c.args.paths.now.walks - from = length-drop from c.args.paths.now.walks in
    none_following c.args.first c.args.links.now c.args.shared.now.words from later c.args.found.now.items c.next_from.result
    (omega (arith, left, c.count.ensures, c.if-next_from-count.true, c.requires.index)) c.next_from.ensures.none_between
