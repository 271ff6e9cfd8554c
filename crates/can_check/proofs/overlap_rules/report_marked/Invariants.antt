use Rattle.std.specs.List.{flat_map, range_with_len}
use Rattle.can_overlap.specs.Overlaps.{pairs_from}
use Rattle.can_check.specs.MessageFaults.{pair_at}
use Rattle.can_check.proofs.overlap_rules.report_marked.Given as goal

-- the pairs of the signals before this one were reported
abbrev pub invariant-loop-first : goal.invariant-loop-first
invariant-loop-first g l = g.T.Report.Took l.initial.to l.to (flat_map (λ first. flat_map (pair_at l.message)
    (pairs_from l.marked.fields l.marked.walks first)) (range_with_len 0 l.first))
