use Rattle.std.proofs.Common.{sym, arith}
use Rattle.std.proofs.lemmas.List.FromFn.{map-range_with_len_more}
use Rattle.can_entries.specs.Walks.{walk_of}
use Rattle.can_entries.proofs.walks.walks_below.Goals as goal

pub loop-index-preserved : goal.loop-index-preserved
loop-index-preserved c =
    rw (c.in_ok-push.ensures.items, c.in_ok-walk_of.ensures, c.loop-index.invariant)
    (sym (map-range_with_len_more (walk_of c.args.mux_parents.now) 0 c.loop-index.index c.loop-index.index (omega arith)))
