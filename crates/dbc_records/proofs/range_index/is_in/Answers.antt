use Rattle.std.proofs.Common.{◌≡◌, arith}
use Rattle.dbc_records.proofs.Reaching.{last_decides, none_begun}
use Rattle.dbc_records.proofs.range_index.is_in.Goals as goal

pub bounds-index-begun : goal.bounds-index-begun
bounds-index-begun c = omega (arith, c.begun-begun.ensures.bound, c.if-begun-gt0.true)

pub returns-then-begun-gt0 : goal.returns-then-begun-gt0
returns-then-begun-gt0 c =
    last_decides c.args.raw c.args.index.now c.begun-begun.result c.begun-begun.ensures.bound c.requires.lasts
    c.begun-begun.ensures.parted (record { first = 0; last = 0 }) c.if-begun-gt0.true

pub returns-else-begun-gt0 : goal.returns-else-begun-gt0
returns-else-begun-gt0 c =
    let none : c.begun-begun.result ≡ 0 = omega (arith, c.if-begun-gt0.false) in
    rw none (none_begun c.args.raw c.args.index.now c.begun-begun.result c.begun-begun.ensures.parted none)
