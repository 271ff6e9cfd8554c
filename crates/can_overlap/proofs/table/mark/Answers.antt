use Rattle.std.proofs.Common.{◌<◌, ◌||◌, ◌&&◌, eqb, length, ap, sym, ◌∙◌, arith}
use Rattle.can_bits.specs.Bits.{position_of}
use Rattle.can_overlap.specs.inner.Occupancy.{is_marked}
use Rattle.can_overlap.proofs.Marks.{any_more, has_below, is_marked-insert}
use Rattle.can_overlap.proofs.Reach.{below_reach}
use Rattle.can_overlap.proofs.table.mark.Goals as goal

pub bounds-rows-position : goal.bounds-rows-position
bounds-rows-position c =
    let below = below_reach c.args.field c.loop-bit.bit c.loop-bit-test.true in
    omega (arith, below, c.position.ensures, c.requires.space, c.loop-bit.auto.rows)

pub loop-bit-preserved : goal.loop-bit-preserved
loop-bit-preserved c = λ position other.
    let below = below_reach c.args.field c.loop-bit.bit c.loop-bit-test.true in
    let within : c.position.result < length c.loop-bit.rows = omega (
      arith,
      below,
      c.position.ensures,
      c.requires.space,
      c.loop-bit.auto.rows,
    ) in
    let before = is_marked c.args.rows.now position other in
    let held = has_below c.args.field c.loop-bit.bit position in
    is_marked-insert c.loop-bit.rows c.position.result c.args.index c.insert.new.self within c.insert.ensures before held position
    other (c.loop-bit.invariant position other)
    ∙ ap (λ q. is_marked c.args.rows.now position other || ((has_below c.args.field c.loop-bit.bit position || eqb q position)
    && eqb other c.args.index)) c.position.ensures
    ∙ ap (λ b. is_marked c.args.rows.now position other || (b && eqb other c.args.index))
    (sym (any_more (λ index. eqb (position_of c.args.field index) position) c.loop-bit.bit))
