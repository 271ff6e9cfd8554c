use Rattle.std.proofs.Common.{◌<◌, not, ◌||◌, ◌&&◌, eqb, length, ap, sym, ◌∙◌, arith}
use Rattle.can_bits.specs.Bits.{position_of}
use Rattle.can_overlap.specs.inner.Occupancy.{is_marked}
use Rattle.can_overlap.proofs.Marks.{any_more, has_below, is_marked-empty}
use Rattle.can_overlap.proofs.Reach.{below_reach}
use Rattle.can_overlap.proofs.table.clear.Goals as goal

pub bounds-rows-position : goal.bounds-rows-position
bounds-rows-position c =
    let below = below_reach c.args.field c.loop-bit.bit c.loop-bit-test.true in
    omega (arith, below, c.position.ensures, c.requires, c.loop-bit.auto.rows)

pub loop-bit-preserved : goal.loop-bit-preserved
loop-bit-preserved c = λ position other.
    let below = below_reach c.args.field c.loop-bit.bit c.loop-bit-test.true in
    let within : c.position.result < length c.loop-bit.rows = omega (
      arith,
      below,
      c.position.ensures,
      c.requires,
      c.loop-bit.auto.rows,
    ) in
    let before = is_marked c.args.rows.now position other in
    let held = has_below c.args.field c.loop-bit.bit position in
    is_marked-empty c.loop-bit.rows c.position.result c.new.result within c.new.ensures before held position other
    (c.loop-bit.invariant position other)
    ∙ ap (λ q. is_marked c.args.rows.now position other && not (has_below c.args.field c.loop-bit.bit position || eqb q position))
    c.position.ensures
    ∙ ap (λ b. is_marked c.args.rows.now position other && not b)
    (sym (any_more (λ index. eqb (position_of c.args.field index) position) c.loop-bit.bit))
