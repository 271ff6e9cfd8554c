use Rattle.std.proofs.Common.{◌||◌, ap, sym, ◌∙◌, arith}
use Rattle.std.specs.List.{list_any, range_with_len}
use Rattle.can_bits.specs.Bits.{position_of}
use Rattle.can_overlap.specs.inner.Occupancy.{is_marked}
use Rattle.can_overlap.proofs.Marks.{any_more}
use Rattle.can_overlap.proofs.Reach.{below_reach}
use Rattle.can_overlap.proofs.table.shared_by.Goals as goal

pub bounds-rows-position : goal.bounds-rows-position
bounds-rows-position c =
    let below = below_reach c.args.field c.loop-bit.bit c.loop-bit-test.true in
    omega (arith, below, c.position.ensures, c.requires)

pub loop-bit-preserved : goal.loop-bit-preserved
loop-bit-preserved c = λ index.
    c.insert_all.ensures index
    ∙ ap (λ b. b || is_marked c.args.rows.now c.position.result index) (c.loop-bit.invariant index)
    ∙ ap (λ q. list_any (λ bit. is_marked c.args.rows.now (position_of c.args.field bit) index) (range_with_len 0 c.loop-bit.bit)
    || is_marked c.args.rows.now q index) c.position.ensures
    ∙ sym (any_more (λ bit. is_marked c.args.rows.now (position_of c.args.field bit) index) c.loop-bit.bit)
