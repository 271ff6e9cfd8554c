use Rattle.std.proofs.Common.{◌∙◌, sym}
use Rattle.dbc_records.specs.declared.mux_row.Range.{Range}
use Rattle.can_overlap.proofs.Ordered.{first_passed, second_passed, both_meet, second_ended}
use Rattle.can_overlap.proofs.ranges.meet.Goals as goal

pub loop-at-preserved-then-a-b : goal.loop-at-preserved-then-a-b
loop-at-preserved-then-a-b c =
    let d : Range = record { first = 0; last = 0 } in
    sym (first_passed c.args.first.now c.args.second.now c.requires.first c.requires.second c.loop-at.at c.loop-at.other d d
    c.loop-at-test.true c.if-other-second.true c.if-a-b.true)
    ∙ c.loop-at.invariant

pub loop-at-preserved : goal.loop-at-preserved
loop-at-preserved c =
    let d : Range = record { first = 0; last = 0 } in
    sym (second_passed c.args.first.now c.args.second.now c.requires.first c.requires.second c.loop-at.at c.loop-at.other d d
    c.loop-at-test.true c.if-other-second.true c.if-b-a.true)
    ∙ c.loop-at.invariant

pub returns-else-b-a : goal.returns-else-b-a
returns-else-b-a c =
    let d : Range = record { first = 0; last = 0 } in
    sym (both_meet c.args.first.now c.args.second.now c.requires.first c.requires.second c.loop-at.at c.loop-at.other d d
    c.loop-at-test.true c.if-other-second.true c.if-a-b.false c.if-b-a.false)
    ∙ c.loop-at.invariant

pub returns-else-other-second : goal.returns-else-other-second
returns-else-other-second c =
    sym (second_ended _ c.args.second.now c.loop-at.other c.if-other-second.false) ∙ c.loop-at.invariant
