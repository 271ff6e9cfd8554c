use mir.Syntax.{w128}
use mir.Val.{SFits}
use Rattle.std.proofs.Common.{rules, ◌≡◌, ◌<◌, ◌≤◌, false, Some, refl, sym, ap, ◌∙◌, arith}
use Rattle.std.specs.Prelude.{unsigned_abs}
use Rattle.std.proofs.lemmas.Int.{to_z-of_z}
use Rattle.dbc_values.specs.Scales.{places_of, magnitude_at, whole_at, scale_fits}
use Rattle.dbc_values.proofs.Scaling.{too_long, too_many_places, no_factor, no_offset, out_of_reach, all_fits, some_is, reach_is}
use Rattle.dbc_values.proofs.Scaling.{reach_of, scale_is}
use Rattle.dbc_values.proofs.scale.Scale.of.Goals as goal
use Rattle.dbc_values.proofs.scale.Scale.of.Goals.{then-length-gt-MAX_LENGTH-via-then-length-gt-MAX_LENGTH}
use Rattle.dbc_values.proofs.scale.Scale.of.Goals.{}
use Rattle.dbc_values.proofs.scale.Scale.of.Goals.{}
use Rattle.dbc_values.proofs.scale.Scale.of.Goals.{}
use Rattle.dbc_values.proofs.scale.Scale.of.Goals.{then-length-gt-MAX_LENGTH-via-else-length-gt-MAX_LENGTH+then-places-gt-MAX_PLACES}

pub returns-then-length-gt-MAX_LENGTH : goal.returns-then-length-gt-MAX_LENGTH
returns-then-length-gt-MAX_LENGTH c =
    elim c.then-length-gt-MAX_LENGTH.branch [
      | then-length-gt-MAX_LENGTH-via-then-length-gt-MAX_LENGTH w ↦ rw (too_long c.args.factor.now c.args.offset.now c.args.length
          (omega arith)) refl
      | then-length-gt-MAX_LENGTH-via-else-length-gt-MAX_LENGTH+then-places-gt-MAX_PLACES w ↦
          let many : 36 < places_of c.args.factor.now c.args.offset.now = omega (arith, c.places_of-places.ensures) in
          rw (too_many_places c.args.factor.now c.args.offset.now c.args.length many) refl
    ]

pub returns-in_err-whole_factor : goal.returns-in_err-whole_factor
returns-in_err-whole_factor c =
    let none : scale_fits c.args.factor.now c.args.offset.now c.args.length ≡ false =
    no_factor c.args.factor.now c.args.offset.now c.args.length _ c.whole_at.result (rw c.places_of-places.ensures at
    c.whole_at.ensures) c.in_err-whole_factor.was in
    rw (c.from_residual.ensures, none) refl

pub returns-in_err-whole_offset : goal.returns-in_err-whole_offset
returns-in_err-whole_offset c =
    let none : scale_fits c.args.factor.now c.args.offset.now c.args.length ≡ false =
    no_offset c.args.factor.now c.args.offset.now c.args.length _ c.whole_at-2.result (rw c.places_of-places.ensures at
    c.whole_at-2.ensures) c.in_err-whole_offset.was in
    rw (c.from_residual-in_err-whole_offset.ensures, none) refl

pub returns-then-not-reach_fits : goal.returns-then-not-reach_fits
returns-then-not-reach_fits c =
    let f : c.in_ok-whole_factor.whole_factor ≡ whole_at c.places_of-places.result c.args.factor.now =
    some_is (magnitude_at c.places_of-places.result c.args.factor.now) _ _ c.whole_at.result c.whole_at.ensures
    c.in_ok-whole_factor.was in
    let o : c.in_ok-whole_offset.whole_offset ≡ whole_at c.places_of-places.result c.args.offset.now =
    some_is (magnitude_at c.places_of-places.result c.args.offset.now) _ _ c.whole_at-2.result c.whole_at-2.ensures
    c.in_ok-whole_offset.was in
    let f-fits : SFits w128 c.in_ok-whole_factor.whole_factor = search rules in
    let o-fits : SFits w128 c.in_ok-whole_offset.whole_offset = search rules in
    let a : c.unsigned_abs.result ≡ unsigned_abs c.in_ok-whole_factor.whole_factor = c.unsigned_abs.ensures.value
    ∙ ap unsigned_abs (to_z-of_z w128 c.in_ok-whole_factor.whole_factor f-fits) in
    let b : c.unsigned_abs-2.result ≡ unsigned_abs c.in_ok-whole_offset.whole_offset = c.unsigned_abs-2.ensures.value
    ∙ ap unsigned_abs (to_z-of_z w128 c.in_ok-whole_offset.whole_offset o-fits) in
    let reach : c.reach_fits.result ≡ reach_of c.args.factor.now c.args.offset.now c.args.length =
    reach_is c.args.factor.now c.args.offset.now c.args.length c.places_of-places.result _ _ c.in_ok-whole_factor.whole_factor
    c.in_ok-whole_offset.whole_offset c.reach_fits.result c.places_of-places.ensures f o a b c.reach_fits.ensures in
    rw (out_of_reach c.args.factor.now c.args.offset.now c.args.length (sym reach ∙ c.if-not-reach_fits.true)) refl

pub returns : goal.returns
returns c =
    let f : c.in_ok-whole_factor.whole_factor ≡ whole_at c.places_of-places.result c.args.factor.now =
    some_is (magnitude_at c.places_of-places.result c.args.factor.now) _ _ c.whole_at.result c.whole_at.ensures
    c.in_ok-whole_factor.was in
    let o : c.in_ok-whole_offset.whole_offset ≡ whole_at c.places_of-places.result c.args.offset.now =
    some_is (magnitude_at c.places_of-places.result c.args.offset.now) _ _ c.whole_at-2.result c.whole_at-2.ensures
    c.in_ok-whole_offset.was in
    let f-fits : SFits w128 c.in_ok-whole_factor.whole_factor = search rules in
    let o-fits : SFits w128 c.in_ok-whole_offset.whole_offset = search rules in
    let a : c.unsigned_abs.result ≡ unsigned_abs c.in_ok-whole_factor.whole_factor = c.unsigned_abs.ensures.value
    ∙ ap unsigned_abs (to_z-of_z w128 c.in_ok-whole_factor.whole_factor f-fits) in
    let b : c.unsigned_abs-2.result ≡ unsigned_abs c.in_ok-whole_offset.whole_offset = c.unsigned_abs-2.ensures.value
    ∙ ap unsigned_abs (to_z-of_z w128 c.in_ok-whole_offset.whole_offset o-fits) in
    let reach : c.reach_fits.result ≡ reach_of c.args.factor.now c.args.offset.now c.args.length =
    reach_is c.args.factor.now c.args.offset.now c.args.length c.places_of-places.result _ _ c.in_ok-whole_factor.whole_factor
    c.in_ok-whole_offset.whole_offset c.reach_fits.result c.places_of-places.ensures f o a b c.reach_fits.ensures in
    let places : places_of c.args.factor.now c.args.offset.now ≤ 36 = omega (arith, c.places_of-places.ensures) in
    let scale = scale_is c.args.factor.now c.args.offset.now c.args.length c.places_of-places.result
    c.in_ok-whole_factor.whole_factor c.in_ok-whole_offset.whole_offset c.places_of-places.ensures f o in
    rw (
      all_fits c.args.factor.now c.args.offset.now c.args.length (omega arith) places (sym reach ∙ c.if-not-reach_fits.false),
      to_z-of_z w128 c.in_ok-whole_factor.whole_factor f-fits,
      to_z-of_z w128 c.in_ok-whole_offset.whole_offset o-fits,
    )
    (ap Some scale)
