use mir.Syntax.{w128}
use mir.Val.{SFits}
use Rattle.std.proofs.Common.{rules, ◌*ℤ◌, ◌+ℤ◌, ◌^◌, ◌≤◌, ap}
use Rattle.std.specs.Prelude.{unsigned_abs}
use Rattle.std.proofs.lemmas.Int.{to_z-of_z}
use Rattle.dbc_values.specs.Scales.{Scale}
use Rattle.dbc_values.proofs.Scaling.{product_fits, value_fits}
use Rattle.dbc_values.proofs.scale.Scale.value.Goals as goal

pub overflow_mul-result : goal.overflow_mul-result
overflow_mul-result c =
    let factor : SFits w128 c.self.inside.factor = search rules in
    let raw : SFits w128 c.args.raw = search rules in
    let small : unsigned_abs c.args.raw ≤ 2 ^ c.self.inside.length = rw (← c.self.view_is) at c.requires in
    rw (to_z-of_z w128 c.self.inside.factor factor, to_z-of_z w128 c.args.raw raw)
    (product_fits c.self.inside.factor c.self.inside.offset c.args.raw c.self.inside.length c.self.invariant.reach small)

pub overflow_add-result : goal.overflow_add-result
overflow_add-result c =
    let factor : SFits w128 c.self.inside.factor = search rules in
    let offset : SFits w128 c.self.inside.offset = search rules in
    let raw : SFits w128 c.args.raw = search rules in
    let small : unsigned_abs c.args.raw ≤ 2 ^ c.self.inside.length = rw (← c.self.view_is) at c.requires in
    let product = product_fits c.self.inside.factor c.self.inside.offset c.args.raw c.self.inside.length c.self.invariant.reach
    small in
    rw (
      to_z-of_z w128 c.self.inside.factor factor,
      to_z-of_z w128 c.args.raw raw,
      to_z-of_z w128 c.self.inside.offset offset,
      to_z-of_z w128 (c.self.inside.factor *ℤ c.args.raw) product,
    )
    (value_fits c.self.inside.factor c.self.inside.offset c.args.raw c.self.inside.length c.self.invariant.reach small)

pub returns : goal.returns
returns c =
    let factor : SFits w128 c.self.inside.factor = search rules in
    let offset : SFits w128 c.self.inside.offset = search rules in
    let raw : SFits w128 c.args.raw = search rules in
    let small : unsigned_abs c.args.raw ≤ 2 ^ c.self.inside.length = rw (← c.self.view_is) at c.requires in
    let product = product_fits c.self.inside.factor c.self.inside.offset c.args.raw c.self.inside.length c.self.invariant.reach
    small in
    let value = value_fits c.self.inside.factor c.self.inside.offset c.args.raw c.self.inside.length c.self.invariant.reach small in
    rw (
      to_z-of_z w128 c.self.inside.factor factor,
      to_z-of_z w128 c.args.raw raw,
      to_z-of_z w128 c.self.inside.offset offset,
      to_z-of_z w128 (c.self.inside.factor *ℤ c.args.raw) product,
      to_z-of_z w128 ((c.self.inside.factor *ℤ c.args.raw) +ℤ c.self.inside.offset) value,
    )
    (ap (λ (s : Scale). (s.factor *ℤ c.args.raw) +ℤ s.offset) c.self.view_is)
