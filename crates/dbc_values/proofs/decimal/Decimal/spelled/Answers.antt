use mir.Syntax.{w16, w128}
use Rattle.std.proofs.Common.{◌≡◌, pos, ◌-ℤ◌, ◌≤ℤ◌, refl, arith, to_z, of_z}
use Rattle.std.proofs.lemmas.Int.{ints}
use Rattle.dbc_values.specs.Decimals.{Decimal as Decimals, SpellsDecimal, decimal_fits}
use Rattle.dbc_values.specs.Numbers.{mantissa_of, exponent_of}
use Rattle.dbc_values.proofs.NormalForms.{no_decimal_long, no_decimal_far, decimal_is, zero_is, fits_within, within_bounds}
use Rattle.dbc_values.proofs.decimal.Decimal.spelled.Goals as goal
use Rattle.dbc_values.proofs.decimal.Decimal.spelled.Goals.{then-number-bound-via-then-number-bound}
use Rattle.dbc_values.proofs.decimal.Decimal.spelled.Goals.{then-number-bound-via-else-number-bound+then-number-bound-2}

pub returns-in_err-mantissa : goal.returns-in_err-mantissa
returns-in_err-mantissa c =
    let reduced = rw c.in_err-mantissa.was at c.in_ok-number.ensures.1 in
    let none : (d : Decimals) → SpellsDecimal c.args.negative c.args.number.now d → ⊥ = λ d spells.
    no_decimal_long c.args.negative (mantissa_of c.args.number.now) (exponent_of c.args.number.now) c.in_ok-number.number.exponent
    reduced d spells.is in
    rw c.from_residual-in_err-mantissa.ensures none

pub invariant_of-result : goal.invariant_of-result
unfolding decimal_fits
invariant_of-result c = record { fits = refl }

pub returns-then-mantissa-eq0 : goal.returns-then-mantissa-eq0
returns-then-mantissa-eq0 c =
    let reduced = rw c.in_ok-mantissa.was at c.in_ok-number.ensures.1 in
    record {
      form = c.in_ok-number.ensures.0;
      is = zero_is c.args.negative (mantissa_of c.args.number.now) (exponent_of c.args.number.now) c.in_ok-number.number.exponent
          (rw c.if-mantissa-eq0.true at reduced);
    }

pub returns-then-number-bound : goal.returns-then-number-bound
returns-then-number-bound c d spells =
    let reduced = rw c.in_ok-mantissa.was at c.in_ok-number.ensures.1 in
    let far : (pos 0 -ℤ pos 400) ≤ℤ c.in_ok-number.number.exponent → c.in_ok-number.number.exponent ≤ℤ pos 400 → ⊥ = λ low high.
    elim c.then-number-bound.branch [
      | then-number-bound-via-then-number-bound w ↦ grind (arith, ints)
      | then-number-bound-via-else-number-bound+then-number-bound-2 w ↦ grind (arith, ints)
    ] in
    no_decimal_far c.args.negative (mantissa_of c.args.number.now) c.in_ok-mantissa.mantissa (exponent_of c.args.number.now)
    c.in_ok-number.number.exponent reduced c.if-mantissa-eq0.false far d spells.is

pub invariant_of-result-2 : goal.invariant_of-result-2
invariant_of-result-2 c =
    let reduced = rw c.in_ok-mantissa.was at c.in_ok-number.ensures.1 in
    let low : (pos 0 -ℤ pos 400) ≤ℤ c.in_ok-number.number.exponent = grind (arith, ints) in
    let high : c.in_ok-number.number.exponent ≤ℤ pos 400 = grind (arith, ints) in
    let cast : to_z w16 (of_z w16 (to_z w128 (of_z w128 c.in_ok-number.number.exponent))) ≡ c.in_ok-number.number.exponent =
    omega (arith, ints) in
    let bounds = within_bounds (mantissa_of c.args.number.now) c.in_ok-mantissa.mantissa (exponent_of c.args.number.now)
    c.in_ok-number.number.exponent reduced c.if-mantissa-eq0.false low high in
    rw cast (record { fits = fits_within c.args.negative c.in_ok-mantissa.mantissa c.in_ok-number.number.exponent bounds })

pub returns : goal.returns
returns c =
    let reduced = rw c.in_ok-mantissa.was at c.in_ok-number.ensures.1 in
    let low : (pos 0 -ℤ pos 400) ≤ℤ c.in_ok-number.number.exponent = grind (arith, ints) in
    let high : c.in_ok-number.number.exponent ≤ℤ pos 400 = grind (arith, ints) in
    let cast : to_z w16 (of_z w16 (to_z w128 (of_z w128 c.in_ok-number.number.exponent))) ≡ c.in_ok-number.number.exponent =
    omega (arith, ints) in
    rw cast (record {
      form = c.in_ok-number.ensures.0;
      is = decimal_is c.args.negative (mantissa_of c.args.number.now) c.in_ok-mantissa.mantissa (exponent_of c.args.number.now)
          c.in_ok-number.number.exponent reduced c.if-mantissa-eq0.false low high;
    })
