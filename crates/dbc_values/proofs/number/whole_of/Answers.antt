use Rattle.std.proofs.Common.{Some, None}
use Rattle.dbc_values.specs.Numbers.{mantissa_of, exponent_of, SpellsWhole}
use Rattle.dbc_values.specs.declared.number.Whole.TheVariants.{Value}
use Rattle.dbc_values.proofs.WholeNumbers.{whole_is_made}
use Rattle.dbc_values.proofs.number.whole_of.Goals as goal

pub returns-in_err-read-in-None-clause-value : goal.returns-in_err-read-in-None-clause-value
returns-in_err-read-in-None-clause-value c =
    rw c.from_residual.ensures (whole_is_made c.args.number.now None c.in_err-read-in-None.ensures)

pub returns-in-Some-clause-value : goal.returns-in-Some-clause-value
returns-in-Some-clause-value c =
    let spells : SpellsWhole c.args.number.now (Value c.in-Some.value) = rw c.in-Some.is at c.plain_whole.ensures.spells in
    whole_is_made c.args.number.now (Some (Value c.in-Some.value)) spells

pub returns-in_ok-read-in-None-clause-value : goal.returns-in_ok-read-in-None-clause-value
returns-in_ok-read-in-None-clause-value c =
    whole_is_made c.args.number.now (Some c.whole.result)
    (record {
      form = c.in_ok-read-in-None.ensures.0;
      is = c.whole.ensures (mantissa_of c.args.number.now) (exponent_of c.args.number.now)
          c.in_ok-read-in-None.ensures.1;
    })
