use Rattle.std.proofs.Common.{arith}
use Rattle.std.proofs.lemmas.Int.{ints}
use Rattle.dbc_values.proofs.Exponents.{moved}
use Rattle.dbc_values.proofs.number.reduced_exponent.Goals as goal

pub returns : goal.returns
returns c e h = moved e c.args.written _ c.args.after_point c.args.zeros (omega arith) c.requires.zeros (omega (arith, ints)) h
