use Rattle.std.proofs.Common.{arith}
use Rattle.dbc_text_buffer.proofs.PairTables.{pair_at}
use Rattle.dbc_text_buffer.proofs.eight_digits.pair_of.Goals as goal

pub returns : goal.returns
returns c =
    let pair = pair_at c.args.number c.requires in
    omega (arith, pair.0, pair.1, c.from.ensures, c.from_le_bytes.ensures)
