use Rattle.dbc_text_buffer.proofs.WordZeros.{zeros_at_the_end}
use Rattle.dbc_text_buffer.proofs.eight_digits.trailing_zeros_of.Goals as goal

pub returns : goal.returns
returns c = zeros_at_the_end c.args.number c.args.word c.requires.number c.ranges.word.fits c.requires.word
