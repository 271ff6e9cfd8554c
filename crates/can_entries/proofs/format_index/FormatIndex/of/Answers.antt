use Rattle.std.proofs.Common.{arith}
use Rattle.std.proofs.lemmas.Grind.{take_at_read}
use Rattle.std.proofs.lemmas.List.Folds.{find-append}
use Rattle.can_entries.proofs.format_index.FormatIndex.of.Goals as goal

pub loop-row-preserved : goal.loop-row-preserved
loop-row-preserved c = λ number. grind (arith, take_at_read, find-append, c.loop-row.invariant number)
