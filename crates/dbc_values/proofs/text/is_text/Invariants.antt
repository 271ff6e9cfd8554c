use Rattle.std.proofs.Common.{◌≡◌, drop, false}
use Rattle.dbc_values.specs.Lexical.{is_text_after}
use Rattle.dbc_values.proofs.text.is_text.Given as goal

abbrev pub invariant-loop-b : goal.invariant-loop-b
invariant-loop-b l = is_text_after l.after_backslash (drop l.b-index l.bytes) ≡ is_text_after false l.bytes
