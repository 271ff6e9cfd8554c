use Rattle.std.proofs.Common.{◌≡◌, drop}
use Rattle.can_layout.specs.Decoders.{first_entry}
use Rattle.can_layout.proofs.naming.first_entry.Given as goal

-- none of the entries so far is one for the raw value
abbrev pub invariant-loop-entry : goal.invariant-loop-entry
invariant-loop-entry l = first_entry l.raw (drop l.entry-index l.entries) ≡ first_entry l.raw l.entries
