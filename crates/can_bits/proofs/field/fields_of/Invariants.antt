use Rattle.std.proofs.Common.{◌≡◌, map, take}
use Rattle.can_bits.specs.Bits.{field_of}
use Rattle.can_bits.proofs.field.fields_of.Given as goal

-- where the bits of the signals so far are
abbrev pub invariant-loop-signal : goal.invariant-loop-signal
invariant-loop-signal l = l.fields.items ≡ map field_of (take l.signal-index l.signals)
