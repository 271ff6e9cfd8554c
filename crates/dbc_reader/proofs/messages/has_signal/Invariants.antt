use Rattle.std.proofs.Common.{◌≡◌, drop}
use Rattle.std.specs.List.{list_any}
use Rattle.std.specs.Str.{bytes_eq}
use Rattle.dbc_records.specs.Records.{names_of}
use Rattle.dbc_reader.proofs.messages.has_signal.Given as goal

abbrev pub invariant-loop-signal : goal.invariant-loop-signal
invariant-loop-signal l = list_any (bytes_eq l.name) (names_of (drop l.signal-index l.signals)) ≡ list_any (bytes_eq l.name)
    (names_of l.signals)
