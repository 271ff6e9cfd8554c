-- Diagnostics as plain data, and what they are about.
use Rattle.std.specs.Prelude.{ℕ, ℤ, List}
use Rattle.dbc_values.specs.Names.{IsName}
use Rattle.dbc_records.specs.Records.{Head, Signal, IsNumber}
use Rattle.dbc_records.specs.EntryKeys.{IsEntryKey}
use Rattle.can_diagnostics.specs.declared.code.Code.{Code}
use Rattle.dbc_records.specs.declared.entry_key.EntryKey.{EntryKey}
use Rattle.can_diagnostics.specs.declared.subject.Subject.{Subject}
use Rattle.can_diagnostics.specs.declared.subject.Subject.TheVariants as subjects
use Rattle.can_diagnostics.specs.declared.diagnostic.Diagnostic.{Diagnostic}

abbrev pub IsSubject : Subject → Type 0
IsSubject (subjects.Message number message) = IsNumber number × IsName message
IsSubject (subjects.Sender number message node) = IsNumber number × IsName message × IsName node
IsSubject (subjects.Signal number message signal) = IsNumber number × IsName message × IsName signal
IsSubject (subjects.Pair number message first second) = IsNumber number × IsName message × IsName first × IsName second
IsSubject (subjects.Receiver number message signal node) = IsNumber number × IsName message × IsName signal × IsName node
IsSubject (subjects.Value number message signal value) = IsNumber number × IsName message × IsName signal
IsSubject (subjects.Row key) = IsEntryKey key

abbrev pub of_message : Code → Head → Diagnostic
of_message code head = record { code = code; subject = subjects.Message head.number head.name }

abbrev pub of_sender : Code → Head → Diagnostic
of_sender code head = record { code = code; subject = subjects.Sender head.number head.name head.sender }

abbrev pub of_signal : Code → Head → Signal → Diagnostic
of_signal code head signal = record { code = code; subject = subjects.Signal head.number head.name signal.name }

abbrev pub of_pair : Code → Head → Signal → Signal → Diagnostic
of_pair code head first second = record { code = code; subject = subjects.Pair head.number head.name first.name second.name }

abbrev pub of_receiver : Code → Head → Signal → List ℕ → Diagnostic
of_receiver code head signal node = record { code = code; subject = subjects.Receiver head.number head.name signal.name node }

abbrev pub of_value : Code → Head → Signal → ℤ → Diagnostic
of_value code head signal value = record { code = code; subject = subjects.Value head.number head.name signal.name value }

abbrev pub of_row : Code → EntryKey → Diagnostic
of_row code key = record { code = code; subject = subjects.Row key }
