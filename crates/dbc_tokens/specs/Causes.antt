-- The numbers and names of the causes for which a text is rejected. They are the profile of candesk.
use Rattle.std.specs.Prelude.{ℕ, List, codes}
use Rattle.dbc_tokens.specs.declared.fault.Cause.{Cause}
use Rattle.dbc_tokens.specs.declared.fault.Cause.TheVariants as causes

abbrev pub cause_number : Cause → ℕ
cause_number causes.Token = 1
cause_number causes.Statement = 2
cause_number causes.RepeatedSignal = 3
cause_number causes.MessagesFull = 4
cause_number causes.SignalsFull = 5
cause_number causes.Limit = 6
cause_number causes.Memory = 90

abbrev pub cause_word : Cause → List ℕ
cause_word causes.Token = codes "Token"
cause_word causes.Statement = codes "Statement"
cause_word causes.RepeatedSignal = codes "RepeatedSignal"
cause_word causes.MessagesFull = codes "MessagesFull"
cause_word causes.SignalsFull = codes "SignalsFull"
cause_word causes.Limit = codes "Limit"
cause_word causes.Memory = codes "Memory"
