-- The answer to an edit, and the numbers and names of refusals.
use Rattle.std.specs.Prelude.{◌≡◌, ℕ, List, Result, Ok, Err, codes, MatchResult}
use Rattle.dbc_edits.specs.declared.refusal.Refusal.{Refusal}
use Rattle.dbc_edits.specs.declared.refusal.Refusal.TheVariants as refusals

-- what is accepted is refused only because memory ran out, and what is refused for its cause
abbrev pub IsRefusal : {A : Type 0} → Result A Refusal → Refusal → Type 0
IsRefusal defined refusal = MatchResult defined (λ _. refusal ≡ refusals.Memory) (λ cause. refusal ≡ cause)

-- an answer is the defined one, or that memory ran out
abbrev pub IsAnswer : {A : Type 0} → Result A Refusal → Result A Refusal → Type 0
IsAnswer defined answer = MatchResult answer (λ value. defined ≡ Ok value) (λ refusal. IsRefusal defined refusal)

-- what is done unless it is refused before
abbrev pub unless_refused : {A : Type 0} → Result (Unit {0}) Refusal → Result A Refusal → Result A Refusal
unless_refused (Ok done) change = change
unless_refused (Err refusal) change = Err refusal

abbrev pub refusal_number : Refusal → ℕ
refusal_number refusals.NoMessage = 20
refusal_number refusals.BadPlace = 21
refusal_number refusals.NoSignal = 22
refusal_number refusals.SignalExists = 23
refusal_number refusals.SignalsFull = 24
refusal_number refusals.MessagesFull = 25
refusal_number refusals.IdTaken = 26
refusal_number refusals.IdShared = 27
refusal_number refusals.NoRow = 28
refusal_number refusals.NoDefinition = 29
refusal_number refusals.LogFull = 30
refusal_number refusals.LongLine = 31
refusal_number refusals.NameTaken = 32
refusal_number refusals.NameShared = 33
refusal_number refusals.Memory = 90

abbrev pub refusal_word : Refusal → List ℕ
refusal_word refusals.NoMessage = codes "NoMessage"
refusal_word refusals.BadPlace = codes "BadPlace"
refusal_word refusals.NoSignal = codes "NoSignal"
refusal_word refusals.SignalExists = codes "SignalExists"
refusal_word refusals.SignalsFull = codes "SignalsFull"
refusal_word refusals.MessagesFull = codes "MessagesFull"
refusal_word refusals.IdTaken = codes "IdTaken"
refusal_word refusals.IdShared = codes "IdShared"
refusal_word refusals.NoRow = codes "NoRow"
refusal_word refusals.NoDefinition = codes "NoDefinition"
refusal_word refusals.LogFull = codes "LogFull"
refusal_word refusals.LongLine = codes "LongLine"
refusal_word refusals.NameTaken = codes "NameTaken"
refusal_word refusals.NameShared = codes "NameShared"
refusal_word refusals.Memory = codes "Memory"
