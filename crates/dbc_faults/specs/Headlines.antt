-- The start of a fault's report.
use Rattle.std.specs.Prelude.{◌≡◌, ℕ, List, ◌++◌, codes, decimal}
use Rattle.dbc_tokens.specs.declared.fault.Cause.{Cause}
use Rattle.dbc_tokens.specs.Causes.{cause_number, cause_word}
use Rattle.dbc_tokens.specs.declared.fault.ReadFault.{ReadFault}

-- a line of text with the line of the fault, and the number and name of its cause
unfoldable pub headline : ℕ → Cause → List ℕ
headline line cause =
    codes "line "
    ++ (decimal line ++ (codes ": " ++ (decimal (cause_number cause) ++ (codes " " ++ (cause_word cause ++ codes "\n")))))

-- the words begin with the line and the cause of the fault
abbrev pub BeginsSo : ReadFault → List ℕ → Type 0
BeginsSo fault words = (others : List ℕ) × (words ≡ headline fault.line fault.cause ++ others)
