-- The remedy of each diagnostic, and the text of a diagnostic with its lines and its remedy.
use Rattle.std.specs.Prelude.{ℕ, List, [], ◌∷◌, ◌++◌, codes, decimal}
use Rattle.std.specs.List.{flat_map}
use Rattle.can_diagnostics.specs.Lines.{join, line_text}
use Rattle.can_diagnostics.specs.declared.code.Code.{Code}
use Rattle.can_diagnostics.specs.declared.code.Code.TheVariants as kinds
use Rattle.can_diagnostics.specs.declared.diagnostic.Diagnostic.{Diagnostic}
use Rattle.can_findings.specs.declared.finding.Location.{Location}
use Rattle.can_findings.specs.declared.finding.Location.TheVariants as locations
use Rattle.can_findings.specs.declared.finding.Finding.{Finding}

-- the usual remedy
unfoldable pub remedy : Code → List ℕ
remedy kinds.BadIdentifier = codes "correct the identifier; bit 31 marks an extended (29-bit) one"
remedy kinds.SharedIdentifier = codes "remove one message, or correct its identifier"
remedy kinds.SharedName = codes "rename one message"
remedy kinds.SharedGroup = codes "keep one message per parameter group (PGN)"
remedy kinds.Outside = codes "check start bit, length and byte order, or the message's length"
remedy kinds.Overlap = codes "correct the position of one signal, or the multiplexor values that select it"
remedy kinds.NoSwitch = codes "mark one signal as multiplexor with M, or correct the SG_MUL_VAL_ entry"
remedy kinds.BadMuxRow = codes "correct the SG_MUL_VAL_ entry, or mark the multiplexor that it names with M"
remedy kinds.SwitchLoop = codes "break the loop of multiplexors"
remedy kinds.Float = codes "nothing is wrong, but candesk doesn't decode floats"
remedy kinds.Long = codes "candesk decodes at most 64 bits; split the signal if you need its values"
remedy kinds.Scale = codes "look for a typo in factor or offset"
remedy kinds.UnknownNode = codes "add the node to BU_, or correct its name"
remedy kinds.ValueOutOfRange = codes "correct the value, or the signal's length or sign"
remedy kinds.RepeatedValue = codes "remove one of the value's descriptions"
remedy kinds.DanglingRow = codes "correct the entry's identifier or name, or remove it"
remedy kinds.RepeatedRow = codes "remove one of the entries; the first one counts"
remedy kinds.UnknownAttribute = codes "add a BA_DEF_ for the attribute, or remove the entry"

-- the end of a diagnostic's line, and a line with the remedy
unfoldable pub remedy_line : Code → List ℕ
remedy_line code = join (codes "\n  remedy: " ∷ remedy code ∷ codes "\n" ∷ [])

unfoldable pub number_text : List ℕ → ℕ → List ℕ → List ℕ
number_text before number after = join (before ∷ decimal number ∷ after ∷ [])

-- the line, or the two lines, in which that which it is about begins
unfoldable pub location_text : Location → List ℕ
location_text (locations.One start) = number_text (codes "line ") start.line (codes ": ")
location_text (locations.Both first second) = number_text (codes "lines ") first.line (codes " and ")
    ++ number_text [] second.line (codes ": ")

-- a diagnostic preceded by its lines and followed by its remedy
unfoldable pub explained_text : Finding → List ℕ
explained_text finding = location_text finding.location ++ (line_text finding.diagnostic ++ remedy_line finding.diagnostic.code)
