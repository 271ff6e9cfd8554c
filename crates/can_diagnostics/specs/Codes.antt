-- The numbers and names of the codes of diagnostics.
use Rattle.std.specs.Prelude.{ℕ, List, codes}
use Rattle.can_diagnostics.specs.declared.code.Code.{Code}
use Rattle.can_diagnostics.specs.declared.code.Code.TheVariants as variants

abbrev pub code_number : Code → ℕ
code_number variants.BadIdentifier = 1
code_number variants.SharedIdentifier = 2
code_number variants.SharedName = 3
code_number variants.SharedGroup = 4
code_number variants.Outside = 5
code_number variants.Overlap = 6
code_number variants.NoSwitch = 7
code_number variants.BadMuxRow = 8
code_number variants.SwitchLoop = 9
code_number variants.Float = 10
code_number variants.Long = 11
code_number variants.Scale = 12
code_number variants.UnknownNode = 13
code_number variants.ValueOutOfRange = 14
code_number variants.RepeatedValue = 15
code_number variants.DanglingRow = 16
code_number variants.RepeatedRow = 17
code_number variants.UnknownAttribute = 18

abbrev pub code_word : Code → List ℕ
code_word variants.BadIdentifier = codes "BadIdentifier"
code_word variants.SharedIdentifier = codes "SharedIdentifier"
code_word variants.SharedName = codes "SharedName"
code_word variants.SharedGroup = codes "SharedGroup"
code_word variants.Outside = codes "Outside"
code_word variants.Overlap = codes "Overlap"
code_word variants.NoSwitch = codes "NoSwitch"
code_word variants.BadMuxRow = codes "BadMuxRow"
code_word variants.SwitchLoop = codes "SwitchLoop"
code_word variants.Float = codes "Float"
code_word variants.Long = codes "Long"
code_word variants.Scale = codes "Scale"
code_word variants.UnknownNode = codes "UnknownNode"
code_word variants.ValueOutOfRange = codes "ValueOutOfRange"
code_word variants.RepeatedValue = codes "RepeatedValue"
code_word variants.DanglingRow = codes "DanglingRow"
code_word variants.RepeatedRow = codes "RepeatedRow"
code_word variants.UnknownAttribute = codes "UnknownAttribute"
