-- Findings as JSON objects. Source: RFC 8259. The names of the members are the profile of candesk.
use Rattle.std.specs.Prelude.{ℕ, ℤ, List, [], ◌∷◌, ◌++◌, Option, Some, None, map, codes}
use Rattle.std.specs.Fmt.{signed_decimal}
use Rattle.json.specs.Json.{Json, number, string}
use Rattle.can_json_texts.specs.Members.{Member, object_of, text_members, json_text}
use Rattle.can_json_texts.specs.Values.{array_of}
use Rattle.can_json_texts.specs.Records.{whole_json, name_json, object_json}
use Rattle.dbc_records.specs.declared.definition.Object.{Object}
use Rattle.dbc_records.specs.declared.target.Target.{Target}
use Rattle.dbc_records.specs.declared.target.Target.TheVariants as targets
use Rattle.dbc_ranges.specs.declared.range.Range.{Range}
use Rattle.can_diagnostics.specs.Codes.{code_number, code_word}
use Rattle.can_diagnostics.specs.declared.code.Code.{Code}
use Rattle.can_diagnostics.specs.declared.code.Code.TheVariants as kinds
use Rattle.can_diagnostics.specs.declared.diagnostic.Diagnostic.{Diagnostic}
use Rattle.dbc_records.specs.declared.entry_key.EntryKey.{EntryKey}
use Rattle.dbc_records.specs.declared.entry_key.EntryKey.TheVariants as keys
use Rattle.can_diagnostics.specs.declared.subject.Subject.{Subject}
use Rattle.can_diagnostics.specs.declared.subject.Subject.TheVariants as subjects
use Rattle.can_findings.specs.declared.finding.Finding.{Finding}
use Rattle.can_findings.specs.Remedies.{remedy}
use Rattle.can_json_findings.specs.Marks.{ranges_of}

-- ---- what a diagnostic is about

-- `"number":500,"message":"Motor"`
abbrev pub message_members : ℕ → List ℕ → List Member
message_members n name = (codes "number", whole_json n) ∷ (codes "message", name_json name) ∷ []

-- a member whose value is a name
abbrev pub name_member : List ℕ → List ℕ → List Member
name_member key name = (key, name_json name) ∷ []

abbrev pub signal_members : ℕ → List ℕ → List ℕ → List Member
signal_members n name signal = message_members n name ++ name_member (codes "signal") signal

-- what an entry describes: the node, the message, or the message and the signal; nothing if it is for the whole database
abbrev pub target_members : Target → List Member
target_members targets.Whole = []
target_members (targets.Node name) = name_member (codes "node") name
target_members (targets.Message n) = (codes "number", whole_json n) ∷ []
target_members (targets.Signal n signal) = (codes "number", whole_json n) ∷ name_member (codes "signal") signal

abbrev pub object_members : Option Object → List Member
object_members None = []
object_members (Some object) = (codes "object", object_json object) ∷ []

-- the keyword of the entry
abbrev pub entry_member : List ℕ → List Member
entry_member word = (codes "entry", string word) ∷ []

abbrev pub key_members : EntryKey → List Member
key_members (keys.Table name) = entry_member (codes "VAL_TABLE_") ++ name_member (codes "name") name
key_members (keys.Comment target) = entry_member (codes "CM_") ++ target_members target
key_members (keys.Definition object name) =
    entry_member (codes "BA_DEF_") ++ (object_members object ++ text_members (codes "name") name)
key_members (keys.Default name) = entry_member (codes "BA_DEF_DEF_") ++ text_members (codes "name") name
key_members (keys.Attribute name target) =
    entry_member (codes "BA_") ++ (text_members (codes "name") name ++ target_members target)
key_members (keys.Values n signal) = entry_member (codes "VAL_") ++ target_members (targets.Signal n signal)
key_members (keys.Float n signal) = entry_member (codes "SIG_VALTYPE_") ++ target_members (targets.Signal n signal)
key_members (keys.Mux n signal) = entry_member (codes "SG_MUL_VAL_") ++ target_members (targets.Signal n signal)

abbrev pub subject_members : Subject → List Member
subject_members (subjects.Message n name) = message_members n name
subject_members (subjects.Sender n name node) = message_members n name ++ name_member (codes "node") node
subject_members (subjects.Signal n name signal) = signal_members n name signal
subject_members (subjects.Pair n name first second) = signal_members n name first ++ name_member (codes "other") second
subject_members (subjects.Receiver n name signal node) = signal_members n name signal ++ name_member (codes "node") node
subject_members (subjects.Value n name signal value) =
    signal_members n name signal ++ ((codes "value", number (signed_decimal value)) ∷ [])
subject_members (subjects.Row key) = key_members key

-- ---- the object

-- floats and long signals are no fault of the database: it is candesk that doesn't decode them
abbrev pub severity : Code → List ℕ
severity kinds.Float = codes "information"
severity kinds.Long = codes "information"
severity code = codes "warning"

-- `"code":5,"word":"Outside","severity":"warning"`
abbrev pub code_members : Code → List Member
code_members code =
    (codes "code", whole_json (code_number code))
    ∷ (text_members (codes "word") (code_word code) ++ ((codes "severity", string (severity code)) ∷ []))

-- `{"line":2,"from":20,"to":21}`
abbrev pub range_json : Range → Json
range_json range =
    object_of ((codes "line", whole_json range.line) ∷ (codes "from", whole_json range.from)
    ∷ (codes "to", whole_json range.to) ∷ [])

-- `"at":[{"line":2,"from":20,"to":21}]`
abbrev pub at_members : List Range → List Member
at_members ranges = (codes "at", array_of (map range_json ranges)) ∷ []

-- the remedy, and the location in the text
abbrev pub end_members : Code → List Range → List Member
end_members code ranges = text_members (codes "remedy") (remedy code) ++ at_members ranges

abbrev pub diagnostic_members : Diagnostic → List Range → List Member
diagnostic_members diagnostic ranges =
    code_members diagnostic.code ++ (subject_members diagnostic.subject ++ end_members diagnostic.code ranges)

abbrev pub diagnostic_json : Diagnostic → List Range → Json
diagnostic_json diagnostic ranges = object_of (diagnostic_members diagnostic ranges)

abbrev pub finding_line : List ℕ → Finding → List ℕ
finding_line text finding = json_text (diagnostic_json finding.diagnostic (ranges_of text finding)) ++ codes "\n"
