-- Faults for which a text is rejected as JSON objects. Source: RFC 8259. The names of the members are the profile of candesk.
use Rattle.std.specs.Prelude.{◌≡◌, ℕ, ◌-◌, Bool, true, false, List, [], ◌∷◌, ◌++◌, length}
use Rattle.std.specs.Prelude.{Option, Some, None, option_map, codes}
use Rattle.json.specs.Json.{Json, boolean, string}
use Rattle.can_json_texts.specs.Members.{Member, object_of, text_members, json_text}
use Rattle.can_json_texts.specs.Records.{whole_json}
use Rattle.dbc_ranges.specs.declared.range.Range.{Range}
use Rattle.dbc_tokens.specs.Causes.{cause_number, cause_word}
use Rattle.dbc_tokens.specs.declared.fault.Cause.{Cause}
use Rattle.dbc_tokens.specs.declared.fault.ReadFault.{ReadFault}
use Rattle.dbc_reader.specs.Grammar as grammar
use Rattle.dbc_faults.specs.FaultLocations.{IsFaultLocation}
use Rattle.dbc_faults.specs.Derivatives.{found_of}
use Rattle.dbc_faults.specs.declared.details.FaultDetails.{FaultDetails}
use Rattle.can_json_findings.specs.declared.fault.FaultLines.{FaultLines}
use Rattle.can_json_findings.specs.Findings.{at_members}

-- `"code":2,"word":"Statement","severity":"error"`
abbrev pub cause_members : Cause → List Member
cause_members cause =
    (codes "code", whole_json (cause_number cause)) ∷ (codes "word", string (cause_word cause))
    ∷ (codes "severity", string (codes "error")) ∷ []

-- every fault after the first is a guess
abbrev pub guess_members : Bool → List Member
guess_members true = (codes "guess", boolean true) ∷ []
guess_members false = []

abbrev pub reason_members : Option (List ℕ) → List Member
reason_members None = []
reason_members (Some words) = text_members (codes "reason") words

abbrev pub words_members : FaultDetails → List Member
words_members details =
    (text_members (codes "found") details.found.items ++ text_members (codes "expected") details.expected.items)
    ++ reason_members (option_map (λ words. words.now) details.reason)

-- the range of the token at fault in a text of this many bytes
abbrev pub fault_range : ℕ → FaultDetails → Range
fault_range size details = record {
  line = details.location.fault.line;
  from = size - length details.location.following.now - length details.location.token.now;
  to = size - length details.location.following.now;
}

abbrev pub fault_members : ℕ → FaultDetails → Bool → List Member
fault_members size details is_guess =
    (cause_members details.location.fault.cause ++ guess_members is_guess)
    ++ (words_members details ++ at_members (fault_range size details ∷ []))

abbrev pub fault_json : ℕ → FaultDetails → Bool → Json
fault_json size details is_guess = object_of (fault_members size details is_guess)

abbrev pub fault_line : ℕ → FaultDetails → Bool → List ℕ
fault_line size details is_guess = json_text (fault_json size details is_guess) ++ codes "\n"

-- the words begin with the object of this fault, the first of the text
abbrev pub BeginsWithFault : List ℕ → ReadFault → List ℕ → Type 0
BeginsWithFault text fault words =
    (details : FaultDetails) × IsFaultLocation grammar.text text (Some (found_of details.location)) × (details.location.fault ≡
    fault)
    × (others : List ℕ) × (words ≡ fault_line (length text) details false ++ others)

-- objects of the first fault of a text and of others; none if it has no fault
abbrev pub AreOfFaults : List ℕ → Option FaultLines → Type 0
AreOfFaults text None = IsFaultLocation grammar.text text None
AreOfFaults text (Some lines) = BeginsWithFault text lines.fault lines.words.items
