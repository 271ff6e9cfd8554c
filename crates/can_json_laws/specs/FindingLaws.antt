-- What holds of the objects of diagnostics, faults and locations in every text. A text has fewer bytes, and so fewer lines, than a
-- number of 64 bits can count; a described value has at most 128 bits.
use Rattle.std.specs.Prelude.{◌≡◌, ⊤, ℕ, ◌<◌, ◌≤◌, ◌^◌, ◌++◌, Bool, List, Some, map, length, unsigned_abs}
use Rattle.json.specs.Json.{Json, document}
use Rattle.can_json_texts.specs.Members.{object_of, json_text}
use Rattle.dbc_reader.specs.declared.start.Start.{Start}
use Rattle.dbc_ranges.specs.Ranges.{range_of}
use Rattle.can_diagnostics.specs.Diagnostics.{IsSubject}
use Rattle.can_diagnostics.specs.declared.subject.Subject.{Subject}
use Rattle.can_diagnostics.specs.declared.subject.Subject.TheVariants as subjects
use Rattle.can_findings.specs.declared.finding.Finding.{Finding}
use Rattle.can_findings.specs.declared.finding.Location.{Location}
use Rattle.can_findings.specs.declared.finding.Location.TheVariants as locations
use Rattle.dbc_faults.specs.declared.details.FaultDetails.{FaultDetails}
use Rattle.can_json_findings.specs.Findings.{subject_members, at_members, diagnostic_json}
use Rattle.can_json_findings.specs.Faults.{fault_json}
use Rattle.can_json_findings.specs.Marks.{ranges_of}
use Rattle.can_json_findings.specs.Locations.{Location as NameLocation}

-- the text of a value is a document of JSON, and that value
abbrev pub ParsesBack : Json → Type 0
ParsesBack value = document (json_text value) ≡ Some value

-- a described value has at most 128 bits
abbrev pub ValueFits : Subject → Type 0
ValueFits (subjects.Value number message signal value) = unsigned_abs value ≤ 2 ^ 127
ValueFits subject = ⊤

abbrev pub StartFits : Start → Type 0
StartFits start = start.line < 2 ^ 64

abbrev pub LocationFits : Location → Type 0
LocationFits (locations.One start) = StartFits start
LocationFits (locations.Both first second) = StartFits first × StartFits second

abbrev pub FindingsParseBack : Type 0
FindingsParseBack = (text : List ℕ) (finding : Finding) → length text < 2 ^ 64 → LocationFits finding.location
    → IsSubject finding.diagnostic.subject → ValueFits finding.diagnostic.subject
    → ParsesBack (diagnostic_json finding.diagnostic (ranges_of text finding))

abbrev pub FaultsParseBack : Type 0
FaultsParseBack = (size : ℕ) (details : FaultDetails) (is_guess : Bool) → size < 2 ^ 64 → details.location.fault.line < 2 ^ 64
    → ParsesBack (fault_json size details is_guess)

abbrev pub LocationsParseBack : Type 0
LocationsParseBack = (text : List ℕ) (location : NameLocation) → length text < 2 ^ 64 → StartFits location.start
    → IsSubject location.subject → ValueFits location.subject
    → ParsesBack (object_of (subject_members location.subject
    ++ at_members (map (range_of text location.start) location.parts)))
