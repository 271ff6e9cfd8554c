-- The objects of diagnostics, faults and locations read back.
use Rattle.std.proofs.Common.{ℕ, ◌-◌, ◌<◌, ◌^◌, ◌++◌, Bool, true, false, List, [], ◌∷◌, Option, Some, None, map, option_map, length}
use Rattle.std.proofs.Common.{arith, codes}
use Rattle.std.specs.List.{AllByRecursion}
use Rattle.json.proofs.Printed.Trees.{document-print}
use Rattle.can_json_texts.specs.Members.{Member, object_of, text_members}
use Rattle.dbc_reader.specs.declared.start.Start.{Start}
use Rattle.dbc_ranges.specs.declared.range.Range.{Range}
use Rattle.dbc_ranges.specs.Ranges.{Part, range_of}
use Rattle.dbc_tokens.specs.Causes.{cause_number, cause_word}
use Rattle.dbc_tokens.specs.declared.fault.Cause.{Cause}
use Rattle.dbc_tokens.specs.declared.fault.Cause.TheVariants as causes
use Rattle.can_diagnostics.specs.Codes.{code_number, code_word}
use Rattle.can_diagnostics.specs.declared.code.Code.{Code}
use Rattle.can_diagnostics.specs.declared.code.Code.TheVariants as variants
use Rattle.can_findings.specs.declared.finding.Location.{Location}
use Rattle.can_findings.specs.declared.finding.Location.TheVariants as locations
use Rattle.dbc_faults.specs.declared.details.FaultDetails.{FaultDetails}
use Rattle.can_findings.specs.Remedies.{remedy}
use Rattle.json.specs.Json.{string}
use Rattle.can_json_findings.specs.Findings.{severity, code_members, subject_members, end_members, at_members, diagnostic_members}
use Rattle.can_json_findings.specs.Faults.{cause_members, guess_members, words_members, reason_members, fault_range, fault_members}
use Rattle.can_json_findings.specs.Marks.{ranges_at, ranges_of, part_about}
use Rattle.can_json_laws.proofs.Written.{MembersRead, string_reads, boolean_reads, whole_reads, both_read, object_reads, texts_read}
use Rattle.can_json_laws.specs.FindingLaws.{StartFits, LocationFits, ParsesBack, FindingsParseBack, FaultsParseBack}
use Rattle.can_json_laws.specs.FindingLaws.{LocationsParseBack}
use Rattle.can_json_laws.proofs.Ranges.{RangeFits, at_reads, range_fits}
use Rattle.can_json_laws.proofs.Subjects.{subject_reads}

parses_back : (members : List Member) → MembersRead 2 members → ParsesBack (object_of members)
parses_back members read =
    let reads = object_reads 2 members read in document-print (object_of members) reads.0 (omega (arith, reads.1))

-- ---- diagnostics

code_small : (code : Code) → code_number code < 10 ^ 64
code_small variants.BadIdentifier = omega arith
code_small variants.SharedIdentifier = omega arith
code_small variants.SharedName = omega arith
code_small variants.SharedGroup = omega arith
code_small variants.Outside = omega arith
code_small variants.Overlap = omega arith
code_small variants.NoSwitch = omega arith
code_small variants.BadMuxRow = omega arith
code_small variants.SwitchLoop = omega arith
code_small variants.Float = omega arith
code_small variants.Long = omega arith
code_small variants.Scale = omega arith
code_small variants.UnknownNode = omega arith
code_small variants.ValueOutOfRange = omega arith
code_small variants.RepeatedValue = omega arith
code_small variants.DanglingRow = omega arith
code_small variants.RepeatedRow = omega arith
code_small variants.UnknownAttribute = omega arith

code_reads : (code : Code) → MembersRead 2 (code_members code)
code_reads code = (
  whole_reads 2 (code_number code) (code_small code),
  both_read 2 (text_members (codes "word") (code_word code)) ((codes "severity", string (severity code)) ∷ [])
      (texts_read 2 (codes "word") (code_word code)) (string_reads 2 (severity code), tt),
)

end_reads : (code : Code) (ranges : List Range) → AllByRecursion RangeFits ranges → MembersRead 2 (end_members code ranges)
end_reads code ranges fit =
    both_read 2 (text_members (codes "remedy") (remedy code)) (at_members ranges) (texts_read 2 (codes "remedy") (remedy code))
    (at_reads ranges fit)

all_fit : (text : List ℕ) (part : Part) (location : Location) → length text < 2 ^ 64 → LocationFits location
    → AllByRecursion RangeFits (ranges_at text part location)
all_fit text part (locations.One start) text_fits fits = (range_fits text start part text_fits fits, tt)
all_fit text part (locations.Both first second) text_fits fits =
    (range_fits text first part text_fits fits.0, (range_fits text second part text_fits fits.1, tt))

pub findings_parse_back : FindingsParseBack
findings_parse_back text finding text_fits location_fits is value_fits =
    let code = finding.diagnostic.code in
    let subject = finding.diagnostic.subject in
    let fit = all_fit text (part_about code subject) finding.location text_fits location_fits in
    parses_back (diagnostic_members finding.diagnostic (ranges_of text finding))
    (both_read 2 (code_members code) (subject_members subject ++ end_members code (ranges_of text finding)) (code_reads code)
    (both_read 2 (subject_members subject) (end_members code (ranges_of text finding)) (subject_reads subject is value_fits)
    (end_reads code (ranges_of text finding) fit)))

-- ---- faults

cause_small : (cause : Cause) → cause_number cause < 10 ^ 64
cause_small causes.Token = omega arith
cause_small causes.Statement = omega arith
cause_small causes.RepeatedSignal = omega arith
cause_small causes.MessagesFull = omega arith
cause_small causes.SignalsFull = omega arith
cause_small causes.Limit = omega arith
cause_small causes.Memory = omega arith

guess_reads : (is_guess : Bool) → MembersRead 2 (guess_members is_guess)
guess_reads true = (boolean_reads 2 true, tt)
guess_reads false = tt

reason_reads : (reason : Option (List ℕ)) → MembersRead 2 (reason_members reason)
reason_reads None = tt
reason_reads (Some words) = texts_read 2 (codes "reason") words

words_read : (details : FaultDetails) → MembersRead 2 (words_members details)
words_read details =
    both_read 2 (text_members (codes "found") details.found.items ++ text_members (codes "expected") details.expected.items)
    (reason_members (option_map (λ words. words.now) details.reason))
    (both_read 2 (text_members (codes "found") details.found.items) (text_members (codes "expected") details.expected.items)
    (texts_read 2 (codes "found") details.found.items) (texts_read 2 (codes "expected") details.expected.items))
    (reason_reads (option_map (λ words. words.now) details.reason))

fault_fits : (size : ℕ) (details : FaultDetails) → size < 2 ^ 64 → details.location.fault.line < 2 ^ 64
    → RangeFits (fault_range size details)
fault_fits size details size_fits line_fits = (line_fits, omega (arith, size_fits), omega (arith, size_fits))

pub faults_parse_back : FaultsParseBack
faults_parse_back size details is_guess size_fits line_fits =
    let cause = details.location.fault.cause in
    let ranges = fault_range size details ∷ [] in
    parses_back (fault_members size details is_guess)
    (both_read 2 (cause_members cause ++ guess_members is_guess) (words_members details ++ at_members ranges)
    (both_read 2 (cause_members cause) (guess_members is_guess) (
      whole_reads 2 (cause_number cause) (cause_small cause),
      (
        string_reads 2 (cause_word cause),
        (string_reads 2 (codes "error"), tt),
      ),
    ) (guess_reads is_guess))
    (both_read 2 (words_members details) (at_members ranges) (words_read details)
    (at_reads ranges (fault_fits size details size_fits line_fits, tt))))

-- ---- locations

parts_fit : (text : List ℕ) (start : Start) (parts : List Part) → length text < 2 ^ 64 → StartFits start
    → AllByRecursion RangeFits (map (range_of text start) parts)
parts_fit text start [] text_fits fits = tt
parts_fit text start (part ∷ parts) text_fits fits =
    (range_fits text start part text_fits fits, parts_fit text start parts text_fits fits)

pub locations_parse_back : LocationsParseBack
locations_parse_back text location text_fits start_fits is value_fits =
    let ranges = map (range_of text location.start) location.parts in
    parses_back (subject_members location.subject ++ at_members ranges)
    (both_read 2 (subject_members location.subject) (at_members ranges) (subject_reads location.subject is value_fits)
    (at_reads ranges (parts_fit text location.start location.parts text_fits start_fits)))
