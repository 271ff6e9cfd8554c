-- From what is done with a database to what is done with the text that has it.
use Rattle.std.proofs.Common.{◌≡◌, ℕ, List, Option, Some, None, Result, Ok, Err, refl, sym, ap, subst, ◌∙◌, inl, inr}
use Rattle.std.specs.Option.{option_map, IfSome}
use Rattle.byte_devices.specs.Device.{Unread, Written, Wrote, Broke}
use Rattle.dbc_records.specs.Databases.{Database}
use Rattle.dbc_tokens.specs.declared.fault.Cause.TheVariants as causes
use Rattle.dbc_tokens.specs.declared.fault.ReadFault.{ReadFault}
use Rattle.dbc_reader.specs.Grammar as grammar
use Rattle.dbc_tokens.proofs.CutLaws.{cut_unique}
use Rattle.dbc_reader.specs.Pattern.{first_fault, nothing_seen}
use Rattle.dbc_reader.specs.Texts.{HasDatabase, HasFirstFault, IsRead}
use Rattle.dbc_reader.specs.Located.{HasLocatedDatabase}
use Rattle.dbc_reader.specs.declared.start.Starts.{Starts}
use Rattle.dbc_faults.specs.FaultLocations.{Found, IsFaultLocation}
use Rattle.dbc_faults.specs.Derivatives.{found_of}
use Rattle.dbc_faults.specs.Headlines.{BeginsSo}
use Rattle.dbc_faults.specs.declared.report.Report.{Report}
use Rattle.candesk_runs.specs.declared.fault.RunFault.{RunFault}
use Rattle.candesk_runs.specs.declared.fault.RunFault.TheVariants as run
use Rattle.can_line_stream.specs.declared.fault.StreamFault.TheVariants as streams
use Rattle.candesk_runs.specs.declared.checking.Verdict.{Verdict}
use Rattle.candesk_runs.specs.Explaining.{ExplainsFound, ExplainsFault, ExplainsText}
use Rattle.candesk_runs.specs.FindingObjects.{WritesFindings, WritesObjects}
use Rattle.candesk_runs.specs.Locating.{WritesLocations}
use Rattle.can_json_findings.specs.Locations.{locations_text}
use Rattle.can_json_findings.specs.declared.fault.FaultLines.{FaultLines}
use Rattle.can_json_findings.specs.Faults.{BeginsWithFault, AreOfFaults}
use Rattle.can_findings.specs.AllFindings.{all_findings}
use Rattle.can_decode.specs.declared.short.Short.{Short}
use Rattle.can_decode.specs.DecodedLines.{Bus}
use Rattle.candesk_runs.specs.Decoding.{Writes, WritesRows, WritesCsv, RunsToTexts, RunsToCsv, header_text}
use Rattle.candesk_runs.specs.Printing.{Prints, PrintsText}

module _ (text : List ℕ) (database : Database) (read : HasDatabase text database) where
  pub written : (text_of : Database → List ℕ → List ℕ) (before after : Unread) (old new : Written) (result : Result ℕ RunFault)
      → Writes (text_of database) before after old new result → RunsToTexts text_of text before after old new result
  written text_of before after old new (Ok count) done = (database, read, done)
  written text_of before after old new (Err (run.Stream fault)) done = (database, read, done)
  written text_of before after old new (Err (run.Read fault)) done = absurd done
  written text_of before after old new (Err run.Memory) done = done

  pub csv_written : (short : Short) (before after : Unread) (old new : Written) (result : Result ℕ RunFault)
      → WritesCsv (record { database = database; short = short }) before after old new result
      → RunsToCsv text short before after old new result
  csv_written short before after old new (Ok count) done = (database, read, done)
  csv_written short before after old new (Err (run.Stream fault)) done = (database, read, done)
  csv_written short before after old new (Err (run.Read fault)) done = absurd done
  csv_written short before after old new (Err run.Memory) done = done

  pub printed : (old new : Written) (result : Result (Unit {0}) RunFault) → Prints database old new result
      → PrintsText text old new result
  printed old new (Ok u) done = (database, read, done)
  printed old new (Err (run.Read fault)) done = absurd done
  printed old new (Err (run.Stream streams.Write)) done = (database, read, done)
  printed old new (Err (run.Stream streams.LongLine)) done = absurd done
  printed old new (Err (run.Stream streams.Read)) done = absurd done
  printed old new (Err (run.Stream streams.Memory)) done = absurd done
  printed old new (Err run.Memory) done = absurd done

-- the same for a database with where its statements begin
pub explained : (text : List ℕ) (database : Database) (starts : Starts) → HasLocatedDatabase text database starts
    → (old new : Written) (result : Result Verdict RunFault) → ExplainsFound (all_findings database starts) old new result
    → ExplainsText text old new result
explained text database starts read old new (Ok verdict) done = (database, starts, read, done)
explained text database starts read old new (Err (run.Read fault)) done = absurd done
explained text database starts read old new (Err (run.Stream streams.Write)) done = inl (database, starts, read, done)
explained text database starts read old new (Err (run.Stream streams.LongLine)) done = absurd done
explained text database starts read old new (Err (run.Stream streams.Read)) done = absurd done
explained text database starts read old new (Err (run.Stream streams.Memory)) done = absurd done
explained text database starts read old new (Err run.Memory) done = done

-- objects of findings
pub objects_written : (text : List ℕ) (database : Database) (starts : Starts) → HasLocatedDatabase text database starts
    → (old new : Written) (result : Result Verdict RunFault) → WritesFindings text (all_findings database starts) old new result
    → WritesObjects text old new result
objects_written text database starts read old new (Ok verdict) done = (database, starts, read, done)
objects_written text database starts read old new (Err (run.Read fault)) done = absurd done
objects_written text database starts read old new (Err (run.Stream streams.Write)) done = inl (database, starts, read, done)
objects_written text database starts read old new (Err (run.Stream streams.LongLine)) done = absurd done
objects_written text database starts read old new (Err (run.Stream streams.Read)) done = absurd done
objects_written text database starts read old new (Err (run.Stream streams.Memory)) done = absurd done
objects_written text database starts read old new (Err run.Memory) done = inr (database, starts, read, done)

-- lines of locations
module _ (text lines : List ℕ) (database : Database) (starts : Starts) (read : HasLocatedDatabase text database starts)
    (is : lines ≡ locations_text text database starts) (old new : Written) where
  pub locations_written : Wrote old new lines → WritesLocations text old new (Ok tt)
  locations_written wrote = (database, starts, read, subst (Wrote old new) is wrote)

  pub locations_broke : Broke old new lines → WritesLocations text old new (Err (run.Stream streams.Write))
  locations_broke broke = (database, starts, read, subst (Broke old new) is broke)

-- entries after the names of the columns
pub after_header : (bus : Bus) (before after : Unread) (old begun new : Written) (result : Result ℕ RunFault)
    → Wrote old begun header_text → WritesRows bus before after begun new result → WritesCsv bus before after old new result
after_header bus before after old begun new (Ok count) wrote rows = (begun, wrote, rows)
after_header bus before after old begun new (Err (run.Stream fault)) wrote rows = inr (begun, wrote, rows)
after_header bus before after old begun new (Err (run.Read fault)) wrote rows = rows
after_header bus before after old begun new (Err run.Memory) wrote rows = absurd rows

-- a refusal for another cause than that memory ran out is for the first fault
pub first_fault_of : (text : List ℕ) (fault : ReadFault) → IsRead text (Err fault) → (fault.cause ≡ causes.Memory → ⊥)
    → HasFirstFault grammar.text text fault
first_fault_of text fault (inl e) other = absurd (other (ap (λ (f : ReadFault). f.cause) e))
first_fault_of text fault (inr first) other = first

pub fault_explained : (text : List ℕ) (fault : ReadFault) (old new : Written) (result : Result Verdict RunFault)
    → HasFirstFault grammar.text text fault → ExplainsFault fault old new result → ExplainsText text old new result
fault_explained text fault old new (Ok verdict) first done = absurd done
fault_explained text fault old new (Err (run.Read same)) first (is, words, begins, wrote) =
    (subst (HasFirstFault grammar.text text) (sym is) first, (refl, words, subst (λ f. BeginsSo f words) (sym is) begins, wrote))
fault_explained text fault old new (Err (run.Stream streams.Write)) first done = inr (fault, first, done)
fault_explained text fault old new (Err (run.Stream streams.LongLine)) first done = absurd done
fault_explained text fault old new (Err (run.Stream streams.Read)) first done = absurd done
fault_explained text fault old new (Err (run.Stream streams.Memory)) first done = absurd done
fault_explained text fault old new (Err run.Memory) first done = done

-- ---- one first fault

-- a text has no other first fault
pub one_first_fault : (text : List ℕ) (fault other : ReadFault) → HasFirstFault grammar.text text fault
    → HasFirstFault grammar.text text other → other ≡ fault
one_first_fault text fault other (cut, has, first) (again, too, second) =
    let same : again ≡ cut = cut_unique 1 text again too ∙ sym (cut_unique 1 text cut has) in
    let both : Some other ≡ Some fault = sym second ∙ ap (first_fault grammar.text nothing_seen) same ∙ first in
    cc

-- a text with a first fault has a location of it
pub has_location : (text : List ℕ) (fault : ReadFault) → HasFirstFault grammar.text text fault → IsFaultLocation grammar.text text
    None → ⊥
has_location text fault (cut, has, first) (again, too, none) =
    let same : again ≡ cut = cut_unique 1 text again too ∙ sym (cut_unique 1 text cut has) in
    let both : None ≡ Some fault = sym none ∙ ap (first_fault grammar.text nothing_seen) same ∙ first in
    cc

-- words on its location begin in this way
pub words_begin : (text : List ℕ) (fault : ReadFault) (found : Found) (words : List ℕ) → HasFirstFault grammar.text text fault
    → IsFaultLocation grammar.text text (Some found) → BeginsSo found.fault words → BeginsSo fault words
words_begin text fault found words first (other, at) begins =
    subst (λ f. BeginsSo f words) (one_first_fault text fault found.fault first other) begins

-- what is reported begins so
pub report_begins : (text : List ℕ) (fault : ReadFault) (given : Option Report) (report : Report) → given ≡ Some report
    → HasFirstFault grammar.text text fault → IsFaultLocation grammar.text text (option_map (λ (r : Report). found_of r.location)
    given)
    → IfSome given (λ (r : Report). BeginsSo r.location.fault r.words.items) → BeginsSo fault report.words.items
report_begins text fault None report is first index begins = absurd cc
report_begins text fault (Some r) report is first index begins =
    let same : r ≡ report = cc in
    subst (λ (x : Report). BeginsSo fault x.words.items) same
    (words_begin text fault (found_of r.location) r.words.items first index begins)

-- something is reported
pub no_report : (text : List ℕ) (fault : ReadFault) (given : Option Report) → given ≡ None → HasFirstFault grammar.text text fault
    → IsFaultLocation grammar.text text (option_map (λ (r : Report). found_of r.location) given) → ⊥
no_report text fault None is first index = has_location text fault first index
no_report text fault (Some r) is first index = absurd cc

-- ---- objects of faults

pub of_some : (text : List ℕ) (given : Option FaultLines) (lines : FaultLines) → given ≡ Some lines → AreOfFaults text given
    → BeginsWithFault text lines.fault lines.words.items
of_some text None lines is has = absurd cc
of_some text (Some other) lines is has =
    let same : other ≡ lines = cc in
    subst (λ (x : FaultLines). BeginsWithFault text x.fault x.words.items) same has

-- there are some
pub no_lines : (text : List ℕ) (fault : ReadFault) (given : Option FaultLines) → given ≡ None → HasFirstFault grammar.text text
    fault
    → AreOfFaults text given → ⊥
no_lines text fault None is first none = has_location text fault first none
no_lines text fault (Some lines) is first has = absurd cc

-- the fault that they begin with is the first
first_of : (text : List ℕ) (fault : ReadFault) (words : List ℕ) → BeginsWithFault text fault words
    → HasFirstFault grammar.text text fault
first_of text fault words (given, index, same, others, is) = subst (HasFirstFault grammar.text text) same index.0

pub faults_written : (text : List ℕ) (fault : ReadFault) (words written : List ℕ) (old new : Written)
    → BeginsWithFault text fault words → written ≡ words → Wrote old new written
    → WritesObjects text old new (Err (run.Read fault))
faults_written text fault words written old new begins is wrote =
    (first_of text fault words begins, words, begins, subst (λ (w : List ℕ). Wrote old new w) is wrote)

pub faults_broke : (text : List ℕ) (fault : ReadFault) (words written : List ℕ) (old new : Written)
    → BeginsWithFault text fault words → written ≡ words → Broke old new written
    → WritesObjects text old new (Err (run.Stream streams.Write))
faults_broke text fault words written old new begins is broke =
    inr (fault, words, begins, subst (λ (w : List ℕ). Broke old new w) is broke)
