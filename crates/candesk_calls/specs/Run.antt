-- What the status of a run of any command means for what was read and written.
use Rattle.std.specs.Prelude.{◌≡◌, ℕ, Bool, List, Result, if◌then◌else◌}
use Rattle.byte_devices.specs.Device.{Unread, Written}
use Rattle.can_decode.specs.declared.short.Short.{Short}
use Rattle.can_decode.specs.declared.short.Short.TheVariants.{Refuse, Show}
use Rattle.candesk_words.specs.declared.job.ReportForm.{ReportForm}
use Rattle.candesk_words.specs.declared.job.ReportForm.TheVariants as report_forms
use Rattle.candesk_words.specs.declared.job.LogForm.{LogForm}
use Rattle.candesk_words.specs.declared.job.LogForm.TheVariants as log_forms
use Rattle.candesk_words.specs.declared.job.DumpForm.{DumpForm}
use Rattle.candesk_words.specs.declared.job.DumpForm.TheVariants as dump_forms
use Rattle.candesk_words.specs.declared.job.Command.{Command}
use Rattle.candesk_words.specs.declared.job.Command.TheVariants as commands
use Rattle.candesk_runs.specs.Checking.{ChecksAll, verdict_status}
use Rattle.candesk_runs.specs.Decoding.{Runs, RunsToJson, RunsToCsv}
use Rattle.candesk_runs.specs.declared.fault.RunFault.{RunFault}
use Rattle.candesk_runs.specs.Dumping.{DumpsDiagrams, DumpsObjects}
use Rattle.candesk_runs.specs.Explaining.{ExplainsText}
use Rattle.candesk_runs.specs.FindingObjects.{WritesObjects}
use Rattle.candesk_runs.specs.declared.checking.Verdict.{Verdict}
use Rattle.candesk_runs.specs.Locating.{WritesLocations}
use Rattle.candesk_runs.specs.Printing.{PrintsText}
use Rattle.candesk_runs.specs.Statuses.{Ends, well}
use Rattle.candesk_calls.specs.Scripting.{SessionRuns}

-- what the flag of the command line chooses for truncated frames
abbrev pub short_of : Bool → Short
short_of flag = if flag then Show else Refuse

-- a log was decoded, and written in this form
abbrev pub Decoded : LogForm → List ℕ → Short → Unread → Unread → Written → Written → Result ℕ RunFault → Type 0
Decoded log_forms.Lines text short before after old new outcome = Runs text short before after old new outcome
Decoded log_forms.Objects text short before after old new outcome = RunsToJson text short before after old new outcome
Decoded log_forms.Rows text short before after old new outcome = RunsToCsv text short before after old new outcome

-- the messages of a database were written in this form
abbrev pub Dumped : DumpForm → List ℕ → Written → Written → Result (Unit {0}) RunFault → Type 0
Dumped dump_forms.Diagrams text old new outcome = DumpsDiagrams text old new outcome
Dumped dump_forms.Objects text old new outcome = DumpsObjects text old new outcome
Dumped dump_forms.Locations text old new outcome = WritesLocations text old new outcome

-- a database was checked, and its diagnostics were written in this form
abbrev pub Checked : ReportForm → List ℕ → Written → Written → Result Verdict RunFault → Type 0
Checked report_forms.Lines text old new outcome = ChecksAll text old new outcome
Checked report_forms.Objects text old new outcome = WritesObjects text old new outcome

-- a database was explained in this form
abbrev pub Explained : ReportForm → List ℕ → Written → Written → Result Verdict RunFault → Type 0
Explained report_forms.Lines text old new outcome = ExplainsText text old new outcome
Explained report_forms.Objects text old new outcome = WritesObjects text old new outcome

-- the command ended in this way: `before` and `after` are what is unread of the source, `old` and `new` what the sink has; all
-- commands except `decode` and `session` read nothing from the source
abbrev pub EndsWith : Command → List ℕ → Unread → Unread → Written → Written → ℕ → Type 0
EndsWith (commands.Check form) text before after old new status =
    (after ≡ before) × Ends verdict_status (Checked form text old new) status
EndsWith (commands.Decode short form) text before after old new status =
    Ends well (Decoded form text (short_of short) before after old new) status
EndsWith (commands.Dump form) text before after old new status = (after ≡ before) × Ends well (Dumped form text old new) status
EndsWith (commands.Explain form) text before after old new status =
    (after ≡ before) × Ends verdict_status (Explained form text old new) status
EndsWith commands.Print text before after old new status = (after ≡ before) × Ends well (PrintsText text old new) status
EndsWith (commands.Session short keep) text before after old new status =
    Ends well (SessionRuns text (record { short = short_of short; keep = keep }) before after old new) status
