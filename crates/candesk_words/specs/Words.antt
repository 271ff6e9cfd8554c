-- Which arguments are which job. How arguments are read at all, with options, `--` and `help`, is defined by clap's definitions for
-- a command line with these commands and options.
use Rattle.std.specs.Prelude.{◌≡◌, ◌≢◌, ⊤, ℕ, Bool, true, false, List, [], codes, Option, Some, None, option_and_then, option_map}
use Rattle.std.specs.Prelude.{Result, Ok, Err, ◌⊎◌, if◌then◌else◌}
use Rattle.std.specs.Option.{option_map_or}
use Rattle.std.specs.Str.{bytes_eq}
use Rattle.std.specs.Str.Parse.{digits_value, without_leading_plus}
use Rattle.clap.specs.Words.{App, Rule, Row, Text, new_app, new_rule, with_rule, with_subcommand, subcommand_of, first_of, one_of}
use Rattle.clap.specs.Words.{fault_of, IsAmong}
use Rattle.clap.specs.declared.builder.action.ArgAction.TheVariants.{Set, SetTrue}
use Rattle.clap.specs.declared.builder.value_parser.ValueParser.TheVariants.{Unsigned}
use Rattle.clap.specs.ValueTests.{is_unsigned_in}
use Rattle.session_kept_lines.specs.Counts.{most_lines}
use Rattle.session_kept_lines.specs.declared.keep.Keep.{Keep}
use Rattle.session_kept_lines.specs.declared.keep.Keep.TheVariants.{All, Last}
use Rattle.clap.specs.declared.error.kind.ErrorKind.{ErrorKind}
use Rattle.clap.specs.declared.error.kind.ErrorKind.TheVariants as kinds
use Rattle.candesk_words.specs.declared.job.Command.{Command}
use Rattle.candesk_words.specs.declared.job.Command.TheVariants as commands
use Rattle.candesk_words.specs.declared.job.ReportForm.{ReportForm}
use Rattle.candesk_words.specs.declared.job.ReportForm.TheVariants as report_forms
use Rattle.candesk_words.specs.declared.job.LogForm.{LogForm}
use Rattle.candesk_words.specs.declared.job.LogForm.TheVariants as log_forms
use Rattle.candesk_words.specs.declared.job.DumpForm.{DumpForm}
use Rattle.candesk_words.specs.declared.job.DumpForm.TheVariants as dump_forms
use Rattle.candesk_words.specs.declared.job.Job.{Job}
use Rattle.candesk_words.specs.declared.job.NoJob.{NoJob}
use Rattle.candesk_words.specs.declared.job.NoJob.TheVariants as reasons

-- ---- the command line

-- one FILE has to be given
abbrev pub file_rule : Rule
file_rule = record (new_rule (codes "FILE")) { required = true }

-- a command on a FILE
unfoldable pub on_file : Text → App
on_file name = with_rule (new_app name) file_rule

-- the flag `--short`
abbrev pub short_rule : Rule
short_rule = record (new_rule (codes "short")) { long = Some (codes "short"); action = Some SetTrue }

-- a command on a FILE that decodes frames, and takes `--short`
unfoldable pub on_frames : Text → App
on_frames name = with_rule (on_file name) short_rule

-- the flag `--json`
abbrev pub json_rule : Rule
json_rule = record (new_rule (codes "json")) { long = Some (codes "json"); action = Some SetTrue }

-- the flag `--csv`
abbrev pub csv_rule : Rule
csv_rule = record (new_rule (codes "csv")) { long = Some (codes "csv"); action = Some SetTrue }

-- `decode`, which takes `--json` and `--csv` too
unfoldable pub on_decode : App
on_decode = with_rule (with_rule (on_frames (codes "decode")) json_rule) csv_rule

-- a command that takes a FILE, and `--json`
unfoldable pub on_objects : Text → App
on_objects name = with_rule (on_file name) json_rule

-- the flag `--at`
abbrev pub locations_rule : Rule
locations_rule = record (new_rule (codes "at")) { long = Some (codes "at"); action = Some SetTrue }

-- `dump`, which takes `--json` and `--at`
unfoldable pub on_dump : App
on_dump = with_rule (with_rule (on_file (codes "dump")) json_rule) locations_rule

-- `--keep` with a number of lines
abbrev pub keep_rule : Rule
keep_rule = record (new_rule (codes "keep")) {
  long = Some (codes "keep");
  action = Some Set;
  value_names = 1;
  parser = Some (Unsigned 1 most_lines);
}

-- `session`, which takes `--keep` too
unfoldable pub on_session : App
on_session = with_rule (on_frames (codes "session")) keep_rule

-- the words before a command, which has to be given: `--help` and `--version` alone
unfoldable pub before_command : App
before_command = let app = new_app (codes "candesk") in
    record app { top = record app.top { has_version = true; no_binary_name = true; subcommand_required = true } }

-- one command more
unfoldable pub with_command : App → App → App
with_command line command = with_subcommand line command.top

unfoldable pub command_line : App
command_line =
    let check = with_command before_command (on_objects (codes "check")) in
    let decode = with_command check on_decode in
    let dump = with_command decode on_dump in
    let explain = with_command dump (on_objects (codes "explain")) in
    let print = with_command explain (on_file (codes "print")) in
    with_command print on_session

-- ---- jobs

-- whether the flag of this name is given; if so clap finds `true` for it, otherwise `false`
abbrev pub has_flag : Text → List Row → Bool
has_flag name rows = option_map_or (λ text. bytes_eq text (codes "true")) (one_of name rows) false

-- the number of lines that the value of `--keep` spells in decimal, after a `+` or none; none if that is no valid number of lines
abbrev pub count_in : Text → Option ℕ
count_in text = if is_unsigned_in 1 most_lines text then Some (digits_value 10 (without_leading_plus text)) else None

-- a number of the last lines if `--keep` is given, and all lines if it isn't
abbrev pub keep_found : List Row → Option Keep
keep_found rows = option_map_or (λ text. option_map (λ count. Last count) (count_in text)) (one_of (codes "keep") rows) (Some All)

-- how diagnostics are written, by whether `--json` is given
abbrev pub report_form : Bool → ReportForm
report_form false = report_forms.Lines
report_form true = report_forms.Objects

-- how a log is written, by whether `--json` and `--csv` are given; none if both are
abbrev pub log_form : Bool → Bool → Option LogForm
log_form false false = Some log_forms.Lines
log_form true false = Some log_forms.Objects
log_form false true = Some log_forms.Rows
log_form true true = None

-- how messages are written, by whether `--json` and `--at` are given; none if both are
abbrev pub dump_form : Bool → Bool → Option DumpForm
dump_form false false = Some dump_forms.Diagrams
dump_form true false = Some dump_forms.Objects
dump_form false true = Some dump_forms.Locations
dump_form true true = None

-- the command of this name, and what its options ask for
unfoldable pub command_found : Text → List Row → Option Command
command_found name rows =
    let json = has_flag (codes "json") rows in
    let short = has_flag (codes "short") rows in
    if bytes_eq name (codes "check") then Some (commands.Check (report_form json))
    else (if bytes_eq name (codes "decode") then option_map (λ form. commands.Decode short form)
    (log_form json (has_flag (codes "csv") rows))
    else (if bytes_eq name (codes "dump") then option_map (λ form. commands.Dump form) (dump_form json (has_flag (codes "at") rows))
    else (if bytes_eq name (codes "explain") then Some (commands.Explain (report_form json))
    else (if bytes_eq name (codes "print") then Some commands.Print
    else (if bytes_eq name (codes "session") then option_map (λ keep. commands.Session short keep) (keep_found rows) else None)))))

-- the contents of a job: the command, and its FILE
abbrev pub JobParts : Type 0
JobParts = Command × Text

-- the job of the words, from what clap finds in them
abbrev pub job_found : Option (Text × List Row) → Option JobParts
job_found None = None
job_found (Some found) = option_and_then
    (λ command. option_map (λ file. (command, file)) (first_of (codes "FILE") found.1))
    (command_found found.0 found.1)

abbrev pub job_as_found : Job → JobParts
job_as_found job = (job.command, job.file.bytes.items)

-- the job that the words name
abbrev pub job_named : List Text → Option JobParts
job_named words = job_found (subcommand_of command_line words)

-- the answer to words with a fault of this kind
abbrev pub SaysOf : ErrorKind → NoJob → Type 0
SaysOf kind reasons.Usage = (kind ≢ kinds.OutOfMemory) × (kind ≢ kinds.DisplayHelp) × (kind ≢ kinds.DisplayVersion)
SaysOf kind (reasons.Help text) = (kind ≡ kinds.DisplayHelp) ⊎ (kind ≡ kinds.DisplayVersion)
SaysOf kind reasons.Memory = ⊤

-- The job is the one that the words name, and they have no fault. Otherwise they have a fault with this answer, or name no job,
-- or memory ran out.
abbrev pub IsJobOf : List Text → Result Job NoJob → Type 0
IsJobOf words (Ok job) = (fault_of command_line words ≡ []) × (job_named words ≡ Some (job_as_found job))
IsJobOf words (Err reasons.Memory) = ⊤
IsJobOf words (Err reasons.Usage) = job_named words ≡ None ⊎ ((kind : ErrorKind) × IsAmong kind (fault_of command_line words)
    × SaysOf kind reasons.Usage)
IsJobOf words (Err (reasons.Help text)) = (kind : ErrorKind) × IsAmong kind (fault_of command_line words)
    × SaysOf kind (reasons.Help text)
