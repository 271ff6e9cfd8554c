-- The definitions of words, computed on words that are written out.
use Rattle.std.proofs.Common.{◌≡◌, true, false, [], ◌∷◌, Some, None, codes, refl}
use Rattle.clap.specs.Words.{fault_of}
use Rattle.clap.specs.declared.error.kind.ErrorKind.TheVariants.{ArgumentConflict, DisplayVersion, MissingRequiredArgument}
use Rattle.clap.specs.declared.error.kind.ErrorKind.TheVariants.{UnknownArgument, ValueValidation}
use Rattle.clap.proofs.OnLiterals.{clap_on_literals}
use Rattle.candesk_words.proofs.OnLiterals.{words_on_literals}
use Rattle.candesk_words.specs.declared.job.Command.TheVariants.{Check, Decode, Dump, Explain, Print, Session}
use Rattle.candesk_words.specs.declared.job.ReportForm.TheVariants as report
use Rattle.candesk_words.specs.declared.job.LogForm.TheVariants as log
use Rattle.candesk_words.specs.declared.job.DumpForm.TheVariants as dump
use Rattle.session_kept_lines.specs.declared.keep.Keep.TheVariants.{All, Last}
use Rattle.candesk_words.specs.Words.{command_line, job_named}

check-job : job_named (codes "check" ∷ codes "a" ∷ []) ≡ Some (Check report.Lines, codes "a")
unfolding clap_on_literals words_on_literals
check-job = refl

decode-job : job_named (codes "decode" ∷ codes "a" ∷ []) ≡ Some (Decode false log.Lines, codes "a")
unfolding clap_on_literals words_on_literals
decode-job = refl

decode-has_no_fault : fault_of command_line (codes "decode" ∷ codes "a" ∷ []) ≡ []
unfolding clap_on_literals words_on_literals
decode-has_no_fault = refl

print-job : job_named (codes "print" ∷ codes "--" ∷ codes "--a" ∷ []) ≡ Some (Print, codes "--a")
unfolding clap_on_literals words_on_literals
print-job = refl

dump-job : job_named (codes "dump" ∷ codes "a" ∷ []) ≡ Some (Dump dump.Diagrams, codes "a")
unfolding clap_on_literals words_on_literals
dump-job = refl

dump-json : job_named (codes "dump" ∷ codes "--json" ∷ codes "a" ∷ []) ≡ Some (Dump dump.Objects, codes "a")
unfolding clap_on_literals words_on_literals
dump-json = refl

dump-json-has_no_fault : fault_of command_line (codes "dump" ∷ codes "--json" ∷ codes "a" ∷ []) ≡ []
unfolding clap_on_literals words_on_literals
dump-json-has_no_fault = refl

dump-locations : job_named (codes "dump" ∷ codes "a" ∷ codes "--at" ∷ []) ≡ Some (Dump dump.Locations, codes "a")
unfolding clap_on_literals words_on_literals
dump-locations = refl

dump-both : job_named (codes "dump" ∷ codes "--at" ∷ codes "--json" ∷ codes "a" ∷ []) ≡ None
unfolding clap_on_literals words_on_literals
dump-both = refl

dump-takes_no_csv : fault_of command_line (codes "dump" ∷ codes "--csv" ∷ codes "a" ∷ []) ≡ UnknownArgument ∷ []
unfolding clap_on_literals words_on_literals
dump-takes_no_csv = refl

explain-job : job_named (codes "explain" ∷ codes "a" ∷ []) ≡ Some (Explain report.Lines, codes "a")
unfolding clap_on_literals words_on_literals
explain-job = refl

version : fault_of command_line (codes "-V" ∷ []) ≡ DisplayVersion ∷ []
unfolding clap_on_literals words_on_literals
version = refl

no-version-after : fault_of command_line (codes "decode" ∷ codes "-V" ∷ codes "a" ∷ []) ≡ UnknownArgument ∷ []
unfolding clap_on_literals words_on_literals
no-version-after = refl

no-file : fault_of command_line (codes "print" ∷ []) ≡ MissingRequiredArgument ∷ []
unfolding clap_on_literals words_on_literals
no-file = refl

decode-short : job_named (codes "decode" ∷ codes "--short" ∷ codes "a" ∷ []) ≡ Some (Decode true log.Lines, codes "a")
unfolding clap_on_literals words_on_literals
decode-short = refl

decode-short-has_no_fault : fault_of command_line (codes "decode" ∷ codes "--short" ∷ codes "a" ∷ []) ≡ []
unfolding clap_on_literals words_on_literals
decode-short-has_no_fault = refl

decode-json : job_named (codes "decode" ∷ codes "a" ∷ codes "--json" ∷ codes "--short" ∷ [])
    ≡ Some (Decode true log.Objects, codes "a")
unfolding clap_on_literals words_on_literals
decode-json = refl

decode-csv : job_named (codes "decode" ∷ codes "--csv" ∷ codes "a" ∷ []) ≡ Some (Decode false log.Rows, codes "a")
unfolding clap_on_literals words_on_literals
decode-csv = refl

decode-both : job_named (codes "decode" ∷ codes "--csv" ∷ codes "--json" ∷ codes "a" ∷ []) ≡ None
unfolding clap_on_literals words_on_literals
decode-both = refl

session-takes_no_json : fault_of command_line (codes "session" ∷ codes "--json" ∷ codes "a" ∷ []) ≡ UnknownArgument ∷ []
unfolding clap_on_literals words_on_literals
session-takes_no_json = refl

session-job : job_named (codes "session" ∷ codes "a" ∷ []) ≡ Some (Session false All, codes "a")
unfolding clap_on_literals words_on_literals
session-job = refl

session-short : job_named (codes "session" ∷ codes "a" ∷ codes "--short" ∷ []) ≡ Some (Session true All, codes "a")
unfolding clap_on_literals words_on_literals
session-short = refl

check-takes_no_short : fault_of command_line (codes "check" ∷ codes "--short" ∷ codes "a" ∷ []) ≡ UnknownArgument ∷ []
unfolding clap_on_literals words_on_literals
check-takes_no_short = refl

dump-takes_no_short : fault_of command_line (codes "dump" ∷ codes "--short" ∷ codes "a" ∷ []) ≡ UnknownArgument ∷ []
unfolding clap_on_literals words_on_literals
dump-takes_no_short = refl

explain-takes_no_short : fault_of command_line (codes "explain" ∷ codes "--short" ∷ codes "a" ∷ []) ≡ UnknownArgument ∷ []
unfolding clap_on_literals words_on_literals
explain-takes_no_short = refl

print-takes_no_short : fault_of command_line (codes "print" ∷ codes "--short" ∷ codes "a" ∷ []) ≡ UnknownArgument ∷ []
unfolding clap_on_literals words_on_literals
print-takes_no_short = refl

short-file : job_named (codes "decode" ∷ codes "--" ∷ codes "--short" ∷ []) ≡ Some (Decode false log.Lines, codes "--short")
unfolding clap_on_literals words_on_literals
short-file = refl

short-twice : fault_of command_line (codes "decode" ∷ codes "--short" ∷ codes "--short" ∷ codes "a" ∷ []) ≡ ArgumentConflict ∷ []
unfolding clap_on_literals words_on_literals
short-twice = refl

session-keep : job_named (codes "session" ∷ codes "--keep" ∷ codes "2" ∷ codes "a" ∷ [])
    ≡ Some (Session false (Last 2), codes "a")
unfolding clap_on_literals words_on_literals
session-keep = refl

session-keep-has_no_fault : fault_of command_line (codes "session" ∷ codes "--keep" ∷ codes "2" ∷ codes "a" ∷ []) ≡ []
unfolding clap_on_literals words_on_literals
session-keep-has_no_fault = refl

keep-of_none : fault_of command_line (codes "session" ∷ codes "--keep" ∷ codes "0" ∷ codes "a" ∷ []) ≡ ValueValidation ∷ []
unfolding clap_on_literals words_on_literals
keep-of_none = refl

decode-takes_no_keep : fault_of command_line (codes "decode" ∷ codes "--keep" ∷ codes "2" ∷ codes "a" ∷ []) ≡ UnknownArgument ∷ []
unfolding clap_on_literals words_on_literals
decode-takes_no_keep = refl
