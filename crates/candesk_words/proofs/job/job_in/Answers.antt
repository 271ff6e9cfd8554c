use Rattle.std.proofs.Common.{◌≡◌, Some, None, codes, refl, inr, rules}
use Rattle.clap.specs.Words.{first_value, found_of, rows_of}
use Rattle.candesk_words.specs.Words.{command_found}
use Rattle.candesk_words.proofs.Commands.{no-file, job-found}
use Rattle.candesk_words.proofs.job.job_in.Goals as goal

pub returns-in_default-get_str-clause-err : goal.returns-in_default-get_str-clause-err
returns-in_default-get_str-clause-err c =
    let command : command_found c.in-Some.name.now (rows_of (found_of c.in-Some.found.now)) ≡ Some c.in-Some-command_in.command =
    search rules in
    let file : first_value (found_of c.in-Some.found.now) (codes "FILE") ≡ None = search rules in
    inr (refl, no-file _ _ _ c.in-Some.ensures.name c.in-Some.ensures.rows _ command file)

pub returns-clause-ok : goal.returns-clause-ok
returns-clause-ok c =
    let command : command_found c.in-Some.name.now (rows_of (found_of c.in-Some.found.now)) ≡ Some c.in-Some-command_in.command =
    search rules in
    let file : first_value (found_of c.in-Some.found.now) (codes "FILE") ≡ Some c.in_ok-file.file.bytes.items = search rules in
    job-found _ _ _ c.in-Some.ensures.name c.in-Some.ensures.rows _ _ command file
