use Rattle.std.proofs.Common.{◌∙◌, Bor, ℕ, List, map, sym, ap, subst}
use Rattle.clap.specs.Words.{App, HasKind, Kinds, fault_of, is_simple, is_simple_and_free, subcommand_of}
use Rattle.candesk_words.proofs.Commands.{simple, free, IsJobOf-found, IsJobOf-fault}
use Rattle.candesk_words.proofs.job.job_of.Goals as goal

pub returns-in-Ok : goal.returns-in-Ok
returns-in-Ok c =
    let is = c.in_ok-command.ensures in
    let words = map {A = Bor (List ℕ)} {B = List ℕ} (λ word. word.now) c.args.words.now in
    let found = (c.in-Ok.ensures.matches (ap is_simple is ∙ simple)).1 in
    IsJobOf-found words c.in-Ok.matches c.job_in.result (sym (ap (λ (a : App). fault_of a words) is)
    ∙ c.in-Ok.ensures.kinds (ap is_simple_and_free is ∙ free)) (found ∙ ap (λ (a : App). subcommand_of a words) is)
    c.job_in.ensures.ok c.job_in.ensures.err

pub returns-in-Err : goal.returns-in-Err
returns-in-Err c =
    let is = c.in_ok-command.ensures in
    let words = map {A = Bor (List ℕ)} {B = List ℕ} (λ word. word.now) c.args.words.now in
    IsJobOf-fault words c.in-Err.fault c.no_job.result (subst (λ (kinds : Kinds). HasKind kinds c.in-Err.fault)
    (ap (λ (a : App). fault_of a words) is) (c.in-Err.ensures.kinds (ap is_simple_and_free is ∙ free))) c.no_job.ensures
