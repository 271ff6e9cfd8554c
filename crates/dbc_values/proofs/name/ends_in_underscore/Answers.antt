use Rattle.std.proofs.Common.{◌≡◌, false}
use Rattle.dbc_values.specs.Lexical.{ends_in_underscore}
use Rattle.dbc_values.proofs.Keywords.{no_keyword, nothing_ends}
use Rattle.dbc_values.proofs.name.ends_in_underscore.Goals as goal

pub returns-then-not-is_empty-clause-keyword : goal.returns-then-not-is_empty-clause-keyword
returns-then-not-is_empty-clause-keyword c = λ without. no_keyword c.args.word.now without

pub returns-else-not-is_empty-clause-keyword : goal.returns-else-not-is_empty-clause-keyword
returns-else-not-is_empty-clause-keyword c = λ without.
    let ends : ends_in_underscore c.args.word.now ≡ false = nothing_ends _ c.if-not-is_empty.ensures in
    no_keyword c.args.word.now ends
