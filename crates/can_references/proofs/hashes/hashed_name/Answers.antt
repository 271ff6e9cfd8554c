use Rattle.std.proofs.Common.{◌∙◌}
use Rattle.can_references.proofs.NameHashes.{of_long, of_short}
use Rattle.can_references.proofs.hashes.hashed_name.Goals as goal

pub returns-in-Some : goal.returns-in-Some
returns-in-Some c =
    c.hashed_word.ensures
    ∙ of_long c.args.name.now c.in-Some.field-0-0.now c.in-Some.last.now c.hashed_words.result
    c.in-Some.ensures.cases.2 c.in-Some.ensures.cases.1 c.hashed_words.ensures

pub returns-in-None : goal.returns-in-None
returns-in-None c = of_short c.args.name.now c.hashed_bytes.result c.in-None.ensures.cases c.hashed_bytes.ensures
