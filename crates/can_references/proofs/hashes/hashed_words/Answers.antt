use Rattle.std.proofs.Common.{◌∙◌}
use Rattle.can_references.proofs.NameHashes.{words_on, words_end}
use Rattle.can_references.proofs.hashes.hashed_words.Goals as goal

pub words-preserved : goal.words-preserved
words-preserved c =
    words_on c.words.hash _ c.words.rest.now _ _ c.in-Some.ensures.cases.0 c.in-Some.ensures.cases.1 c.in-Some.ensures.cases.2
    c.hashed_word-hash.ensures ∙ c.words.invariant

pub returns : goal.returns
returns c = words_end c.words.hash c.words.rest.now c.in_default.ensures.cases ∙ c.words.invariant
