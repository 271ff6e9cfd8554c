use Rattle.std.proofs.Common.{◌≡◌, drop}
use Rattle.std.specs.List.{find}
use Rattle.std.specs.Str.{bytes_eq}
use Rattle.session_script.specs.Words.{verb_word}
use Rattle.session_script.proofs.verb.first_with_word.Given as goal

-- the first is among the verbs to come
abbrev pub invariant-loop-verb : goal.invariant-loop-verb
invariant-loop-verb l =
    find (λ verb. bytes_eq (verb_word verb) l.word) (drop l.verb-index l.verbs) ≡ find (λ verb. bytes_eq (verb_word verb) l.word)
    l.verbs
