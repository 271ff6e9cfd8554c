use Rattle.std.proofs.Common.{◌≡◌, ◌<◌, ◌+◌, ◌%◌, ◌^◌, zero, ◌∷◌, List, map, length, sym, ◌∙◌, arith}
use Rattle.std.proofs.lemmas.List.{length-map}
use Rattle.std.proofs.lemmas.List.Elements.{All-tail}
use Rattle.std.proofs.lemmas.Nat.{mod_below}
use Rattle.can_decode.specs.Choices.{data_number}
use Rattle.session_log.specs.declared.line.Line.{Line}
use Rattle.session_log.specs.Kept.{IsLog}
use Rattle.session_log.specs.Logs.{bytes_of, IsNumbered}
use Rattle.session_log.proofs.Indexed.{unlisted_first, listed_first}
use Rattle.session_log.proofs.log.Log.drop_first.Goals as goal
use Rattle.session_log.proofs.log.Log.drop_first.Goals.{in-Some-number, in_default-number}

pub invariant_of-self-2 : goal.invariant_of-self-2
invariant_of-self-2 c =
    let line : Line = c.in-Some.line in
    let rest : List Line = c.pop_front.new.self.items in
    let first = c.self.inside.first in
    let split : c.self.inside.lines.items ≡ line ∷ rest = c.in-Some.ensures.items in
    let log : IsLog first (line ∷ rest) c.self.inside.index = rw split at c.self.invariant in
    let number : line.number ≡ data_number (bytes_of line) = log.numbered zero line (omega arith) in
    let fits : length (map bytes_of rest) < 2 ^ 64 = omega (
      arith,
      length-map rest bytes_of,
      c.pop_front.new.self.ok.0,
      c.pop_front.new.self.small.0,
      c.pop_front.new.self.small.1,
    ) in
    let numbered = All-tail IsNumbered line rest log.numbered in
    let serial : (first + 1) % 2 ^ 64 < 2 ^ 64 = mod_below (first + 1) (2 ^ 64) (omega arith) in
    elim c.match-line.branch [
      | in-Some-number w ↦ rw w.self-inside-is (record {
        indexed = listed_first first (bytes_of line) (map bytes_of rest) w.in-Some-number.number c.self.inside.index
            w.drop_first.new.self log.serial fits (sym number ∙ w.in-Some-number.is) log.indexed w.drop_first.ensures;
        numbered = numbered;
        serial = serial;
      })
      | in_default-number w ↦ rw w.self-inside-is (record {
        indexed = unlisted_first first (bytes_of line) (map bytes_of rest) c.self.inside.index log.serial fits
            (sym number ∙ w.in_default-number.is) log.indexed;
        numbered = numbered;
        serial = serial;
      })
    ]
