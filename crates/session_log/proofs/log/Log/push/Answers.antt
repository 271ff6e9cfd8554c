use Rattle.std.proofs.Common.{◌≡◌, ◌<◌, ◌^◌, [], ◌∷◌, ◌++◌, List, map, length, sym, ◌∙◌, rules}
use Rattle.std.proofs.lemmas.List.{map_push, length-map}
use Rattle.std.proofs.lemmas.List.Elements.{All-push}
use Rattle.can_decode.specs.Choices.{data_number}
use Rattle.session_log.specs.declared.line.Line.{Line}
use Rattle.session_log.specs.Logs.{bytes_of, IsNumbered}
use Rattle.session_log.proofs.Serials.{further_position}
use Rattle.session_log.proofs.Indexed.{unlisted, listed}
use Rattle.session_log.proofs.log.Log.push.Goals as goal
use Rattle.session_log.proofs.log.Log.push.Goals.{in-Some+in_ok-add, in_default}

pub invariant_of-self-2 : goal.invariant_of-self-2
invariant_of-self-2 c =
    let lines : List Line = c.self.inside.lines.items in
    let line : Line = c.args.line in
    let first = c.self.inside.first in
    let log = c.self.invariant in
    let number : line.number ≡ data_number (bytes_of line) = c.requires in
    let many = length-map lines bytes_of in
    elim c.match-line-2.branch [
      | in-Some+in_ok-add w ↦
          let all : c.push_back_reserved.new.self.items ≡ lines ++ line ∷ [] =
          rw (w.self-inside-is, c.in_ok-reserve.ensures.items) at c.push_back_reserved.ensures.items in
          let long : w.len.result ≡ length (map bytes_of lines) = search rules in
          let within : w.len.result < 2 ^ 64 = search rules in
          rw (all, w.self-inside-is) (record {
            indexed = rw (map_push bytes_of lines line) (listed first (map bytes_of lines) (bytes_of line) w.in-Some.number _
                c.self.inside.index w.add.new.self (sym number ∙ w.in-Some.is)
                (further_position first w.len.result log.serial within ∙ long) log.indexed w.in_ok-add.ensures.ok);
            numbered = All-push IsNumbered lines line log.numbered number;
            serial = log.serial;
          })
      | in_default w ↦
          let all : c.push_back_reserved.new.self.items ≡ lines ++ line ∷ [] =
          rw (w.self-inside-is, c.in_ok-reserve.ensures.items) at c.push_back_reserved.ensures.items in
          rw (all, w.self-inside-is) (record {
            indexed = rw (map_push bytes_of lines line) (unlisted first (map bytes_of lines) (bytes_of line) c.self.inside.index
                (sym number ∙ w.in_default.is) log.indexed);
            numbered = All-push IsNumbered lines line log.numbered number;
            serial = log.serial;
          })
    ]
