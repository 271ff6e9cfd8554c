use Rattle.std.proofs.Common.{rules, option_map}
use Rattle.can_json_lines.proofs.Given.{known_pushed}
use Rattle.can_json_lines.proofs.line.push_decoded.Goals as goal

pub returns : goal.returns
returns c =
    known_pushed c.args.text.now.items c.push_came.new.text.items c.push_after_came.new.text.items c.push.new.self.items
    c.args.body.now c.words_of-words.result.time.now c.words_of-words.result.interface.now c.words_of-words.result.rest.now
    c.args.frame.now (option_map (λ target. target.now) c.args.target) (search rules) (search rules) (search rules)
    c.words_of-words.ensures.time c.words_of-words.ensures.interface c.words_of-words.ensures.rest
