use Rattle.std.proofs.Common.{List, ℕ, ◌++◌, ap, ◌∙◌, rules}
use Rattle.std.specs.Prelude.{codes}
use Rattle.json.specs.Json.{string}
use Rattle.can_json_texts.specs.Members.{Key, keyed}
use Rattle.can_json_lines.specs.Lines.{not_decoded, number_member}
use Rattle.can_json_lines.proofs.Labels.{two_further}
use Rattle.can_json_lines.proofs.frame.push_wrong_size.Goals as goal

pub returns : goal.returns
returns c =
    two_further c.args.text.now.items c.push_quoted.new.text.items c.push_number_member.new.text.items (not_decoded
    (codes "wrong size"))
    (number_member (codes "size") c.args.wanted) (search rules)
    (c.in_ok-push_quoted.ensures ∙ ap (λ (key : Key). c.args.text.now.items ++ keyed key (string (codes "wrong size")))
    c.args.keys.now.is_not_decoded)
