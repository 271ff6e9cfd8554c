use Rattle.std.proofs.Common.{codes, ◌∷◌, []}
use Rattle.json.specs.Json.{string}
use Rattle.can_json_texts.proofs.Tokens.{members_then}
use Rattle.dbc_tokens.specs.Causes.{cause_word}
use Rattle.can_json_findings.proofs.fault.write_word_and_severity.Goals as goal

pub returns : goal.returns
returns c =
    members_then ((codes "word", string (cause_word c.args.cause)) ∷ []) ((codes "severity", string (codes "error")) ∷ [])
    c.args.text.now c.write_word.new.text c.write_string.new.text c.in_ok-write_string.ensures c.in_ok-write_word.ensures
