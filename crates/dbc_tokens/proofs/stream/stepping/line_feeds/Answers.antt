use Rattle.std.proofs.Common.{sym, ap, ◌∙◌, arith}
use Rattle.dbc_values.specs.Lexical.{line_feed}
use Rattle.dbc_tokens.specs.Tokens.{line_feeds}
use Rattle.dbc_tokens.proofs.Searches.{first_byte, no_byte}
use Rattle.dbc_tokens.proofs.LineFeeds.{no_feeds, feeds_from}
use Rattle.dbc_tokens.proofs.stream.stepping.line_feeds.Goals as goal

pub returns-in-Some-clause-value : goal.returns-in-Some-clause-value
returns-in-Some-clause-value c =
    let s = c.args.bytes.now in
    let found = first_byte line_feed s c.in-Some.first c.in-Some.ensures in
    c.count_line_feeds.ensures.value ∙ ap line_feeds c.split_at.ensures.back
    ∙ feeds_from s c.in-Some.first (omega (arith, found.0)) found.1

pub returns-in-None-clause-value : goal.returns-in-None-clause-value
returns-in-None-clause-value c = let s = c.args.bytes.now in sym (no_feeds s (no_byte line_feed s c.in-None.ensures))
