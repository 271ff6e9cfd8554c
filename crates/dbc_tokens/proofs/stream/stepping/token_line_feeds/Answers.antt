use Rattle.std.proofs.Common.{sym, arith}
use Rattle.dbc_tokens.proofs.LineFeeds.{token_feeds}
use Rattle.dbc_tokens.proofs.stream.stepping.token_line_feeds.Goals as goal

pub returns-in_default : goal.returns-in_default
returns-in_default c = record {
  value = sym (token_feeds c.args.kind c.args.bytes.now c.requires c.in_default.not-Text);
  in_range = omega arith;
}
