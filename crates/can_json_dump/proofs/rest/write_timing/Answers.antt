use Rattle.std.proofs.Common.{map}
use Rattle.std.specs.Prelude.{codes}
use Rattle.can_json_texts.specs.Values.{array_of, or_null}
use Rattle.can_json_texts.specs.Records.{decimal_json}
use Rattle.can_json_texts.proofs.Tokens.{member_written}
use Rattle.can_json_dump.proofs.rest.write_timing.Goals as goal

pub returns : goal.returns
returns c =
    member_written (codes "bit_timing") (or_null (λ numbers. array_of (map decimal_json numbers)) c.args.timing.now)
    c.args.text.now c.key.new.self c.write_timing_numbers.new.text
    c.in_ok-write_timing_numbers.ensures c.in_ok-key.ensures
