use Rattle.std.proofs.Common.{◌≡◌, ◌++◌}
use Rattle.dbc_records.specs.Layout.{zeros}
use Rattle.can_json_texts.proofs.decimal.push_zeros.Given as goal

-- this many zeros are pushed
abbrev pub invariant-loop-zero : goal.invariant-loop-zero
invariant-loop-zero l = l.text.items ≡ l.initial.text.items ++ zeros l._zero
