use Rattle.std.proofs.Common.{◌≡◌, ◌++◌, take}
use Rattle.std.specs.List.{flat_map}
use Rattle.can_csv_lines.specs.inner.Prepared.{doubled}
use Rattle.can_csv_lines.proofs.field.push_all_doubled.Given as goal

-- the bytes so far
abbrev pub invariant-loop-b : goal.invariant-loop-b
invariant-loop-b l = l.text.items ≡ l.initial.text.items ++ flat_map doubled (take l.b-index l.field)
