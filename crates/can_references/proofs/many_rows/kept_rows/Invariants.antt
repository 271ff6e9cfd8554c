use Rattle.std.proofs.Common.{take}
use Rattle.std.specs.Option.{option_map}
use Rattle.can_references.specs.inner.ManyRows.{is_kept_number, AreKept}
use Rattle.can_references.proofs.many_rows.kept_rows.Given as goal

-- of the entries so far
abbrev pub invariant-loop-row : goal.invariant-loop-row
invariant-loop-row l =
    AreKept (is_kept_number l.numbers (option_map (λ numbers. numbers.now) l.wanted)) l.by_key (take l.row-index l.rows)
