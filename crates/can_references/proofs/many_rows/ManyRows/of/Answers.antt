use Rattle.std.specs.Option.{option_map}
use Rattle.can_references.specs.inner.ManyRows.{is_kept_number}
use Rattle.can_references.proofs.many_rows.ManyRows.of.Goals as goal

pub invariant_of-result : goal.invariant_of-result
invariant_of-result c =
    (is_kept_number c.args.numbers.now (option_map (λ numbers. numbers.now) c.args.wanted), c.in_ok-by_key.ensures)
