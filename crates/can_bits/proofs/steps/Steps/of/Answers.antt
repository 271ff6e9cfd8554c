use Rattle.std.proofs.Common.{◌+◌, ◌%◌, ◌/◌, length, length-append, ◌≡◌, ℕ, sym, ap, ◌∙◌, arith}
use Rattle.std.proofs.lemmas.List.Elements.{All-push}
use Rattle.std.proofs.lemmas.List.Sums.{sum_by_push}
use Rattle.can_bits.specs.Bits.{bits_of, bits_from, unsigned_raw}
use Rattle.can_bits.specs.Steps.{part_of, passed_at, IsStep}
use Rattle.can_bits.proofs.Runs.{more_bits, one_more}
use Rattle.can_bits.proofs.steps.Steps.of.Goals as goal

pub push_reserved-requires : goal.push_reserved-requires
push_reserved-requires c =
    let so_far : length c.loop-index.steps.items ≡ (passed_at c.args.field 0 % 8 + c.loop-index.index) / 8 =
    c.loop-index.invariant.count c.loop-index-test.true in
    omega (arith, so_far, c.loop-index.invariant.capacity, c.loop-index-test.true, c.requires)

pub loop-index-preserved : goal.loop-index-preserved
loop-index-preserved c =
    let run = c.run_at-run.ensures.run in
    let items = c.push_reserved.ensures.items in
    let so_far : length c.loop-index.steps.items ≡ (passed_at c.args.field 0 % 8 + c.loop-index.index) / 8 =
    c.loop-index.invariant.count c.loop-index-test.true in
    record {
      within = run.within;
      capacity = c.push_reserved.ensures.capacity ∙ c.loop-index.invariant.capacity;
      count = λ more. rw (items, length-append) (one_more c.args.field c.loop-index.index c.run_at-run.result.1
          (length c.loop-index.steps.items) so_far (run.fills more));
      valid = rw items (All-push IsStep c.loop-index.steps.items c.run_at-run.result.0 c.loop-index.invariant.valid run.valid);
      same = λ bytes. rw (
        items,
        sum_by_push (part_of bytes) c.loop-index.steps.items c.run_at-run.result.0,
        c.loop-index.invariant.same bytes,
        run.same bytes,
      )
          (sym (more_bits bytes c.args.field c.loop-index.index c.run_at-run.result.1));
    }

pub invariant_of-result : goal.invariant_of-result
unfolding bits_of
invariant_of-result c =
    let done : c.loop-index.index ≡ c.args.field.length = omega (arith, c.loop-index.invariant.within, c.loop-index-test.false) in (
      record {
        length = c.requires;
        valid = c.loop-index.invariant.valid;
        same = λ bytes. c.loop-index.invariant.same bytes ∙ ap (λ (n : ℕ). unsigned_raw bytes (bits_from c.args.field 0 n)) done;
      },
      c.of-window.ensures,
    )
