use Rattle.std.proofs.Common.{◌≡◌, ℕ, ◌+◌, ◌^◌, ◌<◌, ◌≤◌, List, take, arith}
use Rattle.std.specs.List.{sum_by}
use Rattle.std.proofs.lemmas.List.Sums.{sum_by_more_le}
use Rattle.std.proofs.Math.Nat.{pow-le-pow_right}
use Rattle.can_bits.specs.Bits.{bits_of, unsigned_raw}
use Rattle.can_bits.specs.declared.step.Step.{Step}
use Rattle.can_bits.specs.Steps.{part_of}
use Rattle.can_bits.proofs.Runs.{raw_below}
use Rattle.can_bits.proofs.steps.Steps.raw_by_steps.Goals as goal

pub overflow_add-raw : goal.overflow_add-raw
unfolding bits_of
overflow_add-raw c =
    let bytes : List ℕ = c.args.bytes.now in
    let steps : List Step = c.as_slice-step-items.result.now in
    let part : sum_by (part_of bytes) (take c.loop-step.step-index steps) + c.part-raw.result ≤ sum_by (part_of bytes) steps =
    rw c.part-raw.ensures (sum_by_more_le (part_of bytes) steps c.loop-step.step-index _ c.loop-step-test.true) in
    let whole : sum_by (part_of bytes) steps ≡ unsigned_raw bytes (bits_of c.self.inside.field) =
    rw c.as_slice-step-items.ensures (c.self.invariant.0.same bytes) in
    let below : unsigned_raw bytes (bits_of c.self.inside.field) < 2 ^ c.self.inside.field.length =
    raw_below bytes c.self.inside.field in
    let word : 2 ^ c.self.inside.field.length ≤ 2 ^ 64 = pow-le-pow_right {n = 2} (omega arith) c.self.invariant.0.length in
    omega (arith, c.loop-step.invariant, part, whole, below, word)
