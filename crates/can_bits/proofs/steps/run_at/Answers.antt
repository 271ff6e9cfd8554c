use Rattle.std.proofs.Common.{◌≡◌, ℕ, ◌+◌, ◌-◌, ◌%◌, ◌<◌, ◌≤◌, ap, arith}
use Rattle.dbc_records.specs.Records.{is_intel}
use Rattle.can_bits.specs.Bits.{mirrored}
use Rattle.can_bits.proofs.Runs.{is_intel_run, is_motorola_run}
use Rattle.can_bits.proofs.steps.run_at.Goals as goal

pub returns-in-Intel : goal.returns-in-Intel
returns-in-Intel c =
    let p : ℕ = c.passed-passed.result in
    let at : p ≡ c.args.field.start + c.args.index = rw c.in-Intel.is at c.passed-passed.ensures in
    let run : ℕ = c.min-run.result in
    let within : p % 8 + run ≤ 8 = omega (arith, c.min-run.ensures) in
    let some : 0 < run = omega (arith, c.min-run.ensures, c.requires.inside) in
    let inside : c.args.index + run ≤ c.args.field.length = omega (arith, c.min-run.ensures, c.requires.inside) in
    let fills : c.args.index + run < c.args.field.length → p % 8 + run ≡ 8 = λ more. omega (arith, more, c.min-run.ensures) in
    record {
      run = rw c.from.ensures (is_intel_run c.args.field c.args.index run p c.of_run.result (ap is_intel c.in-Intel.is) at within
          fills some inside c.of_run.ensures.valid c.of_run.ensures.takes);
    }

pub returns-in-Motorola : goal.returns-in-Motorola
returns-in-Motorola c =
    let q : ℕ = c.passed-passed.result in
    let at : q ≡ mirrored c.args.field.start + c.args.index = rw c.in-Motorola.is at c.passed-passed.ensures in
    let run : ℕ = c.min-run.result in
    let left : ℕ = c.args.field.length - c.args.index in
    let within : q % 8 + run + (8 - q % 8 - run) ≡ 8 = omega (arith, c.min-run.ensures) in
    let some : 0 < run = omega (arith, c.min-run.ensures, c.requires.inside) in
    let inside : c.args.index + run + (left - run) ≡ c.args.field.length = omega (arith, c.min-run.ensures, c.requires.inside) in
    let fills : c.args.index + run < c.args.field.length → q % 8 + run ≡ 8 = λ more. omega (arith, more, c.min-run.ensures) in
    record {
      run = rw c.from-in-Motorola.ensures (is_motorola_run c.args.field c.args.index run q (8 - q % 8 - run) (left - run)
          c.of_run-in-Motorola.result (ap is_intel c.in-Motorola.is) at within inside fills some c.of_run-in-Motorola.ensures.valid
          c.of_run-in-Motorola.ensures.takes);
    }
