use Rattle.std.proofs.Common.{◌≡◌, ap, inl, inr, ◌+◌, ◌-◌, ◌≤◌, arith}
use Rattle.dbc_records.specs.Records.{is_intel}
use Rattle.can_bits.specs.Bits.{mirrored}
use Rattle.can_bits.specs.declared.field.Field.{Field}
use Rattle.can_bits.proofs.Words.{in_window}
use Rattle.can_bits.proofs.window.Window.of.Goals as goal
use Rattle.can_bits.proofs.window.Window.of.Goals.{in-Intel, in-Motorola}

pub returns : goal.returns
returns c = elim c.match-field.branch [
  | in-Intel w ↦
      let field : Field = c.args.field in
      let first : c.passed-first.result ≡ field.start + 0 = rw w.in-Intel.is at c.passed-first.ensures in
      let at : c.match-field.shift ≡ field.start = omega (arith, w.shift-is, first) in
      let end : field.start + field.length ≤ 64 = omega (arith, first, c.if-end-gt64.false, c.from.ensures) in
      record {
        within = omega (arith, at, end, c.if-length-eq0.false);
        same = λ bytes small enough. in_window bytes small enough field c.match-field.shift c.ones_of.result c.ones_of.ensures
            (inl (ap is_intel w.in-Intel.is, at, end));
      }
  | in-Motorola w ↦
      let field : Field = c.args.field in
      let first : c.passed-first.result ≡ mirrored field.start + 0 = rw w.in-Motorola.is at c.passed-first.ensures in
      let end : mirrored field.start + field.length ≤ 64 = omega (arith, first, c.if-end-gt64.false, c.from.ensures) in
      let at : c.match-field.shift ≡ 64 - (mirrored field.start + field.length) =
      omega (arith, w.shift-is, first, c.from.ensures) in
      record {
        within = omega (arith, at, end, c.if-length-eq0.false);
        same = λ bytes small enough. in_window bytes small enough field c.match-field.shift c.ones_of.result c.ones_of.ensures
            (inr (ap is_intel w.in-Motorola.is, at, end));
      }
]
