use Rattle.std.specs.Prelude.{ℤ, unsigned_abs}
use Rattle.std.proofs.Common.{◌≡◌, ℕ, ◌<◌, ◌≤◌, ◌^◌, length, subst, ◌&&◌, List, Bool, true, false, inl, inr, sym, ap, ◌∙◌, arith}
use Rattle.dbc_records.specs.Records.{is_signed}
use Rattle.can_bits.specs.declared.field.Field.{Field}
use Rattle.can_bits.specs.Bits.{bits_of, unsigned_raw, is_negative, raw_value}
use Rattle.can_bits.proofs.SignedValues.{no_bits, below_half, from_half, positive_value, negative_value, value_in_range}
use Rattle.can_bits.proofs.steps.Steps.raw_value.Goals as goal
use Rattle.can_bits.proofs.steps.Steps.raw_value.Goals.{then-not-signed-via-then-not-signed}
use Rattle.can_bits.proofs.steps.Steps.raw_value.Goals.{then-not-signed-via-else-not-signed+then-length-eq0}

pub returns-then-not-signed-clause-value : goal.returns-then-not-signed-clause-value
returns-then-not-signed-clause-value c =
    let bytes : List ℕ = c.args.bytes.now in
    let field : Field = c.self.inside.field in
    let seen : bits_of field ≡ c.args.self.now = c.self.view_is in
    let raw : c.raw-raw.result ≡ unsigned_raw bytes (bits_of field) = c.raw-raw.ensures ∙ ap (unsigned_raw bytes) (sym seen) in
    let negative : Bool → Bool = λ signed. signed && is_negative bytes (bits_of field) in
    let sign : negative (is_signed c.args.value_type) ≡ false = elim c.then-not-signed.either [
      | inl unsigned ↦ ap negative (sym c.is_signed-signed.ensures ∙ unsigned)
      | inr empty ↦ ap negative (sym c.is_signed-signed.ensures ∙ empty.0) ∙ no_bits bytes field empty.1
    ] in
    positive_value bytes (is_signed c.args.value_type) (bits_of field) c.raw-raw.result c.from.result c.raw-raw.type_inv raw
    c.from.ensures sign
    ∙ ap (raw_value bytes (is_signed c.args.value_type)) seen

pub returns-then-raw-half-clause-value : goal.returns-then-raw-half-clause-value
returns-then-raw-half-clause-value c =
    let bytes : List ℕ = c.args.bytes.now in
    let field : Field = c.self.inside.field in
    let seen : bits_of field ≡ c.args.self.now = c.self.view_is in
    let raw : c.raw-raw.result ≡ unsigned_raw bytes (bits_of field) = c.raw-raw.ensures ∙ ap (unsigned_raw bytes) (sym seen) in
    let some : 0 < field.length = omega (arith, c.if-length-eq0.false) in
    let sign : is_negative bytes (bits_of field) ≡ true = from_half bytes field c.raw-raw.result some c.self.invariant.0.length raw
    c.if-raw-half.true in
    negative_value bytes field (is_signed c.args.value_type) c.raw-raw.result c.from-then-raw-half.result
    c.from-then-raw-half-2.result some
    c.self.invariant.0.length c.raw-raw.type_inv raw c.from-then-raw-half.ensures c.from-then-raw-half-2.ensures
    (sym c.is_signed-signed.ensures ∙ c.if-not-signed.false) sign
    ∙ ap (raw_value bytes (is_signed c.args.value_type)) seen

pub returns-else-raw-half-clause-value : goal.returns-else-raw-half-clause-value
returns-else-raw-half-clause-value c =
    let bytes : List ℕ = c.args.bytes.now in
    let field : Field = c.self.inside.field in
    let seen : bits_of field ≡ c.args.self.now = c.self.view_is in
    let raw : c.raw-raw.result ≡ unsigned_raw bytes (bits_of field) = c.raw-raw.ensures ∙ ap (unsigned_raw bytes) (sym seen) in
    let some : 0 < field.length = omega (arith, c.if-length-eq0.false) in
    let negative : Bool → Bool = λ signed. signed && is_negative bytes (bits_of field) in
    let sign : negative (is_signed c.args.value_type) ≡ false =
    ap negative (sym c.is_signed-signed.ensures ∙ c.if-not-signed.false)
    ∙ below_half bytes field c.raw-raw.result some c.self.invariant.0.length raw c.if-raw-half.false in
    positive_value bytes (is_signed c.args.value_type) (bits_of field) c.raw-raw.result c.from-else-raw-half.result
    c.raw-raw.type_inv raw c.from-else-raw-half.ensures sign ∙ ap (raw_value bytes (is_signed c.args.value_type)) seen

pub returns-then-not-signed-clause-in_range : goal.returns-then-not-signed-clause-in_range
returns-then-not-signed-clause-in_range c =
    let bytes : List ℕ = c.args.bytes.now in
    subst (λ (z : ℤ). unsigned_abs z ≤ 2 ^ length c.args.self.now) (sym (returns-then-not-signed-clause-value c))
    (subst (λ bits. unsigned_abs (raw_value bytes (is_signed c.args.value_type) bits) ≤ 2 ^ length bits) c.self.view_is
    (value_in_range bytes (is_signed c.args.value_type) c.self.inside.field))

pub returns-then-raw-half-clause-in_range : goal.returns-then-raw-half-clause-in_range
returns-then-raw-half-clause-in_range c =
    let bytes : List ℕ = c.args.bytes.now in
    subst (λ (z : ℤ). unsigned_abs z ≤ 2 ^ length c.args.self.now) (sym (returns-then-raw-half-clause-value c))
    (subst (λ bits. unsigned_abs (raw_value bytes (is_signed c.args.value_type) bits) ≤ 2 ^ length bits) c.self.view_is
    (value_in_range bytes (is_signed c.args.value_type) c.self.inside.field))

pub returns-else-raw-half-clause-in_range : goal.returns-else-raw-half-clause-in_range
returns-else-raw-half-clause-in_range c =
    let bytes : List ℕ = c.args.bytes.now in
    subst (λ (z : ℤ). unsigned_abs z ≤ 2 ^ length c.args.self.now) (sym (returns-else-raw-half-clause-value c))
    (subst (λ bits. unsigned_abs (raw_value bytes (is_signed c.args.value_type) bits) ≤ 2 ^ length bits) c.self.view_is
    (value_in_range bytes (is_signed c.args.value_type) c.self.inside.field))
