use Rattle.std.proofs.Common.{◌≡◌, List, length, sym, ap, ◌∙◌, rules}
use Rattle.can_bits.specs.Bits.{Bit, bits_of, field_of}
use Rattle.can_layout.proofs.Decoders.{all_bits}
use Rattle.can_layout.proofs.decoder.Decoder.of.Goals as goal

pub invariant_of-result : goal.invariant_of-result
invariant_of-result c =
    let bits : length c.of-bits.result ≡ c.args.signal.now.length = ap (λ (bits : List Bit). length bits) (c.of-bits.ensures
    ∙ ap bits_of c.of.ensures) ∙ all_bits (field_of c.args.signal.now) in
    let same : c.args.scale.length ≡ length c.of-bits.result = c.requires ∙ sym bits in
    search (same, rules)
