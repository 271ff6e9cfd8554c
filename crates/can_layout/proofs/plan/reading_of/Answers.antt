use Rattle.std.proofs.Common.{◌≡◌, ap, ◌∙◌}
use Rattle.dbc_values.specs.Scales.{Scale, scale_of}
use Rattle.can_layout.proofs.Decoders.{length_of}
use Rattle.can_layout.proofs.plan.reading_of.Goals as goal

pub of-requires : goal.of-requires
of-requires g c =
    let signal = c.layout.inside.signal.now in
    let is : c.in-Ok.scale ≡ scale_of signal.factor signal.offset signal.length = rw c.in-Ok.is at c.layout.invariant in
    ap (λ (scale : Scale). scale.length) is ∙ length_of signal.factor signal.offset signal.length
