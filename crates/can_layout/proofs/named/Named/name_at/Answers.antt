use Rattle.std.proofs.Common.{List, ◌∙◌, ap}
use Rattle.std.specs.Int.{w128}
use Rattle.std.proofs.lemmas.Int.{to_z-of_z}
use Rattle.dbc_records.specs.Records.{Entry}
use Rattle.can_layout.specs.Decoders.{name_of}
use Rattle.can_layout.proofs.Names.{found_name}
use Rattle.can_layout.proofs.named.Named.name_at.Goals as goal

pub returns : goal.returns
returns c =
    let found = c.in_ok-name.ensures.lookup in
    found_name c.self.inside.entries c.as_slice.result.now c.args.raw c.try_from.result c.in-Ok.index c.in_ok-name.name.now
    (rw c.as_slice.ensures.value c.self.invariant.0) (rw (to_z-of_z w128 c.args.raw c.ranges.raw) at c.try_from.ensures)
    c.in-Ok.is found.0 found.1
    ∙ ap (λ (entries : List Entry). name_of c.args.raw entries) c.self.view_is
