use Rattle.std.proofs.Common.{◌≡◌, map, take}
use Rattle.can_layout.specs.Diagrams.{picture_of}
use Rattle.can_layout.specs.Meters.{with_picture, repeated}
use Rattle.can_layout.proofs.diagram.pictures_of.Given as goal

-- the diagrams of the messages so far, each counted
abbrev pub invariant-loop-message : goal.invariant-loop-message
invariant-loop-message g l = record {
  pictures : map (λ picture. picture.items) l.pictures.items ≡ map (picture_of (g.L.Lookup.whole l.lookup))
      (take l.message-index l.messages);
  counted : l.meter ≡ repeated l.message-index with_picture l.initial.meter;
}
