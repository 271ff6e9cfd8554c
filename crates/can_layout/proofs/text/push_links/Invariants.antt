use Rattle.std.proofs.Common.{◌≡◌, ◌++◌, take}
use Rattle.std.specs.List.{flat_map}
use Rattle.can_layout.specs.Diagrams.{link_text}
use Rattle.can_layout.proofs.text.push_links.Given as goal

-- the links so far are appended
abbrev pub invariant-loop-link : goal.invariant-loop-link
invariant-loop-link l = l.text.items ≡ l.initial.text.items ++ flat_map (link_text l.signals) (take l.link-index l.links)
