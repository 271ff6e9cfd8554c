use Rattle.std.proofs.Common.{◌≡◌, ◌++◌, take}
use Rattle.std.specs.List.{flat_map}
use Rattle.json.specs.Tree.{json_tokens}
use Rattle.can_json_dump.specs.Messages.{link_json}
use Rattle.can_json_dump.proofs.signal.write_links.Given as goal

-- the links so far
abbrev pub invariant-loop-link : goal.invariant-loop-link
invariant-loop-link l =
    l.text ≡ l.initial.text ++ flat_map (λ link. json_tokens (link_json l.signals link)) (take l.link-index l.links)
