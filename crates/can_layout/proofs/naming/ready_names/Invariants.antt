use Rattle.std.proofs.Common.{◌≡◌, map}
use Rattle.std.specs.Prelude.{pos}
use Rattle.std.specs.List.{range_with_len}
use Rattle.can_layout.specs.Decoders.{name_of}
use Rattle.can_layout.proofs.naming.ready_names.Given as goal

-- the names so far
abbrev pub invariant-loop-raw : goal.invariant-loop-raw
invariant-loop-raw l = l.names.items ≡ map (λ raw. name_of (pos raw) l.entries) (range_with_len 0 l.raw)
