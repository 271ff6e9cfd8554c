use Rattle.std.proofs.Common.{◌≡◌, ℕ, ◌^◌, ◌<◌, List, Option, map, length, sym, ap, ◌∙◌, arith}
use Rattle.std.specs.Prelude.{pos}
use Rattle.std.specs.List.{range_with_len}
use Rattle.std.proofs.lemmas.List.FromFn.{length-map-range_with_len}
use Rattle.can_layout.specs.Decoders.{name_of}
use Rattle.can_layout.proofs.Names.{more_names}
use Rattle.can_layout.proofs.naming.ready_names.Goals as goal

pub loop-raw-preserved : goal.loop-raw-preserved
loop-raw-preserved c =
    let small : c.loop-raw.raw < 2 ^ 8 = omega (arith, c.loop-raw-test.true, c.min-count.type_inv, c.min-count.ensures) in
    more_names c.args.entries.now c.loop-raw.names.items _ c.loop-raw.raw c.from.result _ small c.in_ok-push.ensures.items
    c.in_ok-ready_name.ensures c.from.ensures c.loop-raw.invariant

pub returns : goal.returns
returns c =
    let name : ℕ → Option (List ℕ) = λ raw. name_of (pos raw) c.args.entries.now in
    let count : length c.loop-raw.names.items ≡ c.loop-raw.raw = ap (λ (names : List (Option (List ℕ))). length names)
    c.loop-raw.invariant ∙ length-map-range_with_len name 0 c.loop-raw.raw in
    c.loop-raw.invariant ∙ ap (λ (n : ℕ). map name (range_with_len 0 n)) (sym count)
