use Rattle.std.proofs.Common.{◌≡◌, ◌+◌, [], ◌∷◌, ◌++◌, map, ap, sym, ◌∙◌, arith}
use Rattle.std.specs.List.{range_with_len}
use Rattle.std.proofs.lemmas.List.FromFn.{map-range_with_len_more}
use Rattle.can_json_dump.specs.Messages.{position_upward}
use Rattle.can_json_dump.proofs.signal.positions_of.Goals as goal

pub loop-k-preserved : goal.loop-k-preserved
loop-k-preserved c =
    let f = position_upward c.args.field in
    let k = c.loop-k.k in
    c.in_ok-push.ensures.items ∙ ap (λ front. front ++ c.position_upward.result ∷ []) c.loop-k.invariant
    ∙ ap (λ one. map f (range_with_len 0 k) ++ one ∷ []) c.position_upward.ensures
    ∙ sym (map-range_with_len_more f 0 k k (omega arith))
