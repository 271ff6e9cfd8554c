use Rattle.std.proofs.Common.{ℕ, bit_and, refl}
use Rattle.std.proofs.lemmas.Simd.{zip2_of_maps, splat_is_map}
use lib.Lanes.{top}
use Rattle.can_frames.proofs.Lanes.{loaded_whole, mapped, chosen, added, less, is_below, inverted}
use Rattle.can_frames.proofs.DigitLanes.{values_read}
use Rattle.can_frames.proofs.pairs.values_of.Goals as goal

pub returns : goal.returns
returns c =
    let text = c.args.digits.now in
    let all = λ (n : ℕ). splat_is_map text 16 n c.requires in
    let loaded = loaded_whole text 16 c.requires in
    let moved = zip2_of_maps added _ _ text loaded (all 198) in
    let above = chosen _ _ _ text (mapped (top 7) _ text (zip2_of_maps is_below _ _ text moved (all 6))) (all 6) moved in
    let decimal = zip2_of_maps less _ _ text (zip2_of_maps less _ _ text above (all 6)) (all 240) in
    let index = zip2_of_maps less _ _ text (zip2_of_maps bit_and _ _ text loaded (all 223)) (all 65) in
    let left = mapped inverted _ text index in
    let step = chosen _ _ _ text (mapped (top 7) _ text (zip2_of_maps is_below _ _ text (all 10) left)) (all 10) left in
    let letter = zip2_of_maps added _ _ text index step in
    let value = chosen _ _ _ text (mapped (top 7) _ text (zip2_of_maps is_below _ _ text decimal letter)) decimal letter in
    values_read _ text value c.type_inv.digits refl
