use Rattle.std.proofs.Common.{append-nil, ◌≡◌, ℕ, ◌+◌, ◌-◌, ◌<◌, List, ◌++◌, length, get_or, drop, length-drop, false, arith, ap}
use Rattle.std.proofs.Common.{sym, ◌∙◌}
use Rattle.std.proofs.lemmas.List.{get_or_default, get_or-drop}
use Rattle.dbc_records.specs.declared.byte_order.ByteOrder.TheVariants as orders
use Rattle.can_bits.specs.declared.field.Field.{Field}
use Rattle.can_entries.specs.declared.walk.Walk.{Walk}
use Rattle.can_entries.specs.declared.walk.Walk.TheVariants.{Chain, Loop}
use Rattle.can_overlap.specs.declared.pair.Pair.{Pair}
use Rattle.can_overlap.specs.inner.IndexSet.{has}
use Rattle.can_overlap.specs.Overlaps.{laid_from, share, together}
use Rattle.can_overlap.specs.inner.Occupancy.{laid_at}
use Rattle.can_overlap.proofs.Gone.{chain_there, never_there}
use Rattle.can_overlap.proofs.Sharing.{chained, unchained, pairs_here, share_from_marks}
use Rattle.can_overlap.proofs.pairing.push_pairs.Goals as goal

pub returns-in_ok-push_chained-in-Some : goal.returns-in_ok-push_chained-in-Some
returns-in_ok-push_chained-in-Some c =
    let field : Field = record { start = 0; length = 0; order = orders.Motorola } in
    let walk : Walk = Loop in
    let fields : List Field = c.args.fields.now in
    let walks : List Walk = c.args.paths.now.walks in
    let first : ℕ = c.args.first in
    let inside : first < length walks = omega (arith, c.requires.index, c.requires.lengths) in
    let is : get_or walks first walk ≡ Chain c.in-Some.links.now = chain_there walks first walk c.in-Some.links.now inside
    c.in-Some.ensures in
    let left : length (drop (first + 1) fields) ≡ length fields - (first + 1) = length-drop (first + 1) fields in
    let lengths : length (drop (first + 1) walks) ≡ length (drop (first + 1) fields) = length-drop (first + 1) walks
    ∙ ap (λ (n : ℕ). n - (first + 1)) c.requires.lengths ∙ sym left in
    let shares : (k : ℕ) (d : Field) → k < length (drop (first + 1) fields) → has c.shared_by-shared.result.words (first + 1 + k)
    ≡ share (get_or fields first field) (get_or (drop (first + 1) fields) k d) =
    (λ k d h.
    let there : first + 1 + k < length fields = omega (arith, left, h) in
    c.shared_by-shared.ensures (first + 1 + k)
    ∙ share_from_marks fields c.args.rows.now _ (first + 1 + k) d c.requires.marked there
    ∙ ap (λ f. share f (get_or fields (first + 1 + k) d)) (get_or_default fields first _ field c.requires.index)
    ∙ ap (share (get_or fields first field)) (sym (get_or-drop (first + 1) fields k d))) in
    c.in_ok-push_chained-in-Some.ensures
    ∙ ap (λ (pairs : List Pair). c.args.found.now.items ++ pairs) (chained (laid_at fields walks first field walk)
    c.in-Some.links.now is c.shared_by-shared.result.words (first + 1) (drop (first + 1) fields) (drop (first + 1) walks) lengths
    shares ∙ sym (pairs_here fields walks first field walk c.requires.index inside))

pub returns-in-None : goal.returns-in-None
returns-in-None c =
    let field : Field = record { start = 0; length = 0; order = orders.Motorola } in
    let walk : Walk = Loop in
    let fields : List Field = c.args.fields.now in
    let walks : List Walk = c.args.paths.now.walks in
    let first : ℕ = c.args.first in
    let inside : first < length walks = omega (arith, c.requires.index, c.requires.lengths) in
    let never : (other : Walk) → together (get_or walks first walk) other ≡ false = λ other. never_there walks first walk other
    inside c.in-None.ensures in
    sym (ap (λ (pairs : List Pair). c.args.found.now.items ++ pairs)
    (pairs_here fields walks first field walk c.requires.index inside ∙ unchained (laid_at fields walks first field walk) never
    (laid_from (first + 1) (drop (first + 1) fields) (drop (first + 1) walks)))
    ∙ append-nil c.args.found.now.items)
