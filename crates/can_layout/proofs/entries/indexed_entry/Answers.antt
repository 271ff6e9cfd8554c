use Rattle.std.proofs.Common.{◌≡◌, ℕ, Option, Some, None, subst, ◌∙◌, sym}
use Rattle.std.specs.BTreeMap.{get}
use Rattle.std.specs.Ordering.{int_cmp}
use Rattle.std.specs.Int.{w128}
use Rattle.std.proofs.lemmas.Int.{to_z-of_z}
use Rattle.can_layout.specs.Decoders.{IsIndexOf}
use Rattle.can_layout.proofs.EntryIndexes.{entry_there}
use Rattle.can_layout.proofs.entries.indexed_entry.Goals as goal

pub returns-in-Some : goal.returns-in-Some
returns-in-Some c =
    let Here : Option ℕ → Type 0 = λ found. IsIndexOf c.args.entries.now c.args.entries.now c.args.raw found in
    let found : Some c.in-Some.index ≡ get int_cmp c.args.indexes.now c.args.raw = rw (to_z-of_z w128 c.args.raw c.ranges.raw) at
    c.in-Some.ensures in
    c.entry_at.ensures ∙ entry_there c.args.entries.now c.args.raw c.in-Some.index (subst Here (sym found) (c.requires c.args.raw))

pub returns-in-None : goal.returns-in-None
returns-in-None c =
    let Here : Option ℕ → Type 0 = λ found. IsIndexOf c.args.entries.now c.args.entries.now c.args.raw found in
    let found : None ≡ get int_cmp c.args.indexes.now c.args.raw = rw (to_z-of_z w128 c.args.raw c.ranges.raw) at
    c.in-None.ensures in
    sym (subst Here (sym found) (c.requires c.args.raw))
