use Rattle.std.proofs.Common.{◌≡◌, List, map, ap, subst, ◌∙◌}
use Rattle.std.specs.List.{flat_map}
use Rattle.std.specs.List.Sorted.{IsPermutation}
use Rattle.dbc_records.specs.Records.{Message}
use Rattle.dbc_records.specs.Databases.{Database}
use Rattle.dbc_records.specs.Attributes.{AttrDef}
use Rattle.can_entries.specs.Groups.{group_of}
use Rattle.can_references.specs.CrossReferences.{signals_in, perhaps}
use Rattle.can_references.proofs.cross_references.CrossReferences.with.Goals as goal

-- the same items, in a list that is equal
moved : {X : Type 0} (xs ys zs : List X) → IsPermutation xs zs → xs ≡ ys → IsPermutation ys zs
moved xs ys zs same is = subst (λ l. IsPermutation l zs) is same

pub invariant_of-result : goal.invariant_of-result
invariant_of-result g c =
    let whole = g.L.Lookup.whole c.args.lookup.now in
    let same = c.database.view_is ∙ c.database-database.ensures in
    let messages : c.as_slice-messages.result.now ≡ whole.messages = c.as_slice-messages.ensures.value
    ∙ ap (λ (d : Database). d.messages) same in
    record {
      all_numbers = moved _ _ _ c.in_ok-numbers.ensures (ap (map (λ (m : Message). m.head.number)) messages);
      all_names = moved _ _ _ c.in_ok-names.ensures (ap (map (λ (m : Message). m.head.name)) messages);
      all_groups = moved _ _ _ c.in_ok-groups.ensures (ap (flat_map (λ (m : Message). perhaps (group_of m.head.number
          whole))) messages);
      all_signals = moved _ _ _ c.in_ok-signals.ensures (ap (flat_map signals_in) messages);
      all_nodes = moved _ _ _ c.in_ok-nodes.ensures (c.as_slice.ensures.value ∙ ap (λ (d : Database). d.nodes) same);
      all_values = c.in_ok-many.ensures ∙ (c.as_slice-3.ensures.value ∙ ap (λ (d : Database). d.values) same);
      all_defined = moved _ _ _ c.in_ok-defined.ensures (ap (map (λ (d : AttrDef). d.name)) (c.as_slice-2.ensures.value
          ∙ ap (λ (d : Database). d.definitions) same));
    }
