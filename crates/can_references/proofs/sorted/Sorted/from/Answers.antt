use Rattle.std.proofs.Common.{◌≡◌, ◌-◌, length, take, drop, take_all, length-drop, ltb, ap, sym, subst, ◌∙◌, arith, rules}
use Rattle.std.specs.Prelude.{count_by}
use Rattle.std.specs.List.Sorted.{IsNonDecreasingBy}
use Rattle.std.proofs.lemmas.List.Sorted.{searchable_from_sorted, IsPartitionPoint-from_clause, IsPartitionedBy-ltb}
use Rattle.can_references.specs.inner.KeySets.{rank, RisesFrom}
use Rattle.can_references.proofs.Ranks.{is_lt_rank, same_rank, all_from, rises_from}
use Rattle.can_references.proofs.sorted.Sorted.from.Goals as goal

pub returns : goal.returns
returns g c =
    let number = rank g.K.Ord.cmp c.args.key in
    let same = g.K.PartialEq.eq c.args.key in
    let keys = c.as_slice-keys.result.now in
    let first = c.partition_point-first.result in
    let up = subst (IsNonDecreasingBy number) (sym c.as_slice-keys.ensures.value)
    (searchable_from_sorted g.met.K.Ord.total (λ x. x) c.self.inside.keys.items c.args.key c.self.invariant) in
    let point = IsPartitionPoint-from_clause (λ y. ltb (number y) 1) keys first c.partition_point-first.ensures.partitioned
    (IsPartitionedBy-ltb number keys 1 up) (λ a r q k. search (rules, is_lt_rank)) in
    let long = length-drop first keys in
    let rest : take (length keys - first) (drop first keys) ≡ drop first keys
    = take_all (length keys - first) (drop first keys) (omega arith) in
    record {
      rises = subst (RisesFrom number 1) (sym rest) (rises_from number 1 first keys up point.1);
      all = ap (count_by same) rest
          ∙ all_from same number (same_rank g.met.K.Ord.total g.met.K.Ord.matches_eq c.args.key) first keys
          c.partition_point-first.ensures.bound point.0
          ∙ ap (count_by same) (c.as_slice-keys.ensures.value ∙ c.self.view_is);
    }
