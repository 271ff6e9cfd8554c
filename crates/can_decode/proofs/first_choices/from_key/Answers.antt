use Rattle.std.proofs.Common.{◌≡◌, ◌-◌, length, take, drop, take_all, length-drop, ltb, ap, sym, subst, ◌∙◌, arith, rules}
use Rattle.std.proofs.lemmas.List.Sorted.{IsPartitionPoint-from_clause, IsPartitionedBy-ltb}
use Rattle.can_decode.specs.inner.FirstChoices.{key_of, first_choice, RisesFrom}
use Rattle.can_decode.proofs.FirstChoices.{rises_from, from_first}
use Rattle.can_decode.proofs.first_choices.from_key.Goals as goal

pub returns : goal.returns
returns c =
    let key = c.args.key in
    let entries = c.args.entries.now in
    let first = c.partition_point-first.result in
    let point = IsPartitionPoint-from_clause (λ entry. ltb (key_of entry) key) entries first
    c.partition_point-first.ensures.partitioned (IsPartitionedBy-ltb key_of entries key c.requires) (λ a r q k. search rules) in
    let long = length-drop first entries in
    let rest : take (length entries - first) (drop first entries) ≡ drop first entries
    = take_all (length entries - first) (drop first entries) (omega arith) in
    record {
      rises = subst (RisesFrom key) (sym rest) (rises_from key first entries c.requires point.1);
      first = ap (first_choice key) rest ∙ from_first key first entries c.partition_point-first.ensures.bound point.0;
    }
