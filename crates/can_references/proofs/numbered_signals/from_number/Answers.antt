use Rattle.std.proofs.Common.{◌≡◌, ◌-◌, length, take, drop, take_all, length-drop, ltb, ap, sym, subst, ◌∙◌, arith, rules}
use Rattle.std.specs.List.{All, list_any}
use Rattle.std.proofs.lemmas.List.Sorted.{IsPartitionPoint-from_clause, IsPartitionedBy-ltb}
use Rattle.std.proofs.lemmas.List.Elements.{All-drop}
use Rattle.can_references.specs.inner.KeySets.{RisesFrom}
use Rattle.can_references.specs.inner.SignalRuns.{message_number, is_signal, HasHash}
use Rattle.can_references.proofs.Ranks.{rises_from}
use Rattle.can_references.proofs.Runs.{all_from}
use Rattle.can_references.proofs.numbered_signals.from_number.Goals as goal

pub returns : goal.returns
returns c =
    let number = c.args.number in
    let signals = c.args.signals.now in
    let first = c.partition_point-first.result in
    let point = IsPartitionPoint-from_clause (λ signal. ltb (message_number signal) number) signals first
    c.partition_point-first.ensures.partitioned (IsPartitionedBy-ltb message_number signals number c.requires)
    (λ a r q k. search rules) in
    let long = length-drop first signals in
    let rest : take (length signals - first) (drop first signals) ≡ drop first signals
    = take_all (length signals - first) (drop first signals) (omega arith) in
    record {
      rises = subst (RisesFrom message_number number) (sym rest)
          (rises_from message_number number first signals c.requires point.1);
      all = λ name. ap (list_any (is_signal number name)) rest
          ∙ all_from number name signals first c.partition_point-first.ensures.bound point.0;
      hashes = λ is_hashed hashes. subst (All (HasHash is_hashed)) (sym rest) (All-drop (HasHash is_hashed) first signals hashes);
    }
