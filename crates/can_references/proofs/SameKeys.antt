-- What comparing borrowed keys answers.
use Rattle.std.proofs.Common.{◌≡◌, arith}
use Rattle.std.proofs.lemmas.Grind.{common_steps}
use Rattle.dbc_records.specs.EntryKeys.{same_target, same_key}
use Rattle.dbc_records.specs.EntryKeys.{target_of, entry_key}
use Rattle.dbc_records.specs.declared.entry_key.TargetRef.{TargetRef}
use Rattle.dbc_records.specs.declared.entry_key.TargetRef.TheVariants as target_refs
use Rattle.dbc_records.specs.declared.entry_key.EntryKeyRef.{EntryKeyRef}
use Rattle.dbc_records.specs.declared.entry_key.EntryKeyRef.TheVariants as keys
use Rattle.dbc_records.specs.contracts.entry_key.TargetRefPartialEq.TheImpl as target_eq
use Rattle.dbc_records.specs.contracts.entry_key.EntryKeyRefPartialEq.TheImpl as key_eq

pub same_target_refs : (a b : TargetRef) → (target_eq.ghosts).eq a b ≡ same_target (target_of a) (target_of b)
same_target_refs target_refs.Whole b = grind (arith, common_steps)
same_target_refs (target_refs.Node name) b = grind (arith, common_steps)
same_target_refs (target_refs.Message number) b = grind (arith, common_steps)
same_target_refs (target_refs.Signal number name) b = grind (arith, common_steps)

pub same_keys : (a b : EntryKeyRef) → (key_eq.ghosts).eq a b ≡ same_key (entry_key a) (entry_key b)
same_keys (keys.Table a) b = grind (arith, common_steps)
same_keys (keys.Comment a) b = grind (arith, common_steps, same_target_refs)
same_keys (keys.Definition o a) b = grind (arith, common_steps)
same_keys (keys.Default a) b = grind (arith, common_steps)
same_keys (keys.Attribute a s) b = grind (arith, common_steps, same_target_refs)
same_keys (keys.Values m a) b = grind (arith, common_steps)
same_keys (keys.Float m a) b = grind (arith, common_steps)
same_keys (keys.Mux m a) b = grind (arith, common_steps)
