use Rattle.std.proofs.Common.{◌≡◌, ◌==◌, not, ap, subst, ◌∙◌, Bool, ◌&&◌}
use Rattle.std.specs.Prelude.{IfOk}
use Rattle.std.specs.List.{list_any}
use Rattle.dbc_records.specs.EntryKeys.{same_key}
use Rattle.dbc_records.specs.EntryKeys.{entry_key}
use Rattle.can_references.proofs.HashedKeys.{any_alike, rows_alike}
use Rattle.can_references.proofs.SameKeys.{same_keys}
use Rattle.can_references.proofs.entry_keys.EntryKeys.add.Goals as goal

pub returns-clause-is_new : goal.returns-clause-is_new
returns-clause-is_new c =
    subst (λ there. IfOk c.add.result (λ is_new. is_new ≡ not there))
    (any_alike _ _ (same_key (entry_key c.args.key)) (λ hashed. entry_key hashed.key)
    (λ x is. ap (λ (e : Bool). (c.entry_hash.result == x.hash) && e) (same_keys c.args.key x.key)
    ∙ rows_alike c.entry_hash.result (entry_key c.args.key) (entry_key x.key) x.hash c.entry_hash.ensures is) c.self.inside.keys
    c.self.invariant
    ∙ ap (list_any (same_key (entry_key c.args.key))) c.self.view_is)
    c.add.ensures.is_new
