use Rattle.std.proofs.Common.{◌≡◌, length, None, Some, rules}
use Rattle.can_entries.proofs.IndexedRows.{first_is, none_in_nothing}
use Rattle.can_entries.proofs.index.Index.first.Goals as goal

pub returns-then-is_empty : goal.returns-then-is_empty
returns-then-is_empty g c =
    let empty : length c.self.inside.entries.items ≡ 0 = search rules in
    none_in_nothing g.R.Keyed.number_of g.R.Keyed.signal_of c.args.number c.args.signal.now c.self.inside.entries.items
    c.self.inside.rows.now c.args.self.now c.self.invariant c.self.view_is empty

pub returns-in-Some : goal.returns-in-Some
returns-in-Some g c =
    first_is g.R.Keyed.number_of g.R.Keyed.signal_of c.args.number c.args.signal.now c.self.inside.entries.items
    c.self.inside.rows.now c.args.self.now c.self.invariant c.self.view_is (Some c.in-Some.entry.now) c.deref.result.now
    c.key_hash.result c.deref.ensures.value c.key_hash.ensures c.in-Some.ensures

pub returns-in-None : goal.returns-in-None
returns-in-None g c =
    first_is g.R.Keyed.number_of g.R.Keyed.signal_of c.args.number c.args.signal.now c.self.inside.entries.items
    c.self.inside.rows.now c.args.self.now c.self.invariant c.self.view_is None c.deref.result.now c.key_hash.result
    c.deref.ensures.value c.key_hash.ensures c.in-None.ensures
