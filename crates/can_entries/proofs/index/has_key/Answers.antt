use Rattle.std.proofs.Common.{ap, sym, ◌∙◌, bytes_eq}
use Rattle.can_entries.specs.Indexes.{key_of}
use Rattle.can_entries.proofs.IndexedRows.{key_found}
use Rattle.can_entries.proofs.index.has_key.Goals as goal

pub returns-then-entry-hash : goal.returns-then-entry-hash
returns-then-entry-hash g c =
    c.same.ensures ∙ ap (λ text. bytes_eq text c.args.name.now) c.signal.ensures
    ∙ sym (key_found (key_of g.R.Keyed.signal_of c.args.entry.now) (c.args.hash, c.args.name.now) c.if-entry-hash.true)
