use Rattle.std.proofs.Common.{◌≡◌, ◌<◌, true, List, ℕ, Some, length, ap, subst, ◌∙◌}
use Rattle.std.specs.Prelude.{IfSome, IsTrue}
use Rattle.std.specs.List.{find}
use Rattle.std.proofs.lemmas.Bool.{lt-ltb}
use Rattle.dbc_records.specs.Records.{Signal, Entry, ValueRow}
use Rattle.dbc_records.specs.Databases.{Database}
use Rattle.can_entries.specs.Rows.{rows_of, first_values}
use Rattle.can_references.specs.Values.{has_many}
use Rattle.can_references.specs.inner.ManyRows.{is_of}
use Rattle.can_references.proofs.KeptRows.{many_of_signal}
use Rattle.can_references.proofs.cross_references.CrossReferences.many_values.Goals as goal
use denote.Ref.{Bor}

pub returns : goal.returns
returns g c =
    let whole = g.L.Lookup.whole c.self.inside.lookup.now in
    let row = c.in_ok-row.row.now in
    let many : has_many row ≡ true = lt-ltb 64 (length row.entries) (subst (λ (entries : List Entry). 64 < length entries)
    (c.as_slice.ensures ∙ ap (λ (r : ValueRow). r.entries) c.row.view_is) c.if-as_slice-le-LINEAR_SEARCH_LIMIT.false) in
    let by_name = subst (λ (name : List ℕ). IfSome c.kept.result (λ (values : Bor ValueRow). (other : ValueRow)
    → find (is_of c.args.number name) c.self.inside.many ≡ Some other → IsTrue (has_many other) → values.now ≡ other))
    c.as_bytes.ensures.value c.kept.ensures in
    let kept = subst (λ (rows : List ValueRow). IfSome c.kept.result (λ (values : Bor ValueRow). (other : ValueRow)
    → find (is_of c.args.number c.signal.inside.name) rows ≡ Some other → IsTrue (has_many other) → values.now ≡ other))
    c.self.invariant.all_values by_name in
    let found = many_of_signal whole c.args.number c.signal.inside.name row c.kept.result c.in_ok-row.ensures many kept in
    let of_database = subst (λ (database : Database). IfSome c.kept.result (λ (values : Bor ValueRow).
    first_values c.signal.inside.name (rows_of c.args.number database) ≡ Some values.now)) c.self.view_is found in
    subst (λ (signal : Signal). IfSome c.kept.result (λ (values : Bor ValueRow).
    first_values signal.name (rows_of c.args.number c.args.self.now) ≡ Some values.now)) c.signal.view_is of_database
