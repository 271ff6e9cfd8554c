use Rattle.std.proofs.Common.{◌≡◌, drop}
use Rattle.std.specs.List.{list_any}
use Rattle.std.specs.Str.{bytes_eq}
use Rattle.dbc_records.specs.Attributes.{AttrDef}
use Rattle.dbc_edits.proofs.attributes.is_defined.Given as goal

abbrev pub invariant-loop-definition : goal.invariant-loop-definition
invariant-loop-definition l =
    list_any {X = AttrDef} (λ definition. bytes_eq definition.name l.name) (drop l.definition-index l.definitions)
    ≡ list_any {X = AttrDef} (λ definition. bytes_eq definition.name l.name) l.definitions
