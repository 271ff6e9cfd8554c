use Rattle.std.proofs.Common.{List, ℕ, map, ap, ◌∙◌}
use Rattle.std.specs.Option.{option_map}
use Rattle.can_findings.specs.declared.row_starts.RowStart.{RowStart}
use Rattle.can_findings.specs.RowStarts.{key_start, start_of_key}
use Rattle.can_findings.proofs.KeyStarts.{start_of_rows}
use Rattle.can_findings.proofs.row_starts.start_in.Goals as goal

pub returns-in-Some : goal.returns-in-Some
returns-in-Some c =
    ap (option_map (λ (row : RowStart). row.start)) c.in-Some.ensures
    ∙ start_of_rows c.args.number c.as_bytes.result.now c.args.index.now
    ∙ ap (λ (name : List ℕ). start_of_key c.args.number name (map key_start c.args.index.now)) c.as_bytes.ensures.value

pub returns-in-None : goal.returns-in-None
returns-in-None c =
    ap (option_map (λ (row : RowStart). row.start)) c.in-None.ensures
    ∙ start_of_rows c.args.number c.as_bytes.result.now c.args.index.now
    ∙ ap (λ (name : List ℕ). start_of_key c.args.number name (map key_start c.args.index.now)) c.as_bytes.ensures.value
