use Rattle.std.proofs.Common.{◌≡◌}
use Rattle.std.specs.Prelude.{All}
use Rattle.dbc_edits.proofs.Changing.{first_changed}
use Rattle.dbc_edits.proofs.renamed_rows.rename_all.Given as goal

-- the items so far are changed
abbrev pub invariant-loop-index : goal.invariant-loop-index
invariant-loop-index g l = record {
  items : l.items ≡ first_changed (g.R.Rename.renamed l.change) l.index l.initial.items;
  valid : All g.T.Checked.IsValid l.items;
}
