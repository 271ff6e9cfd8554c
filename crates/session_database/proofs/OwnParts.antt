-- The own diagnostics of messages, cut out of all diagnostics of a database.
use Rattle.std.proofs.Common.{◌≡◌, List, [], ◌∷◌, ◌++◌, map, refl, append_assoc}
use Rattle.std.specs.List.{flat_map}
use Rattle.std.proofs.Math.Seq.{take-append_seam, drop-append_seam}
use Rattle.dbc_records.specs.Records.{Message}
use Rattle.dbc_records.specs.Databases.{Database}
use Rattle.can_diagnostics.specs.declared.diagnostic.Diagnostic.{Diagnostic}
use Rattle.can_references.specs.HeadFaults.{head_faults}
use Rattle.can_check.specs.MessageFaults.{own_faults, head_then_own}
use Rattle.session_database.specs.Diagnosed.{counts_of, own_parts}

pub own_there : (database : Database) (messages : List Message) (rows : List Diagnostic)
    → own_parts (map (counts_of database) messages) (flat_map (head_then_own database) messages ++ rows)
    ≡ map (own_faults database) messages
own_there database [] rows = refl
own_there database (m ∷ messages) rows =
    let head = head_faults database m in
    let own = own_faults database m in
    let others = flat_map (head_then_own database) messages in
    let in_order : ((head ++ own) ++ others) ++ rows ≡ head ++ (own ++ (others ++ rows)) = simp append_assoc in
    rw (
      in_order,
      drop-append_seam head (own ++ (others ++ rows)),
      take-append_seam own (others ++ rows),
      drop-append_seam own (others ++ rows),
      own_there database messages rows,
    ) refl
