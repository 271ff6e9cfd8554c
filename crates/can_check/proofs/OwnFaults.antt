-- A message's own diagnostics: where they are in the list of all, and what they depend on.
use Rattle.std.proofs.Common.{◌≡◌, List, [], ◌∷◌, ◌++◌, refl, ap, append_assoc}
use Rattle.std.specs.List.{flat_map}
use Rattle.dbc_records.specs.Records.{Message}
use Rattle.dbc_records.specs.Databases.{Database}
use Rattle.can_entries.specs.Rows.{SignalRows, rows_of}
use Rattle.can_entries.specs.Switches.{walks_of}
use Rattle.can_entries.specs.declared.walk.Walk.{Walk}
use Rattle.can_diagnostics.specs.declared.diagnostic.Diagnostic.{Diagnostic}
use Rattle.can_references.specs.HeadFaults.{head_faults, unknown_nodes}
use Rattle.can_references.specs.RowFaults.{row_faults}
use Rattle.can_references.proofs.Pushing.{pushed_then}
use Rattle.can_check.specs.MessageFaults.{place_faults, other_faults, outside, overlaps, message_faults, faults_by}
use Rattle.can_check.specs.MessageFaults.{own_by, own_faults, head_then_own}
use Rattle.can_check.specs.AllFaults.{all_faults}

-- three lists pushed, one after another
pub pushed_thrice : (old one two new xs ys zs : List Diagnostic) → new ≡ two ++ zs → two ≡ one ++ ys → one ≡ old ++ xs
    → new ≡ old ++ (xs ++ (ys ++ zs))
pushed_thrice old one two new xs ys zs r q p =
    pushed_then old one new xs (ys ++ zs) (pushed_then one two new ys zs r q) p

-- ---- in order

by_head_then_own : (database : Database) (rows : SignalRows) (m : Message) (walks : List Walk) → faults_by database rows m walks
    ≡ head_faults database m ++ own_by database rows m walks
unfolding place_faults
by_head_then_own database rows m walks =
    append_assoc (head_faults database m) (outside m) (overlaps m walks ++ other_faults database rows m walks)

pub message_in_order : (database : Database) (m : Message) → message_faults database m ≡ head_then_own database m
unfolding message_faults own_faults
message_in_order database m =
    let rows = rows_of m.head.number database in
    by_head_then_own database rows m (walks_of rows m.signals)

flat_map-same : {X Y : Type 0} (f g : X → List Y) → ((x : X) → f x ≡ g x) → (xs : List X) → flat_map f xs ≡ flat_map g xs
flat_map-same f g same [] = refl
flat_map-same f g same (x ∷ xs) = rw (same x, flat_map-same f g same xs) refl

pub all_in_order : (database : Database) → all_faults database ≡ flat_map (head_then_own database) database.messages
    ++ row_faults database
unfolding all_faults
all_in_order database =
    ap (λ (found : List Diagnostic). found ++ row_faults database)
    (flat_map-same (message_faults database) (head_then_own database) (message_in_order database) database.messages)

-- ---- determined by the nodes and the entries of a CAN identifier alone

others-same : (one other : Database) (rows : SignalRows) (m : Message) (walks : List Walk) → one.nodes ≡ other.nodes
    → other_faults one rows m walks ≡ other_faults other rows m walks
unfolding other_faults unknown_nodes
others-same one other rows m walks nodes = rw nodes refl

pub own-same : (one other : Database) (m : Message) → rows_of m.head.number one ≡ rows_of m.head.number other
    → one.nodes ≡ other.nodes → own_faults one m ≡ own_faults other m
unfolding own_faults
own-same one other m rows nodes =
    let there = rows_of m.head.number other in
    rw rows (rw (others-same one other there m (walks_of there m.signals) nodes) refl)
