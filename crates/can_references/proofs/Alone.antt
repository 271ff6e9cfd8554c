-- What is found of entries whose keys no earlier entry has.
use Rattle.std.proofs.Common.{◌≡◌, Bool, false, ◌||◌, eqb, List, [], ◌∷◌, ◌++◌, map, refl, sym, ap, ◌∙◌, append_assoc, arith}
use Rattle.std.proofs.Common.{append-nil}
use Rattle.std.proofs.lemmas.Grind.{common_steps}
use Rattle.std.proofs.lemmas.List.Folds.{list_any-append}
use Rattle.std.specs.List.{list_any, flat_map, AllByRecursion, IsDistinct}
use Rattle.dbc_records.specs.Databases.{Database}
use Rattle.dbc_records.specs.EntryKeys.{same_key}
use Rattle.can_diagnostics.specs.declared.diagnostic.Diagnostic.{Diagnostic}
use Rattle.dbc_records.specs.declared.entry_key.EntryKey.{EntryKey}
use Rattle.can_references.specs.Hashes.{entry_hash}
use Rattle.can_references.proofs.HashedKeys.{same_rows}
use Rattle.can_references.specs.Finding.{each_after, occurs_in}
use Rattle.can_references.specs.RowFaults.{faults_of_row, row_fault}
use Rattle.can_references.proofs.Rows.{each_after-append}

-- none of the keys is in the prefix
abbrev pub AreApart : List EntryKey → List EntryKey → Type 0
AreApart front keys = AllByRecursion (λ key. occurs_in same_key key front ≡ false) keys

-- keys that are in no prefix need no lookup there
after_apart : (d : Database) (front before keys : List EntryKey) → AreApart front keys
    → each_after (row_fault d) (front ++ before) keys ≡ each_after (row_fault d) before keys
unfolding row_fault
after_apart d front before [] apart = refl
after_apart d front before (key ∷ keys) apart =
    ap (λ (b : Bool). faults_of_row d b key ++ each_after (row_fault d) ((front ++ before) ++ key ∷ []) keys)
    (list_any-append (same_key key) front before ∙ ap (λ (b : Bool). b || list_any (same_key key) before) apart.0)
    ∙ ap (λ (r : List Diagnostic). faults_of_row d (list_any (same_key key) before) key ++ r)
    (ap (λ (l : List EntryKey). each_after (row_fault d) l keys) (append_assoc front before (key ∷ []))
    ∙ after_apart d front (before ++ key ∷ []) keys apart.1)

-- so each part is judged by itself
pub parts_apart : (d : Database) (xs ys : List EntryKey) → AreApart xs ys → each_after (row_fault d) [] (xs ++ ys)
    ≡ each_after (row_fault d) [] xs ++ each_after (row_fault d) [] ys
parts_apart d xs ys apart =
    each_after-append (row_fault d) [] xs ys
    ∙ ap (λ (r : List Diagnostic). each_after (row_fault d) [] xs ++ r)
    (ap (λ (l : List EntryKey). each_after (row_fault d) l ys) (sym (append-nil xs)) ∙ after_apart d xs [] ys apart)

-- ---- keys whose hashes differ

not_same : (x y : EntryKey) → eqb (entry_hash x) (entry_hash y) ≡ false → same_key y x ≡ false
not_same x y differ = grind (arith, common_steps, same_rows y x)

others : (x : EntryKey) (ys : List EntryKey) → AllByRecursion (λ n. eqb (entry_hash x) n ≡ false) (map entry_hash ys)
    → AllByRecursion (λ y. same_key y x ≡ false) ys
others x [] differ = tt
others x (y ∷ ys) differ = (not_same x y differ.0, others x ys differ.1)

apart_more : (before : List EntryKey) (x : EntryKey) (keys : List EntryKey) → AreApart before keys
    → AllByRecursion (λ y. same_key y x ≡ false) keys → AreApart (before ++ x ∷ []) keys
apart_more before x [] apart other = tt
apart_more before x (y ∷ ys) apart other = (
  list_any-append (same_key y) before (x ∷ []) ∙ ap (λ (b : Bool). b || (same_key y x || false)) apart.0
      ∙ ap (λ (b : Bool). b || false) other.0,
  apart_more before x ys apart.1 other.1,
)

alone : (d : Database) (before keys : List EntryKey) → AreApart before keys → IsDistinct eqb (map entry_hash keys)
    → each_after (row_fault d) before keys ≡ flat_map (faults_of_row d false) keys
unfolding row_fault IsDistinct
alone d before [] apart differ = refl
alone d before (key ∷ keys) apart differ =
    ap (λ (b : Bool). faults_of_row d b key ++ each_after (row_fault d) (before ++ key ∷ []) keys) apart.0
    ∙ ap (λ (r : List Diagnostic). faults_of_row d false key ++ r)
    (alone d (before ++ key ∷ []) keys (apart_more before key keys apart.1 (others key keys differ.0)) differ.1)

apart_none : (keys : List EntryKey) → AreApart [] keys
apart_none [] = tt
apart_none (key ∷ keys) = (refl, apart_none keys)

pub each_alone : (d : Database) (keys : List EntryKey) → IsDistinct eqb (map entry_hash keys)
    → flat_map (faults_of_row d false) keys ≡ each_after (row_fault d) [] keys
each_alone d keys differ = sym (alone d [] keys (apart_none keys) differ)
