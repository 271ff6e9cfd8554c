-- Entries of different kinds have different keys, so each kind is judged by itself.
use Rattle.std.proofs.Common.{◌≡◌, ◌<◌, ◌≤◌, ◌+◌, ℕ, Bool, true, false, ◌||◌, List, [], ◌∷◌, ◌++◌, map, refl, sym, ap, ◌∙◌, arith}
use Rattle.std.proofs.Common.{append_assoc, append-nil}
use Rattle.std.specs.Bool.{⊤}
use Rattle.std.proofs.lemmas.Grind.{common_steps}
use Rattle.std.specs.List.{list_any, flat_map, fold, AllByRecursion}
use Rattle.dbc_records.specs.Databases.{Database}
use Rattle.dbc_records.specs.EntryKeys.{same_key, key_of_table, key_of_comment, key_of_definition, key_of_default}
use Rattle.dbc_records.specs.EntryKeys.{key_of_attribute, key_of_values, key_of_float, key_of_mux}
use Rattle.dbc_records.specs.DatabaseEntries.{entry_kinds, keys_of, keys_by_kind, entry_keys}
use Rattle.dbc_records.specs.declared.database_entry.EntryKind.{EntryKind}
use Rattle.dbc_records.specs.declared.database_entry.EntryKind.TheVariants as kinds
use Rattle.dbc_records.specs.declared.entry_key.EntryKey.{EntryKey}
use Rattle.dbc_records.specs.declared.entry_key.EntryKey.TheVariants as keys
use Rattle.can_diagnostics.specs.declared.diagnostic.Diagnostic.{Diagnostic}
use Rattle.can_references.specs.Finding.{each_after}
use Rattle.can_references.specs.RowFaults.{EntryFaults, row_fault, row_faults, with_entries}
use Rattle.can_references.proofs.Alone.{AreApart, parts_apart}

-- the index of a kind in the order of the kinds
abbrev index : EntryKind → ℕ
index kinds.Table = 0
index kinds.Comment = 1
index kinds.Definition = 2
index kinds.Default = 3
index kinds.Attribute = 4
index kinds.Values = 5
index kinds.Float = 6
index kinds.Mux = 7

abbrev kind : EntryKey → ℕ
kind (keys.Table name) = 0
kind (keys.Comment target) = 1
kind (keys.Definition object name) = 2
kind (keys.Default name) = 3
kind (keys.Attribute name target) = 4
kind (keys.Values number signal) = 5
kind (keys.Float number signal) = 6
kind (keys.Mux number signal) = 7

same_kind : (a b : EntryKey) → same_key a b ≡ true → kind a ≡ kind b
same_kind (keys.Table a) b same = grind (arith, common_steps)
same_kind (keys.Comment s) b same = grind (arith, common_steps)
same_kind (keys.Definition o a) b same = grind (arith, common_steps)
same_kind (keys.Default a) b same = grind (arith, common_steps)
same_kind (keys.Attribute a s) b same = grind (arith, common_steps)
same_kind (keys.Values m a) b same = grind (arith, common_steps)
same_kind (keys.Float m a) b same = grind (arith, common_steps)
same_kind (keys.Mux m a) b same = grind (arith, common_steps)

not_same : (n : ℕ) (x y : EntryKey) → kind x < n → n ≤ kind y → same_key y x ≡ false
not_same n x y below from = grind (arith, common_steps, same_kind y x)

abbrev AreBelow : ℕ → List EntryKey → Type 0
AreBelow n keys = AllByRecursion (λ key. kind key < n) keys

abbrev AreFrom : ℕ → List EntryKey → Type 0
AreFrom n keys = AllByRecursion (λ key. n ≤ kind key) keys

occurs_not : (n : ℕ) (y : EntryKey) (front : List EntryKey) → n ≤ kind y → AreBelow n front → list_any (same_key y) front ≡ false
occurs_not n y [] from below = refl
occurs_not n y (x ∷ xs) from below = ap (λ (b : Bool). b || list_any (same_key y) xs) (not_same n x y below.0 from)
    ∙ occurs_not n y xs from below.1

apart : (n : ℕ) (front keys : List EntryKey) → AreBelow n front → AreFrom n keys → AreApart front keys
apart n front [] below from = tt
apart n front (key ∷ keys) below from = (occurs_not n key front from.0 below, apart n front keys below from.1)

-- ---- the keys of one kind

all_mapped : {X : Type 0} (P : EntryKey → Type 0) (f : X → EntryKey) → ((x : X) → P (f x)) → (xs : List X)
    → AllByRecursion P (map f xs)
all_mapped P f all [] = tt
all_mapped P f all (x ∷ xs) = (all x, all_mapped P f all xs)

all_joined : (P : EntryKey → Type 0) (xs ys : List EntryKey) → AllByRecursion P xs → AllByRecursion P ys
    → AllByRecursion P (xs ++ ys)
all_joined P [] ys all more = more
all_joined P (x ∷ xs) ys all more = (all.0, all_joined P xs ys all.1 more)

all_of : (d : Database) (k : EntryKind) (P : ℕ → Type 0) → P (index k) → AllByRecursion (λ key. P (kind key)) (keys_of d k)
all_of d kinds.Table P is = all_mapped (λ key. P (kind key)) key_of_table (λ x. is) d.tables
all_of d kinds.Comment P is = all_mapped (λ key. P (kind key)) key_of_comment (λ x. is) d.comments
all_of d kinds.Definition P is = all_mapped (λ key. P (kind key)) key_of_definition (λ x. is) d.definitions
all_of d kinds.Default P is = all_mapped (λ key. P (kind key)) key_of_default (λ x. is) d.defaults
all_of d kinds.Attribute P is = all_mapped (λ key. P (kind key)) key_of_attribute (λ x. is) d.attributes
all_of d kinds.Values P is = all_mapped (λ key. P (kind key)) key_of_values (λ x. is) d.values
all_of d kinds.Float P is = all_mapped (λ key. P (kind key)) key_of_float (λ x. is) d.floats
all_of d kinds.Mux P is = all_mapped (λ key. P (kind key)) key_of_mux (λ x. is) d.muxes

-- ---- kinds in ascending order

abbrev Rise : ℕ → List EntryKind → Type 0
Rise n [] = ⊤
Rise n (k ∷ ks) = (n ≤ index k) × Rise (index k + 1) ks

all_from : (d : Database) (n m : ℕ) (ks : List EntryKind) → n ≤ m → Rise m ks → AreFrom n (flat_map (keys_of d) ks)
all_from d n m [] low rise = tt
all_from d n m (k ∷ ks) low rise =
    all_joined (λ key. n ≤ kind key) (keys_of d k) (flat_map (keys_of d) ks)
    (all_of d k (λ i. n ≤ i) (omega (arith, low, rise.0)))
    (all_from d n (index k + 1) ks (omega (arith, low, rise.0)) rise.1)

abbrev found_of : Database → List EntryKey → List Diagnostic
found_of d keys = each_after (row_fault d) [] keys

by_kind : (d e : Database) (n : ℕ) (ks : List EntryKind) → Rise n ks
    → flat_map (λ k. found_of d (keys_of e k)) ks ≡ found_of d (flat_map (keys_of e) ks)
by_kind d e n [] rise = refl
by_kind d e n (k ∷ ks) rise =
    ap (λ (r : List Diagnostic). found_of d (keys_of e k) ++ r) (by_kind d e (index k + 1) ks rise.1)
    ∙ sym (parts_apart d (keys_of e k) (flat_map (keys_of e) ks)
    (apart (index k + 1) (keys_of e k) (flat_map (keys_of e) ks) (all_of e k (λ i. i < index k + 1) (omega arith))
    (all_from e (index k + 1) (index k + 1) ks (omega arith) rise.1)))

-- ---- all kinds

added : (e : Database) (faults : EntryFaults) (ks : List EntryKind)
    → (fold with_entries faults (map (λ k. (k, keys_of e k)) ks)).found
    ≡ faults.found ++ flat_map (λ k. found_of faults.database (keys_of e k)) ks
added e faults [] = sym (append-nil faults.found)
added e faults (k ∷ ks) =
    added e (with_entries faults (k, keys_of e k)) ks
    ∙ append_assoc faults.found (found_of faults.database (keys_of e k))
    (flat_map (λ k. found_of faults.database (keys_of e k)) ks)

pub all_added : (d e : Database) → (fold with_entries (record { database = d; found = [] }) (keys_by_kind e)).found
    ≡ each_after (row_fault d) [] (entry_keys e)
unfolding entry_keys
all_added d e =
    added e (record { database = d; found = [] }) entry_kinds
    ∙ by_kind d e 0 entry_kinds
    (omega arith, (omega arith, (omega arith, (omega arith, (omega arith, (omega arith, (omega arith, (omega arith, tt))))))))
