-- The first entry of a key, among the entries of an index.
use Rattle.std.proofs.Common.{◌≡◌, ◌≢◌, ◌==◌, ◌&&◌, ◌+◌, ◌*◌, nat_lt, cond, Bool, true, false, ℕ, List, [], ◌∷◌, length}
use Rattle.std.proofs.Common.{get_or, refl, ap, sym, ◌∙◌, arith, None, Option, map, bytes_eq, filter}
use Rattle.std.specs.List.{find, All, AllWithin}
use Rattle.std.specs.List.Sorted.{IsPartitionedBy, IsSortedBy, IsSortedByClosure, IsStableByClosure, IsStableBy, IsPermutation}
use Rattle.std.specs.Option.{option_map}
use Rattle.std.specs.declared.cmp.Ordering.{Ordering}
use Rattle.std.specs.declared.cmp.Ordering.TheVariants.{Less, Equal, Greater}
use Rattle.std.specs.Ordering.{nat_cmp, is_lt, is_eq, ordering_then}
use Rattle.std.specs.Cmp.{IsTotalOrder, IsStrictWeakOrder, unsigned_ties}
use Rattle.std.specs.Fn.{Called}
use Rattle.std.proofs.lemmas.Fn.{always_returns_same}
use denote.Ref.{Bor}
use denote.Param.Members.{Mut}
use Rattle.std.specs.Cmp.Lexicographic.{slice_cmp, texts_ties, same_text}
use Rattle.std.proofs.lemmas.Cmp.{nat_cmp_total, nat_list_cmp_total, on_total, then_total}
use Rattle.std.proofs.lemmas.List.Sorted.{All-permutation}
use Rattle.can_entries.specs.declared.index.Entry.{Entry}
use Rattle.can_entries.specs.Rows.{has_key, first_row, first_named}
use Rattle.can_entries.specs.inner.Hashes.{name_hash, key_hash}
use Rattle.can_entries.specs.Indexes.{key_of, key_order, has_own_hash, AreInOrder, IsIndex}
use Rattle.can_entries.proofs.FirstRows.{first_of_number}
use Rattle.can_entries.proofs.SortedRows.{parted, find-stable, find-same, find-map, tied, find_none}

pub key_order-total : IsTotalOrder key_order
key_order-total = then_total (on_total (λ key. key.0) nat_cmp_total) (on_total (λ key. key.1) nat_list_cmp_total)

-- ---- what a sort by a closure ensures

module _ {X : Type 0} where
  -- each call of a closure answers by a test
  abbrev AnswersBy : (X → X → Bool) → {F : Type 0} → Mut F (Bor X × (Bor X × Unit {0})) Ordering → F → Type 0
  AnswersBy lt {F} g f = (a : Bor X × (Bor X × Unit {0})) (r : Ordering) (f' : F) → Called g f a r f'
      → (is_lt r ≡ lt a.0.now a.1.0.now) × (f' ≡ f)

  module _ (lt : X → X → Bool) (weak : IsStrictWeakOrder lt) {F : Type 0} {g : Mut F (Bor X × (Bor X × Unit {0})) Ordering}
      {f : F} where
    pub sorted_by : (xs : List X) → IsSortedByClosure g f xs → AnswersBy lt g f → IsSortedBy lt xs
    sorted_by xs sorted answers = sorted lt weak (always_returns_same g (λ a r. is_lt r ≡ lt a.0.now a.1.0.now) f answers)

    pub stable_by : (xs ys : List X) → IsStableByClosure g f xs ys → AnswersBy lt g f → IsStableBy lt xs ys
    stable_by xs ys stable answers = stable lt weak (always_returns_same g (λ a r. is_lt r ≡ lt a.0.now a.1.0.now) f answers)

-- ---- keys that are equal

then_equal : (r s : Ordering) → is_eq (ordering_then r s) ≡ (is_eq r && is_eq s)
then_equal Less s = refl
then_equal Equal s = refl
then_equal Greater s = refl

nat_equal : (a b : ℕ) → is_eq (nat_cmp a b) ≡ (a == b)
nat_equal a b = sym (unsigned_ties a b)

nat_same : (a : ℕ) → (a == a) ≡ true
nat_same a = grind arith

pub key_equal : (a b : ℕ × List ℕ) → is_eq (key_order a b) ≡ (a.0 == b.0 && bytes_eq a.1 b.1)
key_equal a b =
    then_equal (nat_cmp a.0 b.0) (slice_cmp nat_cmp a.1 b.1)
    ∙ ap (λ equal. equal && is_eq (slice_cmp nat_cmp a.1 b.1)) (nat_equal a.0 b.0)
    ∙ ap (λ equal. a.0 == b.0 && equal) (sym (texts_ties a.1 b.1))

pub key_found : (a b : ℕ × List ℕ) → a.0 ≡ b.0 → is_eq (key_order a b) ≡ bytes_eq a.1 b.1
key_found a b same =
    key_equal a b ∙ ap (λ hash. hash == b.0 && bytes_eq a.1 b.1) same
    ∙ ap (λ equal. equal && bytes_eq a.1 b.1) (nat_same b.0)

-- ---- numbers alone

nat_above : (a b : ℕ) → nat_lt a b ≡ false → a ≢ b → nat_cmp a b ≡ Greater
nat_above a b least other = grind (arith, least, other)

hash_below : (key : ℕ × List ℕ) (hash : ℕ) (name : List ℕ) → nat_lt key.0 hash ≡ true → is_lt (key_order key (hash, name)) ≡ true
hash_below key hash name less =
    ap (λ b. is_lt (ordering_then (cond b Less (cond (key.0 == hash) Equal Greater)) (slice_cmp nat_cmp key.1 name))) less

pub hash_above : (key : ℕ × List ℕ) (hash : ℕ) (name : List ℕ) → nat_lt key.0 hash ≡ false → key.0 ≢ hash
    → key_order key (hash, name) ≡ Greater
hash_above key hash name least other =
    ap (λ order. ordering_then order (slice_cmp nat_cmp key.1 name)) (nat_above key.0 hash least other)

-- no name comes before the empty one
nothing_before : (name : List ℕ) → is_lt (slice_cmp nat_cmp name []) ≡ false
nothing_before [] = refl
nothing_before (byte ∷ name) = refl

below_hash : (key : ℕ × List ℕ) (hash : ℕ) → is_lt (key_order key (hash, [])) ≡ nat_lt key.0 hash
below_hash key hash = grind (arith, nothing_before key.1)

-- no number that is lower comes after one that is not
pub parted_by_hash : {R : Type 0} (signal_of : R → List ℕ) (hash : ℕ) (entries : List (Entry R)) → AreInOrder signal_of entries
    → IsPartitionedBy (λ entry. nat_lt entry.hash hash) entries
parted_by_hash signal_of hash entries ordered i j d le below less =
    sym (below_hash (key_of signal_of (get_or entries i d)) hash)
    ∙ parted key_order-total (key_of signal_of) (hash, []) entries ordered i j d le below
    (below_hash (key_of signal_of (get_or entries j d)) hash ∙ less)

-- entries with lower numbers come before the key
pub ahead_by_hash : {R : Type 0} (signal_of : R → List ℕ) (hash : ℕ) (name : List ℕ) (entries : List (Entry R)) (i : ℕ)
    → AllWithin (λ entry. nat_lt entry.hash hash ≡ true) entries 0 i
    → AllWithin (λ entry. is_lt (key_order (key_of signal_of entry) (hash, name)) ≡ true) entries 0 i
ahead_by_hash signal_of hash name entries i lower k d least below =
    hash_below (key_of signal_of (get_or entries k d)) hash name (lower k d least below)

same_hash : (a b hash : ℕ) → (a * 4294967296 + hash == b * 4294967296 + hash) ≡ (a == b)
same_hash a b hash = grind arith

module _ {R : Type 0} (number_of : R → ℕ) (signal_of : R → List ℕ) (number : ℕ) (name : List ℕ) where
  -- an entry has the key
  abbrev pub at_key : Entry R → Bool
  at_key entry = is_eq (key_order (key_of signal_of entry) (key_hash number name, name))

  hashed_key : (of hash : ℕ) (signal : List ℕ) → hash ≡ key_hash of signal
      → (hash == key_hash number name && bytes_eq signal name) ≡ (of == number && bytes_eq signal name)
  hashed_key of hash signal own = by (bytes_eq signal name) refl
    where
      by : (b : Bool) → b ≡ bytes_eq signal name → (hash == key_hash number name && b) ≡ (of == number && b)
      by true e =
          ap (λ m. m == key_hash number name && true) own
          ∙ ap (λ text. key_hash of text == key_hash number name && true) (same_text signal name e)
          ∙ ap (λ b. b && true) (same_hash of number (name_hash name))
      by false e = grind arith

  own_key : (entry : Entry R) → has_own_hash number_of signal_of entry
      → has_key number_of signal_of number name entry.row.now ≡ at_key entry
  own_key entry own =
      sym (hashed_key (number_of entry.row.now) entry.hash (signal_of entry.row.now) own)
      ∙ sym (key_equal (key_of signal_of entry) (key_hash number name, name))

  found : (entries : List (Entry R)) → All (has_own_hash number_of signal_of) entries
      → first_row number_of signal_of number name (map (λ entry. entry.row.now) entries)
      ≡ option_map (λ entry. entry.row.now) (find at_key entries)
  found entries own =
      find-map (has_key number_of signal_of number name) (λ entry. entry.row.now) entries
      ∙ ap (option_map (λ entry. entry.row.now)) (find-same
      (λ entry. has_key number_of signal_of number name entry.row.now) at_key entries
      (λ k d below. own_key (get_or entries k d) (own k d below)))

  -- a stable sort leaves the first entry of a key
  pub first-stable : (entries sorted : List (Entry R)) → All (has_own_hash number_of signal_of) entries
      → IsPermutation entries sorted
      → IsStableBy (λ a b. is_lt (key_order (key_of signal_of a) (key_of signal_of b))) entries sorted
      → first_row number_of signal_of number name (map (λ entry. entry.row.now) sorted)
      ≡ first_row number_of signal_of number name (map (λ entry. entry.row.now) entries)
  first-stable entries sorted own moved stable =
      found sorted (All-permutation (has_own_hash number_of signal_of) entries sorted moved own)
      ∙ ap (option_map (λ entry. entry.row.now)) (find-stable at_key
      (λ a b. is_lt (key_order (key_of signal_of a) (key_of signal_of b)))
      (tied key_order-total (key_of signal_of) (key_hash number name, name)) entries sorted stable)
      ∙ sym (found entries own)

  module _ (entries : List (Entry R)) (rows all : List R) (index : IsIndex number_of signal_of entries rows)
      (are : rows ≡ all) where
    -- what is found in an index is the first entry of the key
    pub first_is : (answer : Option (Entry R)) (searched : List (Entry R)) (hash : ℕ) → searched ≡ entries
        → hash ≡ key_hash number name → answer ≡ find (λ entry. is_eq (key_order (key_of signal_of entry) (hash, name))) searched
        → option_map (λ entry. entry.row.now) answer ≡ first_named signal_of name (filter (λ row. number_of row == number) all)
    first_is answer searched hash same own is =
        ap (option_map (λ entry. entry.row.now))
        (is ∙ ap (λ es. find (λ entry. is_eq (key_order (key_of signal_of entry) (hash, name))) es) same
        ∙ ap (λ m. find (λ entry. is_eq (key_order (key_of signal_of entry) (m, name))) entries) own)
        ∙ sym (found entries index.own_hashes) ∙ index.first_rows number name
        ∙ sym (first_of_number number_of signal_of number name rows)
        ∙ ap (λ rows. first_named signal_of name (filter (λ row. number_of row == number) rows)) are

    pub none_in_nothing : length entries ≡ 0 → None ≡ first_named signal_of name (filter (λ row. number_of row == number) all)
    none_in_nothing empty =
        first_is None entries (key_hash number name) refl refl
        (sym (find_none at_key entries (λ k d below. absurd (omega (arith, empty)))))
