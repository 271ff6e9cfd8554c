-- What is kept of entries of many value descriptions.
use Rattle.std.proofs.Common.{◌≡◌, ◌==◌, ◌&&◌, ℕ, Bool, true, false, List, [], ◌∷◌, ◌++◌, Option, Some, None, filter, bytes_eq}
use Rattle.std.proofs.Common.{refl, sym, ap, ◌∙◌, inl, inr, cond, append-nil, ◌<◌, ◌+◌, length, get_or, take}
use Rattle.std.specs.List.{find}
use Rattle.std.specs.Option.{unwrap_or, option_or, option_copied, is_some}
use Rattle.std.specs.Ordering.{is_eq}
use Rattle.std.proofs.lemmas.List.Elements.{filter_more}
use Rattle.std.proofs.lemmas.List.Folds.{find-append}
use Rattle.std.proofs.lemmas.Slice.Eq.{bytes_eq-Decides}
use Rattle.dbc_records.specs.Databases.{Database}
use Rattle.can_entries.specs.Rows.{rows_of, first_values}
use Rattle.can_entries.specs.Indexes.{key_order}
use Rattle.can_entries.proofs.FirstRows.{first_of_number}
use Rattle.can_entries.proofs.IndexedRows.{key_equal}
use Rattle.std.specs.BTreeMap.{BTreeMap}
use Rattle.std.specs.Prelude.{IfSome, IsTrue, if◌then◌else◌}
use denote.Ref.{Bor}
use Rattle.std.proofs.lemmas.Bool.{cases_Bool, and_parts, and_from, eqb-true}
use Rattle.dbc_records.specs.Records.{ValueRow}
use Rattle.can_references.specs.Values.{has_many}
use Rattle.can_references.specs.inner.ManyRows.{is_of, is_kept, kept_at, AreKept}

-- ---- what is found in lists

same_inside : {X : Type 0} (a b : X) → Some a ≡ Some b → a ≡ b
same_inside a b same = ap (λ o. unwrap_or o a) same

module _ {X : Type 0} (test : X → Bool) where
  found_passes : (items : List X) (item : X) → find test items ≡ Some item → test item ≡ true
  found_passes [] item is = absurd (let wrong : None ≡ Some item = is in cc)
  found_passes (first ∷ items) item is =
      elim (cases_Bool (test first)) [
        | inl passes ↦
            let found : Some first ≡ Some item = sym (ap (λ b. cond b (Some first) (find test items)) passes) ∙ is in
            ap test (sym (same_inside first item found)) ∙ passes
        | inr fails ↦
            found_passes items item (sym (ap (λ b. cond b (Some first) (find test items)) fails) ∙ is)
      ]

  module _ (kept : X → Bool) where
    found_kept : (items : List X) (item : X) → find test (filter kept items) ≡ Some item → kept item ≡ true
    found_kept [] item is = absurd (let wrong : None ≡ Some item = is in cc)
    found_kept (first ∷ items) item is =
        elim (cases_Bool (kept first)) [
          | inl keeps ↦
              let rest : find test (first ∷ filter kept items) ≡ Some item =
              sym (ap (λ b. find test (cond b (first ∷ filter kept items) (filter kept items))) keeps) ∙ is in
              elim (cases_Bool (test first)) [
                | inl passes ↦
                    let found : Some first ≡ Some item =
                    sym (ap (λ b. cond b (Some first) (find test (filter kept items))) passes) ∙ rest in
                    ap kept (sym (same_inside first item found)) ∙ keeps
                | inr fails ↦ found_kept items item
                    (sym (ap (λ b. cond b (Some first) (find test (filter kept items))) fails) ∙ rest)
              ]
          | inr drops ↦ found_kept items item
              (sym (ap (λ b. find test (cond b (first ∷ filter kept items) (filter kept items))) drops) ∙ is)
        ]

    -- the first that passes is the first of those kept, if it is kept
    first_kept : (items : List X) (item : X) → find test items ≡ Some item → kept item ≡ true
        → find test (filter kept items) ≡ Some item
    first_kept [] item is keeps = is
    first_kept (first ∷ items) item is keeps =
        elim (cases_Bool (test first)) [
          | inl passes ↦
              let found : Some first ≡ Some item = sym (ap (λ b. cond b (Some first) (find test items)) passes) ∙ is in
              let here : kept first ≡ true = ap kept (same_inside first item found) ∙ keeps in
              rw (here, passes) found
          | inr fails ↦
              let later : find test items ≡ Some item = sym (ap (λ b. cond b (Some first) (find test items)) fails) ∙ is in
              elim (cases_Bool (kept first)) [
                | inl here ↦ rw (here, fails) (first_kept items item later keeps)
                | inr gone ↦ rw gone (first_kept items item later keeps)
              ]
        ]

-- ---- entries of a key

number_is : (number : ℕ) (name : List ℕ) (row : ValueRow) → is_of number name row ≡ true → row.number ≡ number
number_is number name row is =
    eqb-true row.number number (and_parts (row.number == number) (bytes_eq row.signal name) is).0

-- if the first entry of a key has many, it is the one that is cached for the key
pub kept_is_first : (test : ℕ → Bool) (rows : List ValueRow) (number : ℕ) (name : List ℕ) (row kept : ValueRow)
    → find (is_of number name) (filter (is_kept test) rows) ≡ Some kept → find (is_of number name) rows ≡ Some row
    → has_many row ≡ true → kept ≡ row
kept_is_first test rows number name row kept found first many =
    let of_kept = found_passes (is_of number name) (filter (is_kept test) rows) kept found in
    let of_row = found_passes (is_of number name) rows row first in
    let numbers : kept.number ≡ row.number = number_is number name kept of_kept ∙ sym (number_is number name row of_row) in
    let passes : test row.number ≡ true = ap test (sym numbers) ∙ (and_parts (has_many kept) (test kept.number)
    (found_kept (is_of number name) (is_kept test) rows kept found)).1 in
    same_inside kept row
    (sym found ∙ first_kept (is_of number name) (is_kept test) rows row first
    (and_from (has_many row) (test row.number) many passes))

pub kept_there : (test : ℕ → Bool) (rows : List ValueRow) (by_key : BTreeMap (ℕ × Bor (List ℕ)) ValueRow) (number : ℕ)
    (name : List ℕ) (found : Option (Bor ValueRow)) → AreKept test by_key rows → option_copied found ≡ kept_at number name by_key
    → IfSome found (λ (values : Bor ValueRow). (row : ValueRow) → find (is_of number name) rows ≡ Some row
    → IsTrue (has_many row) → values.now ≡ row)
kept_there test rows by_key number name None are is = tt
kept_there test rows by_key number name (Some values) are is =
    λ row first many. kept_is_first test rows number name row values.now (sym (are number name) ∙ sym is) first many

-- what is kept of the first entry of a signal's value descriptions, if that has many
pub many_of_signal : (database : Database) (number : ℕ) (name : List ℕ) (row : ValueRow) (found : Option (Bor ValueRow))
    → Some row ≡ first_values name (rows_of number database) → has_many row ≡ true
    → IfSome found (λ (values : Bor ValueRow). (other : ValueRow) → find (is_of number name) database.values ≡ Some other
    → IsTrue (has_many other) → values.now ≡ other)
    → IfSome found (λ (values : Bor ValueRow). first_values name (rows_of number database) ≡ Some values.now)
unfolding rows_of
many_of_signal database number name row None first many are = tt
many_of_signal database number name row (Some values) first many are =
    let by_key = first_of_number (λ (row : ValueRow). row.number) (λ (row : ValueRow). row.signal) number name database.values in
    sym first ∙ ap (λ (r : ValueRow). Some r) (sym (are row (sym by_key ∙ sym first) many))

-- ---- keeping one more

not_of : (number : ℕ) (name : List ℕ) (row : ValueRow) (kept : Option ValueRow) → is_of number name row ≡ false
    → kept ≡ option_or kept (if is_of number name row then Some row else None)
not_of number name row None other = ap (λ (b : Bool). if b then Some row else None) (sym other)
not_of number name row (Some before) other = refl

kept_one : (test : ℕ → Bool) (rows : List ValueRow) (i : ℕ) (row : ValueRow) (passes : Bool) → i < length rows
    → row ≡ get_or rows i row → is_kept test row ≡ passes
    → filter (is_kept test) (take (i + 1) rows) ≡ filter (is_kept test) (take i rows) ++ cond passes (row ∷ []) []
kept_one test rows i row passes within is keeps =
    let before : List ValueRow = filter (is_kept test) (take i rows) in
    filter_more (is_kept test) rows i row within
    ∙ ap (λ (r : ValueRow). before ++ cond (is_kept test r) (r ∷ []) []) (sym is)
    ∙ ap (λ (b : Bool). before ++ cond b (row ∷ []) []) keeps

-- an entry that is cached is the last of those so far
pub kept_more : (test : ℕ → Bool) (rows : List ValueRow) (i : ℕ) (row : ValueRow) (old now : BTreeMap (ℕ × Bor (List ℕ)) ValueRow)
    → i < length rows → row ≡ get_or rows i row → AreKept test old (take i rows) → is_kept test row ≡ true
    → ((number : ℕ) (name : List ℕ) → kept_at number name now ≡ option_or (kept_at number name old)
    (if is_of number name row then Some row else None))
    → AreKept test now (take (i + 1) rows)
kept_more test rows i row old now within is are keeps more number name =
    more number name
    ∙ ap (λ k. option_or k (if is_of number name row then Some row else None)) (are number name)
    ∙ sym (find-append (is_of number name) (filter (is_kept test) (take i rows)) (row ∷ []))
    ∙ ap (find (is_of number name)) (sym (kept_one test rows i row true within is keeps))

pub kept_same : (test : ℕ → Bool) (rows : List ValueRow) (i : ℕ) (row : ValueRow) (by_key : BTreeMap (ℕ × Bor (List ℕ)) ValueRow)
    → i < length rows → row ≡ get_or rows i row → AreKept test by_key (take i rows) → is_kept test row ≡ false
    → AreKept test by_key (take (i + 1) rows)
kept_same test rows i row by_key within is are drops number name =
    are number name
    ∙ ap (find (is_of number name)) (sym (kept_one test rows i row false within is drops
    ∙ append-nil (filter (is_kept test) (take i rows))))

-- ---- an entry with its key

abbrev pub key_is : ℕ → List ℕ → ℕ × Bor (List ℕ) → Bool
key_is number name key = is_eq (key_order (key.0, key.1.now) (number, name))

nothing : (kept : Option ValueRow) → is_some kept ≡ false → kept ≡ None
nothing None is = refl
nothing (Some row) is = absurd (let wrong : true ≡ false = is in cc)

same_name : (first second : List ℕ) → bytes_eq first second ≡ true → first ≡ second
same_name first second same = (bytes_eq-Decides first second).0 same

pub kept_added : (row : ValueRow) (key : ℕ × Bor (List ℕ)) (old now : BTreeMap (ℕ × Bor (List ℕ)) ValueRow)
    → key.0 ≡ row.number → key.1.now ≡ row.signal → is_some (kept_at key.0 key.1.now old) ≡ false
    → ((other : ℕ × Bor (List ℕ)) → kept_at other.0 other.1.now now
    ≡ cond (key_is other.0 other.1.now key) (Some row) (kept_at other.0 other.1.now old))
    → (number : ℕ) (name : List ℕ) → kept_at number name now ≡ option_or (kept_at number name old)
    (if is_of number name row then Some row else None)
kept_added row key old now of_number of_name absent added number name =
    let same : key_is number name key ≡ is_of number name row =
    key_equal (key.0, key.1.now) (number, name)
    ∙ ap (λ (n : ℕ). n == number && bytes_eq key.1.now name) of_number
    ∙ ap (λ (text : List ℕ). row.number == number && bytes_eq text name) of_name in
    let there : kept_at number name now ≡ cond (is_of number name row) (Some row) (kept_at number name old) =
    added (number, record { ref_ptr = key.1.ref_ptr; now = name })
    ∙ ap (λ (b : Bool). cond b (Some row) (kept_at number name old)) same in
    elim (cases_Bool (is_of number name row)) [
      | inl is ↦
          let parts = and_parts (row.number == number) (bytes_eq row.signal name) is in
          let here : kept_at number name old ≡ None =
          nothing (kept_at number name old)
          (sym (ap (λ (text : List ℕ). is_some (kept_at number text old)) (of_name ∙ same_name row.signal name parts.1))
          ∙ sym (ap (λ (n : ℕ). is_some (kept_at n key.1.now old)) (of_number ∙ eqb-true row.number number parts.0))
          ∙ absent) in
          there ∙ ap (λ (b : Bool). cond b (Some row) (kept_at number name old)) is
          ∙ sym (ap (λ (k : Option ValueRow). option_or k (if is_of number name row then Some row else None)) here
          ∙ ap (λ (b : Bool). if b then Some row else None) is)
      | inr other ↦
          there ∙ ap (λ (b : Bool). cond b (Some row) (kept_at number name old)) other
          ∙ not_of number name row (kept_at number name old) other
    ]
