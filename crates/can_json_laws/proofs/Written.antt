-- Values that are written and read back: their numbers are numbers, and they are nested only a few levels deep.
use Rattle.std.proofs.Common.{ℕ, zero, suc, ◌≤◌, ◌<◌, ◌^◌, Bool, List, [], ◌∷◌, ◌++◌, Option, Some, None, map, filter, All}
use Rattle.std.proofs.Common.{cond, true, false}
use Rattle.std.proofs.Common.{length, refl, arith}
use Rattle.std.specs.List.{AllByRecursion}
use Rattle.std.specs.Option.{IfSome}
use Rattle.std.proofs.Math.Nat.{max-le}
use Rattle.json.specs.Json.{Json, null, boolean, number, string}
use Rattle.json.specs.Print.{IsNumber}
use Rattle.json.specs.Tree.{depth, items_depth, members_depth, HasNumbers, ItemsHaveNumbers, MembersHaveNumbers}
use Rattle.can_json_texts.specs.Texts.{text_of, hex_pairs}
use Rattle.can_json_texts.specs.Members.{Member, members_of, object_of, hex_members, text_members}
use Rattle.can_json_texts.specs.Values.{items_of, array_of, or_null}
use Rattle.can_json_texts.specs.Records.{whole_json}
use Rattle.can_json_texts.proofs.Numbers.{whole_is_number}

abbrev pub Reads : ℕ → Json → Type 0
Reads levels value = HasNumbers value × (depth value ≤ levels)

abbrev pub MembersRead : ℕ → List Member → Type 0
MembersRead levels members = AllByRecursion (λ (one : Member). Reads levels one.1) members

abbrev pub ValuesRead : ℕ → List Json → Type 0
ValuesRead levels values = AllByRecursion (Reads levels) values

pub deeper : (levels more : ℕ) (value : Json) → levels ≤ more → Reads levels value → Reads more value
deeper levels more value below reads = (reads.0, omega (arith, below, reads.1))

-- ---- single values

pub string_reads : (levels : ℕ) (text : List ℕ) → Reads levels (string text)
string_reads levels text = (tt, omega arith)

pub null_reads : (levels : ℕ) → Reads levels null
null_reads levels = (tt, omega arith)

pub boolean_reads : (levels : ℕ) (b : Bool) → Reads levels (boolean b)
boolean_reads levels b = (tt, omega arith)

pub number_reads : (levels : ℕ) (digits : List ℕ) → IsNumber digits → Reads levels (number digits)
number_reads levels digits is = (is, omega arith)

pub whole_reads : (levels n : ℕ) → n < 10 ^ 64 → Reads levels (whole_json n)
whole_reads levels n small = number_reads levels _ (whole_is_number n small)

pub or_null_reads : {A : Type 0} (json_of : A → Json) (levels : ℕ) (one : Option A) → IfSome one (λ a. Reads levels (json_of a))
    → Reads levels (or_null json_of one)
or_null_reads json_of levels None reads = null_reads levels
or_null_reads json_of levels (Some a) reads = reads

-- ---- objects and arrays

pub both_read : (levels : ℕ) (first second : List Member) → MembersRead levels first → MembersRead levels second
    → MembersRead levels (first ++ second)
both_read levels [] second one other = other
both_read levels (a ∷ first) second one other = (one.0, both_read levels first second one.1 other)

members_inside : (levels : ℕ) (members : List Member) → MembersRead levels members
    → MembersHaveNumbers (members_of members) × (members_depth (members_of members) ≤ levels)
members_inside levels [] reads = (tt, omega arith)
members_inside levels (one ∷ members) reads =
    let rest = members_inside levels members reads.1 in ((reads.0.0, rest.0), max-le reads.0.1 rest.1)

pub object_reads : (levels : ℕ) (members : List Member) → MembersRead levels members → Reads (suc levels) (object_of members)
object_reads levels members reads = let all = members_inside levels members reads in (all.0, omega (arith, all.1))

values_inside : (levels : ℕ) (values : List Json) → ValuesRead levels values
    → ItemsHaveNumbers (items_of values) × (items_depth (items_of values) ≤ levels)
values_inside levels [] reads = (tt, omega arith)
values_inside levels (one ∷ values) reads =
    let rest = values_inside levels values reads.1 in ((reads.0.0, rest.0), max-le reads.0.1 rest.1)

pub array_reads : (levels : ℕ) (values : List Json) → ValuesRead levels values → Reads (suc levels) (array_of values)
array_reads levels values reads = let all = values_inside levels values reads in (all.0, omega (arith, all.1))

module _ {A : Type 0} where
  pub first_of : (P : A → Type 0) (x : A) (xs : List A) → All P (x ∷ xs) → P x
  first_of P x xs all = all 0 x (omega arith)

  pub rest_of : (P : A → Type 0) (x : A) (xs : List A) → All P (x ∷ xs) → All P xs
  rest_of P x xs all k d below = all (suc k) d (omega arith)

  -- what is made of each item
  pub mapped_read : (P : A → Type 0) (json_of : A → Json) (levels : ℕ) → ((x : A) → P x → Reads levels (json_of x)) → (xs : List A)
      → All P xs → ValuesRead levels (map json_of xs)
  mapped_read P json_of levels reads [] all = tt
  mapped_read P json_of levels reads (x ∷ xs) all =
      (reads x (first_of P x xs all), mapped_read P json_of levels reads xs (rest_of P x xs all))

  pub list_reads : (P : A → Type 0) (json_of : A → Json) (levels : ℕ) → ((x : A) → P x → Reads levels (json_of x)) → (xs : List A)
      → All P xs → Reads (suc levels) (array_of (map json_of xs))
  list_reads P json_of levels reads xs all =
      array_reads levels (map json_of xs) (mapped_read P json_of levels reads xs all)

  -- and of those that pass a test
  pub passed_read : (P : A → Type 0) (json_of : A → Json) (levels : ℕ) (p : A → Bool) → ((x : A) → P x → Reads levels (json_of x))
      → (xs : List A) → All P xs → ValuesRead levels (map json_of (filter p xs))
  passed_read P json_of levels p reads [] all = tt
  passed_read P json_of levels p reads (x ∷ xs) all =
      by (p x) (reads x (first_of P x xs all)) (passed_read P json_of levels p reads xs (rest_of P x xs all))
    where
      by : (b : Bool) → Reads levels (json_of x) → ValuesRead levels (map json_of (filter p xs))
          → ValuesRead levels (map json_of (cond b (x ∷ filter p xs) (filter p xs)))
      by true one rest = (one, rest)
      by false one rest = rest

  pub passed_list_reads : (P : A → Type 0) (json_of : A → Json) (levels : ℕ) (p : A → Bool)
      → ((x : A) → P x → Reads levels (json_of x)) → (xs : List A) → All P xs
      → Reads (suc levels) (array_of (map json_of (filter p xs)))
  passed_list_reads P json_of levels p reads xs all =
      array_reads levels (map json_of (filter p xs)) (passed_read P json_of levels p reads xs all)

-- ---- texts

pairs_read : (levels : ℕ) (key : List ℕ) (pairs : Option (List ℕ)) → MembersRead levels (hex_members key pairs)
pairs_read levels key None = tt
pairs_read levels key (Some pairs) = (string_reads levels pairs, tt)

pub texts_read : (levels : ℕ) (key bytes : List ℕ) → MembersRead levels (text_members key bytes)
texts_read levels key bytes = (string_reads levels (text_of bytes), pairs_read levels key (hex_pairs bytes))
