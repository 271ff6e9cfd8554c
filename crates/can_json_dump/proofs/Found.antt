-- What is about a message or a signal is among what is about the message of its CAN identifier or a signal of that.
use Rattle.std.proofs.Common.{◌≡◌, ◌==◌, ◌&&◌, ℕ, Bool, true, false, cond, List, [], ◌∷◌, Option, Some, None, filter, refl, ap}
use Rattle.std.proofs.Common.{sym, ◌∙◌}
use Rattle.std.proofs.Common.{true≢false, arith, zero, suc, ◌+◌, ◌++◌, take, slice_get, if◌then◌else◌}
use Rattle.std.proofs.lemmas.Bool.{and_parts}
use Rattle.std.specs.Str.{bytes_eq}
use Rattle.std.specs.List.{find}
use Rattle.dbc_records.specs.declared.target.Target.{Target}
use Rattle.dbc_records.specs.declared.target.Target.TheVariants as targets
use Rattle.can_json_dump.specs.Subjects.{Subject, is_for, is_for_named, is_at}

for_at : (number : ℕ) (signal : Option (List ℕ)) (target : Target) → is_for_named number signal target ≡ true
    → is_at number target ≡ true
for_at number None targets.Whole is = is
for_at number None (targets.Node node) is = is
for_at number None (targets.Message other) is = is
for_at number None (targets.Signal other signal) is = absurd (true≢false (sym is))
for_at number (Some name) targets.Whole is = is
for_at number (Some name) (targets.Node node) is = is
for_at number (Some name) (targets.Message other) is = absurd (true≢false (sym is))
for_at number (Some name) (targets.Signal other signal) is = (and_parts (other == number) (bytes_eq signal name) is).0

module _ {A : Type 0} (p q : A → Bool) (within : (x : A) → p x ≡ true → q x ≡ true) where
  pub find-filter : (xs : List A) → find p (filter q xs) ≡ find p xs
  find-filter [] = refl
  find-filter (x ∷ xs) = by (p x) (q x) refl refl (find-filter xs)
    where
      by : (a b : Bool) → p x ≡ a → q x ≡ b → find p (filter q xs) ≡ find p xs
          → find p (cond b (x ∷ filter q xs) (filter q xs)) ≡ cond a (Some x) (find p xs)
      by true true here there rest = ap (λ b. cond b (Some x) (find p (filter q xs))) here
      by true false here there rest = absurd (true≢false (sym (within x here) ∙ there))
      by false true here there rest = ap (λ b. cond b (Some x) (find p (filter q xs))) here ∙ rest
      by false false here there rest = rest

  pub filter-filter : (xs : List A) → filter p (filter q xs) ≡ filter p xs
  filter-filter [] = refl
  filter-filter (x ∷ xs) = by (p x) (q x) refl refl (filter-filter xs)
    where
      by : (a b : Bool) → p x ≡ a → q x ≡ b → filter p (filter q xs) ≡ filter p xs
          → filter p (cond b (x ∷ filter q xs) (filter q xs)) ≡ cond a (x ∷ filter p xs) (filter p xs)
      by true true here there rest =
          ap (λ b. cond b (x ∷ filter p (filter q xs)) (filter p (filter q xs))) here ∙ ap (λ xs. x ∷ xs) rest
      by true false here there rest = absurd (true≢false (sym (within x here) ∙ there))
      by false true here there rest = ap (λ b. cond b (x ∷ filter p (filter q xs)) (filter p (filter q xs))) here ∙ rest
      by false false here there rest = rest

module _ {A : Type 0} (target_of : A → Target) (subject : Subject) (rows : List A) where
  among : (x : A) → is_for subject (target_of x) ≡ true → is_at subject.number (target_of x) ≡ true
  among x is = for_at subject.number subject.signal (target_of x) is

  pub found_at : (kept : List A) → kept ≡ filter (λ row. is_at subject.number (target_of row)) rows
      → find (λ row. is_for subject (target_of row)) kept ≡ find (λ row. is_for subject (target_of row)) rows
  found_at kept are =
      ap (find (λ row. is_for subject (target_of row))) are
      ∙ find-filter (λ row. is_for subject (target_of row)) (λ row. is_at subject.number (target_of row)) among rows

  pub all_at : (kept : List A) → kept ≡ filter (λ row. is_at subject.number (target_of row)) rows
      → filter (λ row. is_for subject (target_of row)) kept ≡ filter (λ row. is_for subject (target_of row)) rows
  all_at kept are =
      ap (filter (λ row. is_for subject (target_of row))) are
      ∙ filter-filter (λ row. is_for subject (target_of row)) (λ row. is_at subject.number (target_of row)) among rows

-- ---- in order

module _ {A : Type 0} (p : A → Bool) where
  pub found_here : (rows : List A) (index : ℕ) (x : A) → Some x ≡ slice_get rows index → find p (take index rows) ≡ None
      → p x ≡ true → Some x ≡ find p rows
  found_here [] index x here none is = here
  found_here (y ∷ rows) zero x here none is =
      let same : x ≡ y = cc in
      sym (ap (λ b. cond b (Some y) (find p rows)) (ap p (sym same) ∙ is) ∙ ap Some (sym same))
  found_here (y ∷ rows) (suc index) x here none is = by (p y) none (λ none. found_here rows index x here none is)
    where
      by : (b : Bool) → cond b (Some y) (find p (take index rows)) ≡ None → (find p (take index rows) ≡ None → Some x ≡ find p rows)
          → Some x ≡ cond b (Some y) (find p rows)
      by true none rest = absurd (let other : Some y ≡ None = none in cc)
      by false none rest = rest none

  none_after : (rows : List A) (index : ℕ) (x : A) → Some x ≡ slice_get rows index → find p (take index rows) ≡ None
      → p x ≡ false → find p (take (suc index) rows) ≡ None
  none_after [] index x here none is = refl
  none_after (y ∷ rows) zero x here none is =
      let same : x ≡ y = cc in
      ap (λ b. cond b (Some y) None) (ap p (sym same) ∙ is)
  none_after (y ∷ rows) (suc index) x here none is = by (p y) none (λ none. none_after rows index x here none is)
    where
      by : (b : Bool) → cond b (Some y) (find p (take index rows)) ≡ None
          → (find p (take index rows) ≡ None → find p (take (suc index) rows) ≡ None)
          → cond b (Some y) (find p (take (suc index) rows)) ≡ None
      by true none rest = none
      by false none rest = rest none

  pub none_here : (rows : List A) (index : ℕ) (x : A) → Some x ≡ slice_get rows index → find p (take index rows) ≡ None
      → p x ≡ false → find p (take (index + 1) rows) ≡ None
  none_here rows index x here none is =
      ap (λ count. find p (take count rows)) (let one : index + 1 ≡ suc index = omega arith in one)
      ∙ none_after rows index x here none is
