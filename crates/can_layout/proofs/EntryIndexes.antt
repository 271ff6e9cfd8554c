-- One more entry in the indexes of entries by their raw values, and the entry at an index.
use Rattle.std.proofs.Common.{◌≡◌, ℕ, ◌+◌, ◌<◌, Bool, true, false, List, [], ◌∷◌, Option, Some, None, length, get_or, take, cond}
use Rattle.std.proofs.Common.{refl, ap, sym, subst, ◌∙◌}
use Rattle.std.specs.Prelude.{ℤ}
use Rattle.std.specs.List.{slice_get}
use Rattle.std.specs.Option.{option_or}
use Rattle.std.specs.Ordering.{int_eq}
use Rattle.std.proofs.lemmas.List.{take_more}
use Rattle.std.proofs.lemmas.List.Folds.{find-append}
use Rattle.std.proofs.lemmas.Option.{slice_get-get_or}
use Rattle.dbc_records.specs.Records.{Entry}
use Rattle.can_layout.specs.Decoders.{first_entry, IsIndexOf}

module _ (entries : List Entry) (i : ℕ) (d : Entry) (raw : ℤ) (within : i < length entries) where
  more : first_entry raw (take (i + 1) entries) ≡ option_or (first_entry raw (take i entries))
      (cond (int_eq (get_or entries i d).number raw) (Some (get_or entries i d)) None)
  more =
      ap (first_entry raw) (take_more entries i d within)
      ∙ find-append (λ entry. int_eq entry.number raw) (take i entries) (get_or entries i d ∷ [])

  placed : (old : Option ℕ) (is : Bool) → int_eq (get_or entries i d).number raw ≡ is → IsIndexOf entries (take i entries) raw old
      → IsIndexOf entries (take (i + 1) entries) raw (option_or old (cond is (Some i) None))
  placed None true is before = (
    get_or entries i d,
    slice_get-get_or entries i d within,
    more
        ∙ ap (λ o. option_or o (cond (int_eq (get_or entries i d).number raw) (Some (get_or entries i d)) None)) before
        ∙ ap (λ b. cond b (Some (get_or entries i d)) None) is,
  )
  placed None false is before =
      more ∙ ap (λ o. option_or o (cond (int_eq (get_or entries i d).number raw) (Some (get_or entries i d)) None)) before
      ∙ ap (λ b. cond b (Some (get_or entries i d)) None) is
  placed (Some index) is same before = (
    before.0,
    before.1,
    more
        ∙ ap (λ o. option_or o (cond (int_eq (get_or entries i d).number raw) (Some (get_or entries i d)) None)) before.2,
  )

  pub one_placed : (old new : Option ℕ) → new ≡ option_or old (cond (int_eq (get_or entries i d).number raw) (Some i) None)
      → IsIndexOf entries (take i entries) raw old
      → IsIndexOf entries (take (i + 1) entries) raw new
  one_placed old new is before =
      let Here : Option ℕ → Type 0 = λ found. IsIndexOf entries (take (i + 1) entries) raw found in
      subst Here (sym is) (placed old (int_eq (get_or entries i d).number raw) refl before)

pub entry_there : (entries : List Entry) (raw : ℤ) (index : ℕ) → IsIndexOf entries entries raw (Some index) → slice_get entries
    index
    ≡ first_entry raw entries
entry_there entries raw index there = there.1 ∙ sym there.2
