-- One more link of a chain in the table of its multiplexors (switches).
use Rattle.std.proofs.Common.{◌≡◌, ℕ, zero, suc, ◌+◌, ◌<◌, Bool, true, false, not, ◌||◌, ◌&&◌, List, [], ◌∷◌, Option, Some, None}
use Rattle.std.proofs.Common.{length, get_or, set, take, drop, drop-cons, arith, refl, ap, ◌∙◌, sym, ⊎_elim}
use Rattle.std.specs.List.{slice_get}
use Rattle.std.specs.Option.{option_and_then}
use Rattle.std.proofs.lemmas.Bool.{cases_eq}
use Rattle.std.proofs.lemmas.List.Folds.{list_all_more}
use Rattle.can_entries.specs.Links.{Link}
use Rattle.can_entries.specs.declared.walk.Walk.{Walk}
use Rattle.can_entries.specs.declared.walk.Walk.TheVariants.{Chain, Absent, Loop}
use Rattle.can_overlap.specs.Overlaps.{agree, agrees_with, ranges_meet}
use Rattle.can_overlap.specs.inner.MuxPaths.{IsStep, own_at, of_switch, agrees_if_there, AreEntered}
use Rattle.can_overlap.proofs.Words.{eqb-apart}

other_switch : (x link : Link) → (x.switch ≡ link.switch → ⊥) → agree x link ≡ true
other_switch x link other = ap (λ b. not b || ranges_meet x.ranges link.ranges) (eqb-apart x.switch link.switch other)

and_true : (b : Bool) → (b && true) ≡ b
and_true true = refl
and_true false = refl

abbrev chain_if : Option Walk → List Link
chain_if None = []
chain_if (Some (Chain links)) = links
chain_if (Some (Absent own)) = []
chain_if (Some Loop) = []

abbrev head_if : Link → List Link → Link
head_if d [] = d
head_if d (x ∷ xs) = x

abbrev tail_if : List Link → List Link
tail_if [] = []
tail_if (x ∷ xs) = xs

set_same : (owners : List ℕ) (switch owner : ℕ) → switch < length owners → slice_get (set owners switch owner) switch ≡ Some owner
set_same [] switch owner within = absurd (omega arith)
set_same (x ∷ owners) zero owner within = refl
set_same (x ∷ owners) (suc switch) owner within = set_same owners switch owner (omega arith)

set_other : (owners : List ℕ) (switch owner other : ℕ) → (other ≡ switch → ⊥) → slice_get (set owners switch owner) other
    ≡ slice_get owners other
set_other [] switch owner other apart = refl
set_other (x ∷ owners) zero owner zero apart = absurd (apart refl)
set_other (x ∷ owners) zero owner (suc other) apart = refl
set_other (x ∷ owners) (suc switch) owner zero apart = refl
set_other (x ∷ owners) (suc switch) owner (suc other) apart = set_other owners switch owner other (λ e. apart (ap suc e))

module _ (walks : List Walk) (own : List (Option Link)) (owners : List ℕ) (links : List Link) (i : ℕ) (owner : ℕ) (link : Link)
    (within : i < length links) (step : IsStep walks owner link) (kept : own_at own owner ≡ Some link)
    (rest : slice_get walks owner ≡ Some (Chain (drop i links))) where
  parted : link ∷ step.above ≡ get_or links i link ∷ drop (i + 1) links
  parted =
      let next : suc i ≡ i + 1 = omega arith in
      ap chain_if (sym step.here ∙ rest)
      ∙ drop-cons links i link within
      ∙ ap (λ (k : ℕ). get_or links i link ∷ drop k links) next

  is_link : get_or links i link ≡ link
  is_link = sym (ap (head_if link) parted)

  pub goes_on : slice_get walks link.switch ≡ Some (Chain (drop (i + 1) links))
  goes_on = step.there ∙ ap (λ (above : List Link). Some (Chain above)) (ap tail_if parted)

  pub one_entered : link.switch < length owners → of_switch own owners link.switch ≡ None → AreEntered own owners (take i links)
      → AreEntered own (set owners link.switch owner) (take (i + 1) links)
  one_entered space free before = λ other.
      let more : agrees_with (take (i + 1) links) other ≡ (agrees_with (take i links) other && agree link other) =
      list_all_more (λ x. agree x other) links i link within ∙ ap (λ x. agrees_with (take i links) other && agree x other)
      is_link in
      ⊎_elim
      (λ (same : other.switch ≡ link.switch).
      let none : true ≡ agrees_with (take i links) other =
      ap (λ (one : Option Link). agrees_if_there one other) (sym free ∙ ap (of_switch own owners) (sym same)) ∙ before other in
      let here : of_switch own (set owners link.switch owner) other.switch ≡ Some link =
      ap (of_switch own (set owners link.switch owner)) same
      ∙ ap (λ (one : Option ℕ). option_and_then (λ owner. own_at own owner) one) (set_same owners link.switch owner space)
      ∙ kept in
      ap (λ (one : Option Link). agrees_if_there one other) here
      ∙ ap (λ b. b && agree link other) none
      ∙ sym more)
      (λ (apart : other.switch ≡ link.switch → ⊥).
      ap (λ (one : Option ℕ). agrees_if_there (option_and_then (λ owner. own_at own owner) one) other)
      (set_other owners link.switch owner other.switch apart)
      ∙ before other
      ∙ sym (and_true (agrees_with (take i links) other))
      ∙ ap (λ b. agrees_with (take i links) other && b) (sym (other_switch link other (λ e. apart (sym e))))
      ∙ sym more)
      (cases_eq other.switch link.switch)
