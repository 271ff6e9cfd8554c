use Rattle.std.proofs.Common.{◌≡◌, ℕ, Bool, true, ◌==◌, ◌&&◌, ap, ◌∙◌, arith}
use Rattle.std.specs.Bool.{Decides}
use Rattle.std.proofs.lemmas.Bool.Decides.{Decides-eqb}
use Rattle.std.proofs.lemmas.Grind.{common_steps}
use Rattle.std.proofs.lemmas.Slice.Eq.{slice_eq-Decides}
use Rattle.dbc_records.specs.declared.mux_row.Range.{Range}
use Rattle.can_layout.proofs.runs.are_same.Goals as goal

both : (x y : Bool) → (x && y) ≡ true → (x ≡ true) × (y ≡ true)
both x y is = grind (arith, common_steps)

neither_fails : (x y : Bool) → x ≡ true → y ≡ true → (x && y) ≡ true
neither_fails x y one other = grind (arith, common_steps)

-- two ranges are the same if both ends are
range_decides : (a b : Range) → Decides ((a.first == b.first) && (a.last == b.last)) (a ≡ b)
range_decides a b = (
  λ is.
      let ends = both (a.first == b.first) (a.last == b.last) is in
      ap (λ (first : ℕ). record { first = first; last = a.last }) ((Decides-eqb a.first b.first).0 ends.0)
      ∙ ap (λ (last : ℕ). record { first = b.first; last = last }) ((Decides-eqb a.last b.last).0 ends.1),
  λ same. neither_fails (a.first == b.first) (a.last == b.last)
      ((Decides-eqb a.first b.first).1 (ap (λ (range : Range). range.first) same))
      ((Decides-eqb a.last b.last).1 (ap (λ (range : Range). range.last) same)),
)

pub returns : goal.returns
returns c = slice_eq-Decides range_decides _ _ _ c.eq.ensures
