-- A number after a minus.
use Rattle.std.proofs.Common.{MatchOption, Option, ◌≡◌, ℕ, ◌-◌, Bool, true, List, length, take, drop, refl, sym, subst, ◌∙◌}
use Rattle.std.specs.Str.Parse.{starts_with_minus, without_leading_sign}
use Rattle.std.proofs.lemmas.List.{length-drop}
use Rattle.std.proofs.Math.Seq.{take-length}
use Rattle.dbc_values.specs.Decimals.{Decimal, SpellsDecimal, SpellsSigned}

pub following_minus : (bytes : List ℕ) (made : Option Decimal) → starts_with_minus bytes ≡ true
    → MatchOption made ((d : Decimal) → SpellsDecimal true (take (length bytes - 1) (drop 1 bytes)) d
    → ⊥) (SpellsDecimal true (take (length bytes - 1) (drop 1 bytes)))
    → MatchOption made ((d : Decimal) → SpellsSigned bytes d → ⊥) (SpellsSigned bytes)
following_minus bytes made minus spells =
    let whole : take (length bytes - 1) (drop 1 bytes) ≡ drop 1 bytes = rw (← length-drop 1 bytes) (take-length (drop 1 bytes)) in
    let rest : drop 1 bytes ≡ without_leading_sign bytes = rw minus refl in
    let P : List ℕ → Type 0 = λ t. MatchOption made ((d : Decimal) → SpellsDecimal true t d → ⊥) (SpellsDecimal true t) in
    let Q : Bool → Type 0 = λ b. MatchOption made ((d : Decimal) → SpellsDecimal b (without_leading_sign bytes) d
    → ⊥) (SpellsDecimal b (without_leading_sign bytes)) in
    subst Q (sym minus) (subst P (whole ∙ rest) spells)
