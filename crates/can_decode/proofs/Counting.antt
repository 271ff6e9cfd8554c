-- A meter after the lines of a stream.
use Rattle.std.proofs.Common.{◌≡◌, ℕ, zero, suc, List, [], ◌∷◌, length, refl, ap, ◌∙◌}
use Rattle.std.specs.List.{fold}
use Rattle.can_layout.specs.Meters.{Meter, repeated, with_line}

-- a step more is one first, or one last
repeated-first : (times : ℕ) (step : Meter → Meter) (meter : Meter) → repeated times step (step meter)
    ≡ step (repeated times step meter)
repeated-first zero step meter = refl
repeated-first (suc times) step meter = ap step (repeated-first times step meter)

after : {S : Type 0} (meter_of : S → Meter) (next : S → List ℕ → S) → ((s : S) (line : List ℕ) → meter_of (next s line)
    ≡ with_line (meter_of s))
    → (s : S) (lines : List (List ℕ)) → meter_of (fold next s lines) ≡ repeated (length lines) with_line (meter_of s)
after meter_of next counts s [] = refl
after meter_of next counts s (line ∷ lines) =
    after meter_of next counts (next s line) lines ∙ ap (repeated (length lines) with_line) (counts s line)
    ∙ repeated-first (length lines) with_line (meter_of s)

-- what has a meter that counts each line, after lines
pub after-counts : {S : Type 0} (next : S → List ℕ → S) (s t : S) (lines : List (List ℕ)) → t ≡ fold next s lines
    → (meter_of : S → Meter) → ((s : S) (line : List ℕ) → meter_of (next s line) ≡ with_line (meter_of s))
    → meter_of t ≡ repeated (length lines) with_line (meter_of s)
after-counts next s t lines is meter_of counts = ap meter_of is ∙ after meter_of next counts s lines
