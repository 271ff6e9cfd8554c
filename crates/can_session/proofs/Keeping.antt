-- One more line if only some are kept.
use Rattle.std.proofs.Common.{◌≡◌, ◌<◌, ◌≤◌, ◌+◌, ◌-◌, ℕ, false, List, [], ◌∷◌, ◌++◌, length, Ok, drop, refl, ap, arith}
use Rattle.std.proofs.Common.{length-append}
use Rattle.std.proofs.lemmas.Bool.{leb-false, le-ltb}
use Rattle.session_kept_lines.specs.Counts.{most_lines}
use Rattle.session_kept_lines.specs.declared.keep.Keep.{Keep}
use Rattle.session_kept_lines.specs.declared.keep.Keep.TheVariants.{All, Last}
use Rattle.can_session.specs.States.{longest_line, with_line}
use Rattle.session_kept_lines.specs.Keeping.{most_kept, kept, is_full}

-- with as many as are kept the first goes
pub one_goes : {X : Type 0} (keep : Keep) (lines : List X) (line : X) → length lines ≤ most_kept keep → is_full keep (length lines)
    ≡ false
    → most_kept keep < length lines + 1 → kept keep (lines ++ line ∷ []) ≡ drop 1 (lines ++ line ∷ [])
one_goes All lines line few space over = let below = leb-false most_lines (length lines) space in absurd (omega (
  arith,
  below,
  over,
))
one_goes (Last count) lines line few space over =
    let one : length (lines ++ line ∷ []) - count ≡ 1 = omega (arith, length-append lines (line ∷ []), few, over) in
    ap (λ n. drop n (lines ++ line ∷ [])) one

-- a line that is not too long, if there is space for it
pub open_with_line : (keep : Keep) (lines : List (List ℕ)) (line : List ℕ) → is_full keep (length lines) ≡ false
    → length line ≤ longest_line
    → with_line keep lines line ≡ Ok (kept keep (lines ++ line ∷ []))
open_with_line keep lines line space short = let fits = le-ltb longest_line (length line) short in rw (space, fits) refl
