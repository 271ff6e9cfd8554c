-- Layouts that are shown on one line, one after another.
use Rattle.std.proofs.Common.{◌≡◌, List, [], ◌∷◌, ◌++◌, ℕ, map, refl, sym, ap, subst, ◌∙◌}
use Rattle.std.specs.Prelude.{Result}
use Rattle.std.specs.List.{flat_map}
use Rattle.std.specs.Result.{IsErr}
use Rattle.std.proofs.lemmas.List.{map-append}
use Rattle.std.proofs.lemmas.List.Concat.{flat_map-append}
use Rattle.byte_devices.specs.Device.{Written}
use Rattle.byte_devices.specs.declared.sending.Out.{Out}
use Rattle.byte_devices.specs.Outs.{Took, Lost, Sends}
use Rattle.byte_devices.proofs.Outs.{Took-nil, Sends-after, Sends-stop}
use Rattle.dbc_records.specs.Layout.{Layout, element_text, layout_text}
use Rattle.can_diagnostics.specs.Lines.{shown_byte, blanked, shown}

pub blanked-append : (xs ys : List ℕ) → blanked (xs ++ ys) ≡ blanked xs ++ blanked ys
unfolding blanked
blanked-append xs ys = map-append shown_byte xs ys

pub blanked_pieces : {X : Type 0} (f : X → List ℕ) (pieces : List X) → blanked (flat_map f pieces)
    ≡ flat_map (λ piece. blanked (f piece)) pieces
unfolding blanked
blanked_pieces f [] = refl
blanked_pieces f (piece ∷ pieces) = map-append shown_byte (f piece) (flat_map f pieces)
    ∙ ap (λ (t : List ℕ). map shown_byte (f piece) ++ t) (blanked_pieces f pieces)

pub shown-append : (xs ys : Layout) → shown (xs ++ ys) ≡ shown xs ++ shown ys
unfolding shown layout_text
shown-append xs ys = ap blanked (flat_map-append element_text xs ys) ∙ blanked-append (layout_text xs) (layout_text ys)

shown-nil : shown [] ≡ []
unfolding shown layout_text blanked
shown-nil = refl

-- a layout goes out after one that was sent
pub Shown-then : {W X E : Type 0} (written : W → Written) (a b c : Out W) (r : Result X E) (xs ys : Layout)
    → Took written a b (shown xs)
    → Sends written b c r (shown ys) → Sends written a c r (shown (xs ++ ys))
Shown-then written a b c r xs ys p q = rw (shown-append xs ys) (Sends-after written a b c r (shown xs) (shown ys) p q)

-- a failure in a layout, before another
pub Shown-broke : {W X E : Type 0} (written : W → Written) (a b : Out W) (r : Result X E) (xs ys : Layout) → IsErr r
    → Lost written a b (shown xs)
    → Sends written a b r (shown (xs ++ ys))
Shown-broke written a b r xs ys e p = rw (shown-append xs ys) (Sends-stop written a b r (shown xs) (shown ys) e p)

-- nothing goes out if there is nothing to print
pub Took-none : {W : Type 0} (written : W → Written) (a : Out W) → Took written a a (shown [])
Took-none written a = subst (λ (t : List ℕ). Took written a a t) (sym shown-nil) (Took-nil written a)

pub ruleset layouts = (Shown-then, Shown-broke, Took-none)
