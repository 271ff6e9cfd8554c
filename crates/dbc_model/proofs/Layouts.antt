-- Texts of layouts, one after another.
use Rattle.std.proofs.Common.{◌≡◌, ℕ, List, [], ◌∷◌, ◌++◌, ◌<◌, ◌≤◌, ◌-◌, length, take, drop, get_or, arith, refl, sym, ap, subst}
use Rattle.std.proofs.Common.{◌∙◌}
use Rattle.std.specs.Prelude.{Result}
use Rattle.std.specs.List.{flat_map}
use Rattle.std.specs.Result.{IsErr}
use Rattle.std.proofs.Math.Seq.{take-length}
use Rattle.std.proofs.lemmas.List.Concat.{flat_map-append}
use Rattle.byte_devices.specs.Device.{Written}
use Rattle.byte_devices.specs.declared.sending.Out.{Out}
use Rattle.byte_devices.specs.Outs.{Took, Lost, Sends}
use Rattle.dbc_records.specs.Layout.{Layout, element_text, layout_text, separated}
use Rattle.byte_devices.proofs.Outs.{Took-nil, Sends-after, Sends-stop}

pub layout_text-append : (xs ys : Layout) → layout_text (xs ++ ys) ≡ layout_text xs ++ layout_text ys
unfolding layout_text
layout_text-append xs ys = flat_map-append element_text xs ys

layout_text-nil : layout_text [] ≡ []
unfolding layout_text
layout_text-nil = refl

pub text_of_items : {X : Type 0} (f : X → Layout) (xs : List X) → layout_text (flat_map f xs) ≡ flat_map (λ x. layout_text (f x)) xs
text_of_items f [] = layout_text-nil
text_of_items f (x ∷ xs) = layout_text-append (f x) (flat_map f xs) ∙ ap (λ (t : List ℕ). layout_text (f x) ++ t)
    (text_of_items f xs)

-- no item
pub separated-none : {X : Type 0} (first further : X → Layout) (xs : List X) → length xs < 1
    → layout_text (separated first further xs) ≡ []
separated-none first further [] few = layout_text-nil
separated-none first further (x ∷ xs) few = absurd (omega (arith, few))

-- some items
pub separated-some : {X : Type 0} (first further : X → Layout) (xs : List X) (x d : X) → 1 ≤ length xs → x ≡ get_or xs 0 d
    → first x ++ flat_map further (take (length xs - 1) (drop 1 xs)) ≡ separated first further xs
separated-some first further [] x d many is = absurd (omega (arith, many))
separated-some first further (y ∷ xs) x d many is =
    let rest : take (length (y ∷ xs) - 1) xs ≡ xs = ap (λ n. take n xs) (omega arith) ∙ take-length xs in
    ap (λ z. first z ++ flat_map further (take (length (y ∷ xs) - 1) xs)) is ∙ ap (λ zs. first y ++ flat_map further zs) rest

-- a layout goes out after one that was sent
pub Sends-then : {W X E : Type 0} (written : W → Written) (a b c : Out W) (r : Result X E) (xs ys : Layout)
    → Took written a b (layout_text xs)
    → Sends written b c r (layout_text ys) → Sends written a c r (layout_text (xs ++ ys))
Sends-then written a b c r xs ys p q = rw (layout_text-append xs ys) (Sends-after written a b c r (layout_text xs) (layout_text ys)
    p q)

-- a failure in a layout, before another
pub Sends-broke : {W X E : Type 0} (written : W → Written) (a b : Out W) (r : Result X E) (xs ys : Layout) → IsErr r
    → Lost written a b (layout_text xs)
    → Sends written a b r (layout_text (xs ++ ys))
Sends-broke written a b r xs ys e p = rw (layout_text-append xs ys) (Sends-stop written a b r (layout_text xs) (layout_text ys) e p)

-- nothing goes out if there is nothing to print
pub Took-none : {W : Type 0} (written : W → Written) (a : Out W) → Took written a a (layout_text [])
Took-none written a = subst (λ (t : List ℕ). Took written a a t) (sym layout_text-nil) (Took-nil written a)

pub ruleset layouts = (Sends-then, Sends-broke, Took-none)
