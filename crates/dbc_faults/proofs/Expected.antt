-- A token may be where a pattern is left exactly when it is of one of the classes with which the pattern begins.
use Rattle.std.proofs.Common.{◌≡◌, Bool, true, false, cond, ◌||◌, List, [], ◌∷◌, ◌++◌, Some, None, refl, sym, ap, ◌∙◌}
use Rattle.std.specs.Prelude.{is_some}
use Rattle.std.specs.List.{list_any}
use Rattle.std.proofs.lemmas.List.Folds.{list_any-append}
use Rattle.dbc_tokens.specs.Tokens.{Token}
use Rattle.dbc_reader.specs.Pattern.{Class, Seen, Pattern, Done, ◌⇒◌, Either, Repeat, may_end, after, has, Left, first_of}
use Rattle.dbc_reader.specs.Pattern.{left_then}
use Rattle.dbc_faults.specs.Patterns.{firsts}

there_first : (x y : Left) → is_some (first_of x y) ≡ (is_some x || is_some y)
there_first None y = refl
there_first (Some x) y = refl

there_then : (x : Left) (q : Pattern) → is_some (left_then x q) ≡ is_some x
there_then None q = refl
there_then (Some x) q = refl

there_if : (m : Bool) (x : Left) → is_some (cond m x None) ≡ cond m (is_some x) false
there_if true x = refl
there_if false x = refl

any_if : (test : Class → Bool) (m : Bool) (xs : List Class) → list_any test (cond m xs []) ≡ cond m (list_any test xs) false
any_if test true xs = refl
any_if test false xs = refl

one : (b : Bool) (x : Class × Pattern) → is_some (cond b (Some x) None) ≡ (b || false)
one true x = refl
one false x = refl

or_assoc : (a b c : Bool) → (a || (b || c)) ≡ ((a || b) || c)
or_assoc true b c = refl
or_assoc false b c = refl

pub may_stand : (p : Pattern) (t : Token) (seen : Seen) → is_some (after p t seen) ≡ list_any (λ c. has c t seen) (firsts p)
may_stand Done t seen = refl
may_stand (c ⇒ p) t seen = one (has c t seen) (c, p)
may_stand (Either a b p) t seen =
    let test : Class → Bool = λ c. has c t seen in
    let m = may_end a || may_end b in
    let last = cond m (after p t seen) None in
    there_first (left_then (after a t seen) p) (first_of (left_then (after b t seen) p) last)
    ∙ ap (λ z. z || is_some (first_of (left_then (after b t seen) p) last)) (there_then (after a t seen) p ∙ may_stand a t seen)
    ∙ ap (λ z. list_any test (firsts a) || z) (there_first (left_then (after b t seen) p) last)
    ∙ ap (λ z. list_any test (firsts a) || (z || is_some last)) (there_then (after b t seen) p ∙ may_stand b t seen)
    ∙ ap (λ z. list_any test (firsts a) || (list_any test (firsts b) || z))
    (there_if m (after p t seen) ∙ ap (λ z. cond m z false) (may_stand p t seen) ∙ sym (any_if test m (firsts p)))
    ∙ or_assoc (list_any test (firsts a)) (list_any test (firsts b)) (list_any test (cond m (firsts p) []))
    ∙ ap (λ z. z || list_any test (cond m (firsts p) [])) (sym (list_any-append test (firsts a) (firsts b)))
    ∙ sym (list_any-append test (firsts a ++ firsts b) (cond m (firsts p) []))
may_stand (Repeat a p) t seen =
    let test : Class → Bool = λ c. has c t seen in
    there_first (left_then (after a t seen) (Repeat a p)) (after p t seen)
    ∙ ap (λ z. z || is_some (after p t seen)) (there_then (after a t seen) (Repeat a p) ∙ may_stand a t seen)
    ∙ ap (λ z. list_any test (firsts a) || z) (may_stand p t seen)
    ∙ sym (list_any-append test (firsts a) (firsts p))
