-- What a token leaves of a pattern with others after it, by the pattern's parts.
use Rattle.std.proofs.Common.{◌≡◌, Bool, true, false, cond, ◌||◌, Option, Some, None, Result, Ok, Err, refl, sym, ap, subst, ◌∙◌}
use Rattle.dbc_tokens.specs.declared.fault.Cause.{Cause}
use Rattle.dbc_tokens.specs.declared.fault.Cause.TheVariants as causes
use Rattle.dbc_tokens.specs.Tokens.{Token}
use Rattle.dbc_reader.specs.Pattern.{Class, Seen, Pattern, Done, ◌⇒◌, Either, Repeat, ◌then◌, Left, verdict, is_of_class, has}
use Rattle.dbc_reader.specs.Pattern.{may_end, first_of, left_then, after}
use Rattle.dbc_reader.proofs.Agrees.{then_assoc, after_then}
use Rattle.dbc_faults.specs.FaultLocations.{State, seen_so, left_so, step}
use Rattle.dbc_faults.specs.declared.derivative.Derivative.{Derivative}
use Rattle.dbc_faults.specs.Patterns.{seen_of, stacked, Answers}
use Rattle.dbc_faults.specs.Derivatives.{state_of, step_by, is_unfit, Steps}

-- the first, unless no pattern takes the token: then the second
abbrev or_else : Result State Cause → Result State Cause → Result State Cause
or_else (Err causes.Statement) other = other
or_else judged other = judged

-- the class that takes a token is one that it has
abbrev IsTaken : Left → Token → Seen → Type 0
IsTaken None t seen = Unit
IsTaken (Some x) t seen = has x.0 t seen ≡ true

taken_first : (x y : Left) (t : Token) (seen : Seen) → IsTaken x t seen → IsTaken y t seen → IsTaken (first_of x y) t seen
taken_first None y t seen h k = k
taken_first (Some x) y t seen h k = h

taken_then : (x : Left) (q : Pattern) (t : Token) (seen : Seen) → IsTaken x t seen → IsTaken (left_then x q) t seen
taken_then None q t seen h = h
taken_then (Some x) q t seen h = h

taken_if : (m : Bool) (x : Left) (t : Token) (seen : Seen) → IsTaken x t seen → IsTaken (cond m x None) t seen
taken_if true x t seen h = h
taken_if false x t seen h = tt

taken_class : (m : Bool) (c : Class) (p : Pattern) (t : Token) (seen : Seen) → has c t seen ≡ m
    → IsTaken (cond m (Some (c, p)) None) t seen
taken_class true c p t seen h = h
taken_class false c p t seen h = tt

taken : (p : Pattern) (t : Token) (seen : Seen) → IsTaken (after p t seen) t seen
taken Done t seen = tt
taken (c ⇒ p) t seen = taken_class (has c t seen) c p t seen refl
taken (Either a b p) t seen =
    let last = cond (may_end a || may_end b) (after p t seen) None in
    taken_first (left_then (after a t seen) p) (first_of (left_then (after b t seen) p) last) t seen
    (taken_then (after a t seen) p t seen (taken a t seen))
    (taken_first (left_then (after b t seen) p) last t seen (taken_then (after b t seen) p t seen (taken b t seen))
    (taken_if (may_end a || may_end b) (after p t seen) t seen (taken p t seen)))
taken (Repeat a p) t seen = taken_first (left_then (after a t seen) (Repeat a p)) (after p t seen) t seen
    (taken_then (after a t seen) (Repeat a p) t seen (taken a t seen)) (taken p t seen)

seen_or : (p : Pattern) (r : Result Seen Cause) (other : Result State Cause) → is_of_class r ≡ true
    → seen_so p r ≡ or_else (seen_so p r) other
seen_or p (Ok seen) other h = refl
seen_or p (Err causes.Statement) other h = absurd cc
seen_or p (Err cause) other h = refl

so_first : (x y : Left) (t : Token) (seen : Seen) → IsTaken x t seen → left_so (first_of x y) t seen
    ≡ or_else (left_so x t seen) (left_so y t seen)
so_first None y t seen h = refl
so_first (Some x) y t seen h = seen_or x.1 (verdict x.0 t seen) (left_so y t seen) h

so_if : (m : Bool) (x : Left) (t : Token) (seen : Seen) → left_so (cond m x None) t seen
    ≡ cond m (left_so x t seen) (Err causes.Statement)
so_if true x t seen = refl
so_if false x t seen = refl

then_if : (m : Bool) (x : Left) (q : Pattern) → left_then (cond m x None) q ≡ cond m (left_then x q) None
then_if true x q = refl
then_if false x q = refl

then_first : (x y : Left) (p q : Pattern) → left_then (first_of (left_then x p) y) q
    ≡ first_of (left_then x (p then q)) (left_then y q)
then_first None y p q = refl
then_first (Some x) y p q = ap (λ z. let found : Left = Some (x.0, z) in found) (then_assoc x.1 p q)

-- what the first leaves, or another
left_or : (x y : Left) (p q : Pattern) (t : Token) (seen : Seen) → IsTaken x t seen
    → left_so (left_then (first_of (left_then x p) y) q) t seen
    ≡ or_else (left_so (left_then x (p then q)) t seen) (left_so (left_then y q) t seen)
left_or x y p q t seen h = ap (λ z. left_so z t seen) (then_first x y p q)
    ∙ so_first (left_then x (p then q)) (left_then y q) t seen (taken_then x (p then q) t seen h)

class_so : (r : Result Seen Cause) (c : Class) (p q : Pattern) (t : Token) (seen : Seen) → verdict c t seen ≡ r
    → left_so (left_then (cond (is_of_class r) (Some (c, p)) None) q) t seen ≡ seen_so (p then q) r
class_so (Ok s) c p q t seen e = ap (seen_so (p then q)) e
class_so (Err causes.Statement) c p q t seen e = refl
class_so (Err cause) c p q t seen e = ap (seen_so (p then q)) e

pub by_class : (c : Class) (p : Pattern) (state : State) (t : Token) → step_by (c ⇒ p) state t
    ≡ seen_so (p then state.0) (verdict c t state.1)
by_class c p state t = class_so (verdict c t state.1) c p state.0 t state.1 refl

pub by_either : (a b p : Pattern) (state : State) (t : Token) → step_by (Either a b p) state t
    ≡ or_else (step_by a (p then state.0, state.1) t) (or_else (step_by b (p then state.0, state.1) t)
    (cond (may_end a || may_end b) (step_by p state t) (Err causes.Statement)))
by_either a b p state t =
    let seen = state.1 in
    let m = may_end a || may_end b in
    let last = cond m (after p t seen) None in
    left_or (after a t seen) (first_of (left_then (after b t seen) p) last) p state.0 t seen (taken a t seen)
    ∙ ap (or_else (step_by a (p then state.0, seen) t)) (left_or (after b t seen) last p state.0 t seen (taken b t seen)
    ∙ ap (or_else (step_by b (p then state.0, seen) t)) (ap (λ z. left_so z t seen) (then_if m (after p t seen) state.0)
    ∙ so_if m (left_then (after p t seen) state.0) t seen))

pub by_repeat : (a p : Pattern) (state : State) (t : Token) → step_by (Repeat a p) state t
    ≡ or_else (step_by a (Repeat a p then state.0, state.1) t) (step_by p state t)
by_repeat a p state t = left_or (after a t state.1) (after p t state.1) (Repeat a p) state.0 t state.1 (taken a t state.1)

-- the pattern at the front takes a token, or, where it may end, one after it does
pub step_front : (p q : Pattern) (seen : Seen) (t : Token) → step (p then q, seen) t
    ≡ or_else (step_by p (q, seen) t) (cond (may_end p) (step (q, seen) t) (Err causes.Statement))
unfolding step
step_front p q seen t = ap (λ z. left_so z t seen) (after_then p q t seen)
    ∙ so_first (left_then (after p t seen) q) (cond (may_end p) (after q t seen) None) t seen
    (taken_then (after p t seen) q t seen (taken p t seen))
    ∙ ap (or_else (step_by p (q, seen) t)) (so_if (may_end p) (after q t seen) t seen)

-- ---- steps of a walk

kept : (judged other : Result State Cause) (refusal : Option Cause) (before now : Derivative) → is_unfit refusal ≡ false
    → Steps judged refusal before now → Steps (or_else judged other) refusal before now
kept judged other None before now fit steps = ap (λ j. or_else j other) steps
kept judged other (Some causes.Statement) before now fit steps = absurd cc
kept judged other (Some cause) before now fit steps = (ap (λ j. or_else j other) steps.0, steps.1, steps.2)

same_state : (now before : Derivative) → now.left.items ≡ before.left.items → seen_of now.seen ≡ seen_of before.seen
    → state_of now ≡ state_of before
same_state now before left seen = ap (λ xs. let s : State = (stacked xs, seen_of now.seen) in s) left
    ∙ ap (λ z. let s : State = (stacked before.left.items, z) in s) seen

-- steps from a walk that is as before are steps from before
moved : (judged : State → Result State Cause) (refusal : Option Cause) (before mid now : Derivative)
    → mid.left.items ≡ before.left.items → seen_of mid.seen ≡ seen_of before.seen
    → Steps (judged (state_of mid)) refusal mid now → Steps (judged (state_of before)) refusal before now
moved judged None before mid now left seen steps = sym (ap judged (same_state mid before left seen)) ∙ steps
moved judged (Some cause) before mid now left seen steps =
    (sym (ap judged (same_state mid before left seen)) ∙ steps.0, steps.1 ∙ left, steps.2 ∙ seen)

-- what a part of the pattern does not take is left to the rest of it
passed_on : (part rest : State → Result State Cause) (why refusal : Option Cause) (before mid now : Derivative)
    → is_unfit why ≡ true → Steps (part (state_of before)) why before mid → Steps (rest (state_of mid)) refusal mid now
    → Steps (or_else (part (state_of before)) (rest (state_of before))) refusal before now
passed_on part rest None refusal before mid now unfit first second = absurd cc
passed_on part rest (Some causes.Statement) refusal before mid now unfit first second =
    subst (λ j. Steps (or_else j (rest (state_of before))) refusal before now) (sym first.0)
    (moved rest refusal before mid now first.1 first.2 second)
passed_on part rest (Some cause) refusal before mid now unfit first second = absurd cc

unfit_so : (judged : Result State Cause) (why : Option Cause) (before now : Derivative) → is_unfit why ≡ true
    → Steps judged why before now
    → (judged ≡ Err causes.Statement) × (why ≡ Some causes.Statement) × (state_of now ≡ state_of before)
unfit_so judged None before now unfit steps = absurd cc
unfit_so judged (Some causes.Statement) before now unfit steps = (steps.0, refl, same_state now before steps.1 steps.2)
unfit_so judged (Some cause) before now unfit steps = absurd cc

answers : (judged : Result State Cause) (refusal : Option Cause) (before now : Derivative) → Steps judged refusal before now
    → Answers judged refusal (state_of before) (state_of now)
answers judged None before now steps = steps
answers judged (Some cause) before now steps = (steps.0, same_state now before steps.1 steps.2)

-- ---- the walk takes by a pattern

-- by one that is before others
abbrev by_then : Pattern → Pattern → Token → State → Result State Cause
by_then p q t s = step_by p (q then s.0, s.1) t

abbrev by_last : Bool → Pattern → Token → State → Result State Cause
by_last m p t s = cond m (step_by p s t) (Err causes.Statement)

pub either_first : (pattern a b p : Pattern) (t : Token) (refusal : Option Cause) (before now : Derivative) → pattern ≡ Either a b p
    → is_unfit refusal ≡ false → Steps (step_by a (p then (state_of before).0, (state_of before).1) t) refusal before now
    → Steps (step_by pattern (state_of before) t) refusal before now
either_first pattern a b p t refusal before now is fit steps =
    let s = state_of before in
    subst (λ j. Steps j refusal before now) (sym (ap (λ q. step_by q s t) is ∙ by_either a b p s t))
    (kept (by_then a p t s) (or_else (by_then b p t s) (by_last (may_end a || may_end b) p t s)) refusal before now fit steps)

-- the first does not take the token: what the second does, or what is after them
either_after : (pattern a b p : Pattern) (t : Token) (why refusal : Option Cause) (before mid now : Derivative)
    → pattern ≡ Either a b p → is_unfit why ≡ true → Steps (by_then a p t (state_of before)) why before mid
    → Steps (or_else (by_then b p t (state_of mid)) (by_last (may_end a || may_end b) p t (state_of mid))) refusal mid now
    → Steps (step_by pattern (state_of before) t) refusal before now
either_after pattern a b p t why refusal before mid now is unfit first others =
    let s = state_of before in
    subst (λ j. Steps j refusal before now) (sym (ap (λ q. step_by q s t) is ∙ by_either a b p s t))
    (passed_on (by_then a p t) (λ z. or_else (by_then b p t z) (by_last (may_end a || may_end b) p t z)) why refusal before mid now
    unfit first others)

pub either_second : (pattern a b p : Pattern) (t : Token) (why refusal : Option Cause) (before mid now : Derivative)
    → pattern ≡ Either a b p → is_unfit why ≡ true
    → Steps (step_by a (p then (state_of before).0, (state_of before).1) t) why before mid → is_unfit refusal ≡ false
    → Steps (step_by b (p then (state_of mid).0, (state_of mid).1) t) refusal mid now
    → Steps (step_by pattern (state_of before) t) refusal before now
either_second pattern a b p t why refusal before mid now is unfit first fit second =
    either_after pattern a b p t why refusal before mid now is unfit first
    (kept (by_then b p t (state_of mid)) (by_last (may_end a || may_end b) p t (state_of mid)) refusal mid now fit second)

pub either_next : (pattern a b p : Pattern) (t : Token) (m : Bool) (why why' refusal : Option Cause) (before mid mid' now :
    Derivative)
    → pattern ≡ Either a b p → is_unfit why ≡ true
    → Steps (step_by a (p then (state_of before).0, (state_of before).1) t) why before mid → is_unfit why' ≡ true
    → Steps (step_by b (p then (state_of mid).0, (state_of mid).1) t) why' mid mid' → (may_end a || may_end b) ≡ m
    → Steps (by_last m p t (state_of mid')) refusal mid' now → Steps (step_by pattern (state_of before) t) refusal before now
either_next pattern a b p t m why why' refusal before mid mid' now is unfit first unfit' second ends next =
    either_after pattern a b p t why refusal before mid now is unfit first
    (passed_on (by_then b p t) (by_last (may_end a || may_end b) p t) why' refusal mid mid' now unfit' second
    (subst (λ n. Steps (by_last n p t (state_of mid')) refusal mid' now) (sym ends) next))

pub stays : (why : Option Cause) (now : Derivative) → is_unfit why ≡ true → Steps (Err causes.Statement) why now now
stays None now unfit = absurd cc
stays (Some causes.Statement) now unfit = (refl, refl, refl)
stays (Some cause) now unfit = absurd cc

pub repeat_each : (pattern a p : Pattern) (t : Token) (refusal : Option Cause) (before now : Derivative) → pattern ≡ Repeat a p
    → is_unfit refusal ≡ false → Steps (step_by a (pattern then (state_of before).0, (state_of before).1) t) refusal before now
    → Steps (step_by pattern (state_of before) t) refusal before now
repeat_each pattern a p t refusal before now is fit steps =
    let s = state_of before in
    subst (λ j. Steps j refusal before now) (sym (ap (λ q. step_by q s t) is ∙ by_repeat a p s t))
    (kept (by_then a (Repeat a p) t s) (step_by p s t) refusal before now fit
    (subst (λ q. Steps (by_then a q t s) refusal before now) is steps))

pub repeat_next : (pattern a p : Pattern) (t : Token) (why refusal : Option Cause) (before mid now : Derivative)
    → pattern ≡ Repeat a p → is_unfit why ≡ true
    → Steps (step_by a (pattern then (state_of before).0, (state_of before).1) t) why before mid
    → Steps (step_by p (state_of mid) t) refusal mid now → Steps (step_by pattern (state_of before) t) refusal before now
repeat_next pattern a p t why refusal before mid now is unfit each next =
    let s = state_of before in
    subst (λ j. Steps j refusal before now) (sym (ap (λ q. step_by q s t) is ∙ by_repeat a p s t))
    (passed_on (by_then a (Repeat a p) t) (λ z. step_by p z t) why refusal before mid now unfit
    (subst (λ q. Steps (by_then a q t s) why before mid) is each) next)

-- ---- the pattern at the front

pub front_kept : (p : Pattern) (t : Token) (refusal : Option Cause) (before now : Derivative) → is_unfit refusal ≡ false
    → Steps (step_by p (state_of before) t) refusal before now
    → Answers (step (p then (state_of before).0, (state_of before).1) t) refusal (state_of before) (state_of now)
front_kept p t refusal before now fit steps =
    let s = state_of before in
    let other = cond (may_end p) (step s t) (Err causes.Statement) in
    subst (λ j. Answers j refusal s (state_of now)) (sym (step_front p s.0 s.1 t))
    (answers (or_else (step_by p s t) other) refusal before now (kept (step_by p s t) other refusal before now fit steps))

-- what is so of a token that the pattern at the front does not take
front_unfit : (p : Pattern) (m : Bool) (t : Token) (state : State) → step_by p state t ≡ Err causes.Statement → may_end p ≡ m
    → step (p then state.0, state.1) t ≡ cond m (step state t) (Err causes.Statement)
front_unfit p m t state e ends = step_front p state.0 state.1 t
    ∙ ap (λ j. or_else j (cond (may_end p) (step state t) (Err causes.Statement))) e
    ∙ ap (λ b. cond b (step state t) (Err causes.Statement)) ends

pub front_passed_on : (p : Pattern) (t : Token) (why refusal : Option Cause) (before mid : Derivative) (now : State)
    → is_unfit why ≡ true → may_end p ≡ true → Steps (step_by p (state_of before) t) why before mid
    → Answers (step (state_of mid) t) refusal (state_of mid) now
    → Answers (step (p then (state_of before).0, (state_of before).1) t) refusal (state_of before) now
front_passed_on p t why refusal before mid now unfit ends steps second =
    let u = unfit_so (step_by p (state_of before) t) why before mid unfit steps in
    subst (λ j. Answers j refusal (state_of before) now) (sym (front_unfit p true t (state_of before) u.0 ends))
    (subst (λ (s : State). Answers (step s t) refusal s now) u.2 second)

pub front_stopped : (p : Pattern) (t : Token) (why : Option Cause) (before now : Derivative) → is_unfit why ≡ true
    → may_end p ≡ false → Steps (step_by p (state_of before) t) why before now
    → Answers (step (p then (state_of before).0, (state_of before).1) t) why (state_of before) (state_of now)
front_stopped p t why before now unfit ends steps =
    let u = unfit_so (step_by p (state_of before) t) why before now unfit steps in
    subst (λ w. Answers (step (p then (state_of before).0, (state_of before).1) t) w (state_of before) (state_of now)) (sym u.1)
    (front_unfit p false t (state_of before) u.0 ends, u.2)
