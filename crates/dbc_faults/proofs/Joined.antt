-- Patterns one after the other: where they may end, and what they begin with.
use Rattle.std.proofs.Common.{◌≡◌, Bool, true, false, cond, ◌||◌, ◌&&◌, List, [], ◌∷◌, ◌++◌, refl, sym, ap, ◌∙◌}
use Rattle.std.proofs.Common.{append_assoc, ◌-◌, ◌≤◌, length, take, drop, get_or, arith}
use Rattle.std.proofs.Math.Seq.{take-length}
use Rattle.std.proofs.lemmas.List.{map-append, reverse-append, take_more}
use Rattle.std.specs.Borrow.{Bor}
use Rattle.dbc_reader.specs.Pattern.{Class, Pattern, Done, ◌⇒◌, Either, Repeat, ◌then◌, may_end}
use Rattle.dbc_reader.proofs.Agrees.{may_end-then}
use Rattle.dbc_faults.specs.declared.pattern.Pattern.{Pattern as PatternOfCode}
use Rattle.std.specs.Prelude.{map, reverse}
use Rattle.dbc_faults.specs.declared.class.Class.{Class as ClassOfCode}
use Rattle.dbc_faults.specs.Patterns.{class_of, pattern_of, patterns_of, joined, stacked, firsts, chain}

then_done : (p : Pattern) → (p then Done) ≡ p
then_done Done = refl
then_done (c ⇒ p) = ap (λ x. c ⇒ x) (then_done p)
then_done (Either a b p) = ap (Either a b) (then_done p)
then_done (Repeat a p) = ap (Repeat a) (then_done p)

pub stacked_push : (xs : List (Bor PatternOfCode)) (x : Bor PatternOfCode) → stacked (xs ++ x ∷ [])
    ≡ (pattern_of x.now then stacked xs)
stacked_push xs x = ap (λ ps. joined (reverse ps)) (map-append (λ (b : Bor PatternOfCode). pattern_of b.now) xs (x ∷ []))
    ∙ ap joined (reverse-append (patterns_of xs) (pattern_of x.now ∷ []))

pub stacked_one : (x : Bor PatternOfCode) → stacked (x ∷ []) ≡ pattern_of x.now
stacked_one x = then_done (pattern_of x.now)

pub ends_after : (p q : Pattern) → may_end (p then q) ≡ (may_end p && may_end q)
ends_after p q = may_end-then p q

perhaps_more : (m : Bool) (xs ys : List Class) → (e : Bool) → cond m (xs ++ cond e ys []) [] ≡ cond m xs [] ++ cond (m && e) ys []
perhaps_more true xs ys e = refl
perhaps_more false xs ys e = refl

pub firsts_then : (p q : Pattern) → firsts (p then q) ≡ firsts p ++ cond (may_end p) (firsts q) []
firsts_then Done q = refl
firsts_then (c ⇒ p) q = refl
firsts_then (Either a b p) q =
    let m = may_end a || may_end b in
    ap (λ z. firsts a ++ firsts b ++ cond m z []) (firsts_then p q)
    ∙ ap (λ z. firsts a ++ firsts b ++ z) (perhaps_more m (firsts p) (firsts q) (may_end p))
    ∙ sym (append_assoc (firsts a ++ firsts b) (cond m (firsts p) []) (cond (m && may_end p) (firsts q) []))
firsts_then (Repeat a p) q =
    ap (λ z. firsts a ++ z) (firsts_then p q) ∙ sym (append_assoc (firsts a) (firsts p) (cond (may_end p) (firsts q) []))

-- the patterns after the front
abbrev pub others_of : List (Bor PatternOfCode) → Pattern
others_of xs = stacked (take (length xs - 1) xs)

stacked_last : (xs : List (Bor PatternOfCode)) (x : Bor PatternOfCode) → 1 ≤ length xs → x ≡ get_or xs (length xs - 1) x
    → stacked xs ≡ (pattern_of x.now then others_of xs)
stacked_last xs x many is =
    let front = take (length xs - 1) xs in
    let all : xs ≡ front ++ x ∷ [] = sym (take-length xs) ∙ ap (λ n. take n xs) (omega (arith, many))
    ∙ take_more xs (length xs - 1) x (omega (arith, many)) ∙ ap (λ z. front ++ z ∷ []) (sym is) in
    ap stacked all ∙ stacked_push front x

pub ends_last : (xs : List (Bor PatternOfCode)) (x : Bor PatternOfCode) (m : Bool) → 1 ≤ length xs
    → x ≡ get_or xs (length xs - 1) x → may_end (pattern_of x.now) ≡ m → (m && may_end (others_of xs)) ≡ may_end (stacked xs)
ends_last xs x m many is ends = sym (ap may_end (stacked_last xs x many is) ∙ ends_after (pattern_of x.now) (others_of xs)
    ∙ ap (λ b. b && may_end (others_of xs)) ends)

pub firsts_last : (xs : List (Bor PatternOfCode)) (x : Bor PatternOfCode) (m : Bool) → 1 ≤ length xs
    → x ≡ get_or xs (length xs - 1) x → may_end (pattern_of x.now) ≡ m
    → firsts (pattern_of x.now) ++ cond m (firsts (others_of xs)) [] ≡ firsts (stacked xs)
firsts_last xs x m many is ends = sym (ap firsts (stacked_last xs x many is) ∙ firsts_then (pattern_of x.now) (others_of xs)
    ∙ ap (λ b. firsts (pattern_of x.now) ++ cond b (firsts (others_of xs)) []) ends)

pub chain_cons : (xs : List ClassOfCode) (x : ClassOfCode) (next : Pattern) → 1 ≤ length xs → x ≡ get_or xs 0 x
    → chain (map class_of xs) next ≡ (class_of x ⇒ chain (map class_of (take (length xs - 1) (drop 1 xs))) next)
chain_cons [] x next many is = absurd (omega (arith, many))
chain_cons (y ∷ xs) x next many is =
    let rest : take (length (y ∷ xs) - 1) xs ≡ xs = ap (λ n. take n xs) (omega arith) ∙ take-length xs in
    ap (λ z. class_of z ⇒ chain (map class_of xs) next) (sym is)
    ∙ ap (λ zs. class_of x ⇒ chain (map class_of zs) next) (sym rest)
