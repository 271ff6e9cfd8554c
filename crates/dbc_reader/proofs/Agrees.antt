-- Reading meets a fault where the pattern does, and no other.
pub mod Kinds
pub mod Rows
pub mod Messages
pub mod Databases
pub mod Texts
pub mod Statements
use Rattle.std.proofs.Common.{◌≡◌, ℕ, zero, suc, ◌≤◌, Bool, true, false, cond, ◌||◌, ◌&&◌, Option, Some, None, Result, Ok, Err}
use Rattle.std.proofs.Common.{refl, sym, ap, subst, ◌∙◌, arith, inl, inr}
use Rattle.std.proofs.lemmas.Bool.{cases_Bool}
use Rattle.dbc_tokens.specs.declared.fault.Cause.{Cause}
use Rattle.dbc_tokens.specs.declared.fault.Cause.TheVariants as causes
use Rattle.dbc_tokens.specs.declared.fault.ReadFault.{ReadFault}
use Rattle.dbc_tokens.specs.Tokens.{Token, Cut, End, Fault, ◌▸◌}
use Rattle.dbc_reader.specs.Pattern.{Class, Seen, verdict, is_of_class, has, Pattern, Done, ◌⇒◌, Either, Repeat, ◌then◌, may_end}
use Rattle.dbc_reader.specs.Pattern.{Left, first_of, left_then, after, fault_in, ruled, judged, first_fault}
use Rattle.dbc_reader.specs.inner.Readers.{Reader, and_then, ◌>>=◌, value, token_at, answered, one, starts, choose, size, rounds}
use Rattle.dbc_reader.specs.inner.Readers.{repeated}
use Rattle.dbc_reader.proofs.Rounds.{Shrinks}

-- ---- laws of patterns

pub then_assoc : (p q r : Pattern) → ((p then q) then r) ≡ (p then (q then r))
then_assoc Done q r = refl
then_assoc (c ⇒ p) q r = ap (λ x. c ⇒ x) (then_assoc p q r)
then_assoc (Either a b p) q r = ap (Either a b) (then_assoc p q r)
then_assoc (Repeat a p) q r = ap (Repeat a) (then_assoc p q r)

left_then-twice : (x : Left) (p q : Pattern) → left_then (left_then x p) q ≡ left_then x (p then q)
left_then-twice None p q = refl
left_then-twice (Some x) p q = ap (λ y. let z : Left = Some (x.0, y) in z) (then_assoc x.1 p q)

left_then-first : (x y : Left) (q : Pattern) → left_then (first_of x y) q ≡ first_of (left_then x q) (left_then y q)
left_then-first None y q = refl
left_then-first (Some x) y q = refl

first_of-assoc : (x y z : Left) → first_of (first_of x y) z ≡ first_of x (first_of y z)
first_of-assoc None y z = refl
first_of-assoc (Some x) y z = refl

guarded : (m e : Bool) (x y : Left) (q : Pattern) → cond m (first_of (left_then x q) (cond e y None)) None
    ≡ first_of (left_then (cond m x None) q) (cond (m && e) y None)
guarded true e x y q = refl
guarded false e x y q = refl

-- what a token leaves of two patterns, one after the other
pub after_then : (p q : Pattern) (t : Token) (seen : Seen) → after (p then q) t seen ≡ first_of (left_then (after p t seen) q)
    (cond (may_end p) (after q t seen) None)
after_then Done q t seen = refl
after_then (c ⇒ p) q t seen = by_test (has c t seen)
  where
    by_test : (b : Bool) → cond b (Some (c, p then q)) None ≡ first_of (left_then (cond b (Some (c, p)) None) q)
        (cond false (after q t seen) None)
    by_test true = refl
    by_test false = refl
after_then (Either a b p) q t seen =
    let m = may_end a || may_end b in
    rw (
      after_then p q t seen,
      guarded m (may_end p) (after p t seen) (after q t seen) q,
      left_then-first,
      left_then-first,
      left_then-twice,
      left_then-twice,
      first_of-assoc,
      first_of-assoc,
    ) refl
after_then (Repeat a p) q t seen =
    rw (after_then p q t seen, left_then-first, left_then-twice, first_of-assoc) refl

pub may_end-then : (p q : Pattern) → may_end (p then q) ≡ (may_end p && may_end q)
may_end-then Done q = refl
may_end-then (c ⇒ p) q = refl
may_end-then (Either a b p) q = rw (may_end-then p q) (three (may_end a || may_end b) (may_end p) (may_end q))
  where
    three : (x y z : Bool) → (x && (y && z)) ≡ ((x && y) && z)
    three true y z = refl
    three false y z = refl
may_end-then (Repeat a p) q = may_end-then p q

-- ---- agreement

-- what was read leaves the pattern that is left, and a fault is the first
abbrev pub Follows : {A : Type 0} → (A → Seen → Type 0) → Result (A × Cut) ReadFault → (Seen → Cut → Option ReadFault)
    → Option ReadFault → Type 0
Follows post (Ok x) go total = (seen : Seen) × post x.0 seen × (total ≡ go seen x.1)
Follows post (Err e) go total = total ≡ Some e

-- the reader and the pattern agree, if this is seen before; what is read and what is seen after it are so
pub record Agrees {A : Type 0} (seen : Seen) (r : Reader A) (p : Pattern) (post : A → Seen → Type 0) : Type 0 where
  pub follows : (q : Pattern) (cut : Cut) → Follows post (r cut) (first_fault q) (first_fault (p then q) seen cut)

pub bind_follows : {A B : Type 0} (post : A → Seen → Type 0) (post' : B → Seen → Type 0) (f : A → Reader B) (go go' : Seen → Cut
    → Option ReadFault) (o : Result (A × Cut) ReadFault) (total : Option ReadFault)
    → Follows post o go total → ((a : A) (s : Seen) (rest : Cut) → post a s → Follows post' (f a rest) go' (go s rest))
    → Follows post' (and_then o f) go' total
bind_follows post post' f go go' (Ok x) total h k = subst (λ t. Follows post' (f x.0 x.1) go' t) (sym h.2) (k x.0 h.0 x.1 h.1)
bind_follows post post' f go go' (Err e) total h k = h

pub agree_bind : {A B : Type 0} {seen : Seen} {r : Reader A} {p p' : Pattern} {post : A → Seen → Type 0} {post' : B → Seen → Type 0}
    {f : A → Reader B}
    → Agrees seen r p post → ((a : A) (s : Seen) → post a s → Agrees s (f a) p' post') → Agrees seen (r >>= f) (p then p') post'
agree_bind {A} {B} {seen} {r} {p} {p'} {post} {post'} {f} h k = record {
  follows = λ q cut.
      subst (λ x. Follows post' (and_then (r cut) f) (first_fault q) (first_fault x seen cut)) (sym (then_assoc p p' q))
      (bind_follows post post' f (first_fault (p' then q)) (first_fault q) (r cut) _ (h.follows (p' then q) cut)
      (λ a s rest e. (k a s e).follows q rest));
}

-- what was seen stays
abbrev pub Same : {A : Type 0} → Seen → A → Seen → Type 0
Same seen a s = s ≡ seen

abbrev pub Any : {A : Type 0} → A → Seen → Type 0
Any a s = Unit {0}

pub agree_then : {A B : Type 0} {seen mine : Seen} {r : Reader A} {p p' : Pattern} {post' : B → Seen → Type 0} {f : A → Reader B}
    → Agrees seen r p (Same mine) → ((a : A) → Agrees mine (f a) p' post') → Agrees seen (r >>= f) (p then p') post'
agree_then {A} {B} {seen} {mine} {r} {p} {p'} {post'} {f} h k =
    agree_bind h (λ a s e. subst (λ x. Agrees x (f a) p' post') (sym e) (k a))

weaker_follows : {A : Type 0} (post post' : A → Seen → Type 0) (go : Seen → Cut → Option ReadFault) (o : Result (A × Cut) ReadFault)
    (total : Option ReadFault) → ((a : A) (s : Seen) → post a s → post' a s) → Follows post o go total → Follows post' o go total
weaker_follows post post' go (Ok x) total w h = (h.0, w x.0 h.0 h.1, h.2)
weaker_follows post post' go (Err e) total w h = h

pub agree_weaker : {A : Type 0} {seen : Seen} {r : Reader A} {p : Pattern} {post post' : A → Seen → Type 0} → Agrees seen r p post
    → ((a : A) (s : Seen) → post a s → post' a s) → Agrees seen r p post'
agree_weaker {A} {seen} {r} {p} {post} {post'} h w = record {
  follows = λ q cut. weaker_follows post post' (first_fault q) (r cut) _
      w (h.follows q cut);
}

pub agree_value : {A : Type 0} {seen : Seen} {a : A} {post : A → Seen → Type 0} → post a seen → Agrees seen (value a) Done post
agree_value {A} {seen} {a} {post} h = record { follows = λ q cut. (seen, h, refl) }

-- ---- one token

-- what the token represents, in addition to what the class states about it
abbrev pub Rules : {A : Type 0} → (A → Seen → Type 0) → Result A Cause → Result Seen Cause → Type 0
Rules post (Ok a) (Ok s) = post a s
Rules post (Err c) (Err d) = d ≡ c
Rules post (Ok a) (Err d) = ⊥
Rules post (Err c) (Ok s) = ⊥

module _ {A : Type 0} (post : A → Seen → Type 0) (seen : Seen) (c : Class) (judge : Token → Result A Cause) (rules : (t : Token)
    → Rules post (judge t) (verdict c t seen)) where
  -- if the class states this
  settled : (t : Token) (cut : Cut) (q : Pattern) (v : Result Seen Cause) → verdict c t seen ≡ v → (o : Result A Cause)
      → Rules post o v
      → Follows post (answered t o cut) (first_fault q) (judged (cond (is_of_class v) (Some (c, q)) None) t seen
      (λ p s. first_fault p s cut))
  settled t cut q (Ok s) is (Ok a) h = (s, h, ap (λ v. ruled t.line v (λ s. first_fault q s cut)) is)
  settled t cut q (Err causes.Statement) is (Err d) h = ap (λ cause. Some (fault_in t.line cause)) h
  settled t cut q (Err causes.Token) is (Err d) h = ap (λ v. ruled t.line v (λ s. first_fault q s cut)) is
      ∙ ap (λ cause. Some (fault_in t.line cause)) h
  settled t cut q (Err causes.RepeatedSignal) is (Err d) h = ap (λ v. ruled t.line v (λ s. first_fault q s cut)) is
      ∙ ap (λ cause. Some (fault_in t.line cause)) h
  settled t cut q (Err causes.MessagesFull) is (Err d) h = ap (λ v. ruled t.line v (λ s. first_fault q s cut)) is
      ∙ ap (λ cause. Some (fault_in t.line cause)) h
  settled t cut q (Err causes.SignalsFull) is (Err d) h = ap (λ v. ruled t.line v (λ s. first_fault q s cut)) is
      ∙ ap (λ cause. Some (fault_in t.line cause)) h
  settled t cut q (Err causes.Limit) is (Err d) h = ap (λ v. ruled t.line v (λ s. first_fault q s cut)) is
      ∙ ap (λ cause. Some (fault_in t.line cause)) h
  settled t cut q (Err causes.Memory) is (Err d) h = ap (λ v. ruled t.line v (λ s. first_fault q s cut)) is
      ∙ ap (λ cause. Some (fault_in t.line cause)) h
  settled t cut q (Err d) is (Ok a) h = elim h [ ]
  settled t cut q (Ok s) is (Err d) h = elim h [ ]

  one_follows : (q : Pattern) (cut : Cut) → Follows post (one judge cut) (first_fault q) (first_fault (c ⇒ q) seen cut)
  unfolding first_fault token_at
  one_follows q (End line) = refl
  one_follows q (Fault line) = refl
  one_follows q (t ▸ cut) = settled t cut q (verdict c t seen) refl (judge t) (rules t)

  pub agree_one : Agrees seen (one judge) (c ⇒ Done) post
  agree_one = record { follows = one_follows }

-- ---- what a pattern begins with

-- a token passes the test if it begins the pattern
pub record Begins (test : Token → Bool) (p : Pattern) : Type 0 where
  pub begins : (t : Token) (seen : Seen) → test t ≡ true → (x : Class × Pattern) × (after p t seen ≡ Some x)
  pub stops : (t : Token) (seen : Seen) → test t ≡ false → after p t seen ≡ None
  pub some : may_end p ≡ false

begins_if : (c : Class) (p : Pattern) (b : Bool) → b ≡ true → (x : Class × Pattern) × (cond b (Some (c, p)) None ≡ Some x)
begins_if c p true e = ((c, p), refl)
begins_if c p false e = absurd cc

stops_if : {X : Type 0} (x : X) (b : Bool) → b ≡ false → cond b (Some x) None ≡ None
stops_if x true e = absurd cc
stops_if x false e = refl

-- the class states what the test states
pub begins_one : (test : Token → Bool) (c : Class) (p : Pattern) → ((t : Token) (seen : Seen) → has c t seen ≡ test t)
    → Begins test (c ⇒ p)
begins_one test c p same = record {
  begins = λ t seen e. begins_if c p (has c t seen) (same t seen ∙ e);
  stops = λ t seen e. stops_if (c, p) (has c t seen) (same t seen ∙ e);
  some = refl;
}

begins_or : (x y : Bool) (a b : Left) (q : Pattern) → (x ≡ true → (z : Class × Pattern) × (a ≡ Some z)) → (x ≡ false → a ≡ None)
    → (y ≡ true → (z : Class × Pattern) × (b ≡ Some z))
    → (x || y) ≡ true → (z : Class × Pattern) × (first_of (left_then a q) (first_of (left_then b q) None) ≡ Some z)
begins_or true y a b q f g h e = let z = f refl in rw z.1 ((z.0.0, z.0.1 then q), refl)
begins_or false y a b q f g h e = let z = h e in rw (g refl, z.1) ((z.0.0, z.0.1 then q), refl)

stops_or : (x y : Bool) (a b : Left) (q : Pattern) → (x ≡ false → a ≡ None) → (y ≡ false → b ≡ None) → (x || y) ≡ false
    → first_of (left_then a q) (first_of (left_then b q) None) ≡ None
stops_or true y a b q g h e = absurd cc
stops_or false y a b q g h e = rw (g refl, h e) refl

pub begins_either : {test test' : Token → Bool} {a b : Pattern} (q : Pattern) → Begins test a → Begins test' b
    → Begins (λ t. test t || test' t) (Either a b q)
begins_either {test} {test'} {a} {b} q h k = record {
  begins = λ t seen e. rw (h.some, k.some) (begins_or (test t) (test' t) (after a t seen) (after b t seen) q (h.begins t seen)
      (h.stops t seen) (k.begins t seen) e);
  stops = λ t seen e. rw (h.some, k.some) (stops_or (test t) (test' t) (after a t seen) (after b t seen) q (h.stops t seen)
      (k.stops t seen) e);
  some = rw (h.some, k.some) refl;
}

pub begins_then : {test : Token → Bool} {a : Pattern} (b : Pattern) → Begins test a → Begins test (a then b)
begins_then {test} {a} b h = record {
  begins = λ t seen e. (let x = h.begins t seen e in ((x.0.0, x.0.1 then b), after_then a b t seen ∙ rw x.1 refl));
  stops = λ t seen e. after_then a b t seen ∙ rw (h.stops t seen e, h.some) refl;
  some = may_end-then a b ∙ rw h.some refl;
}

-- a pattern after one that may be missing
pub begins_perhaps : {test test' : Token → Bool} {a p : Pattern} → Begins test a → Begins test' p
    → Begins (λ t. test t || test' t) (Either a Done p)
begins_perhaps {test} {test'} {a} {p} h k = record {
  begins = λ t seen e. rw h.some (begins_after (test t) (test' t) (after a t seen) (after p t seen) p (h.begins t seen)
      (h.stops t seen) (k.begins t seen) e);
  stops = λ t seen e. rw h.some (stops_after (test t) (test' t) (after a t seen) (after p t seen) p (h.stops t seen)
      (k.stops t seen) e);
  some = rw k.some (no_end (may_end a || true));
}
  where
    no_end : (b : Bool) → (b && false) ≡ false
    no_end true = refl
    no_end false = refl

    begins_after : (x y : Bool) (a b : Left) (q : Pattern) → (x ≡ true → (z : Class × Pattern) × (a ≡ Some z))
        → (x ≡ false → a ≡ None) → (y ≡ true → (z : Class × Pattern) × (b ≡ Some z))
        → (x || y) ≡ true → (z : Class × Pattern) × (first_of (left_then a q) b ≡ Some z)
    begins_after true y a b q f g h e = let z = f refl in rw z.1 ((z.0.0, z.0.1 then q), refl)
    begins_after false y a b q f g h e = let z = h e in rw (g refl, z.1) (z.0, refl)

    stops_after : (x y : Bool) (a b : Left) (q : Pattern) → (x ≡ false → a ≡ None) → (y ≡ false → b ≡ None) → (x || y) ≡ false
        → first_of (left_then a q) b ≡ None
    stops_after true y a b q g h e = absurd cc
    stops_after false y a b q g h e = rw (g refl, h e) refl

-- the same test by other words
pub begins_as : {test test' : Token → Bool} {p : Pattern} → ((t : Token) → test t ≡ test' t) → Begins test p → Begins test' p
begins_as {test} {test'} {p} same h = record {
  begins = λ t seen e. h.begins t seen (same t ∙ e);
  stops = λ t seen e. h.stops t seen (same t ∙ e);
  some = h.some;
}

-- ---- repetition

repeat_goes : (a q : Pattern) (seen : Seen) (t : Token) (cut : Cut) (x : Class × Pattern) → after a t seen ≡ Some x
    → first_fault (Repeat a q) seen (t ▸ cut) ≡ first_fault (a then Repeat a q) seen (t ▸ cut)
unfolding first_fault
repeat_goes a q seen t cut x e =
    let one : after (Repeat a q) t seen ≡ Some (x.0, x.1 then Repeat a q) = rw e refl in
    let two : after (a then Repeat a q) t seen ≡ Some (x.0, x.1 then Repeat a q) = after_then a (Repeat a q) t seen ∙ rw e refl in
    ap (λ z. judged z t seen (λ p s. first_fault p s cut)) (one ∙ sym two)

repeat_stops : (a q : Pattern) (seen : Seen) (t : Token) (cut : Cut) → after a t seen ≡ None
    → first_fault (Repeat a q) seen (t ▸ cut) ≡ first_fault q seen (t ▸ cut)
unfolding first_fault
repeat_stops a q seen t cut e = ap (λ z. judged z t seen (λ p s. first_fault p s cut)) (rw e refl)

repeat_end : (a q : Pattern) (seen : Seen) (line : ℕ) → first_fault (Repeat a q) seen (End line) ≡ first_fault q seen (End line)
unfolding first_fault
repeat_end a q seen line = refl

repeat_fault : (a q : Pattern) (seen : Seen) (line : ℕ) → first_fault (Repeat a q) seen (Fault line) ≡ first_fault q seen
    (Fault line)
unfolding first_fault
repeat_fault a q seen line = refl

-- ---- one turn of a loop

rounds_end : {S : Type 0} (n : ℕ) (test : Token → Bool) (r : S → Reader S) (s : S) (line : ℕ) → rounds n test r s (End line)
    ≡ Ok (s, End line)
unfolding starts
rounds_end zero test r s line = refl
rounds_end (suc n) test r s line = refl

rounds_fault : {S : Type 0} (n : ℕ) (test : Token → Bool) (r : S → Reader S) (s : S) (line : ℕ) → rounds n test r s (Fault line)
    ≡ Ok (s, Fault line)
unfolding starts
rounds_fault zero test r s line = refl
rounds_fault (suc n) test r s line = refl

rounds_go : {S : Type 0} (n : ℕ) (test : Token → Bool) (r : S → Reader S) (s : S) (t : Token) (cut : Cut) → test t ≡ true
    → rounds (suc n) test r s (t ▸ cut) ≡ and_then (r s (t ▸ cut)) (rounds n test r)
unfolding starts
rounds_go n test r s t cut e = rw e refl

rounds_stop : {S : Type 0} (n : ℕ) (test : Token → Bool) (r : S → Reader S) (s : S) (t : Token) (cut : Cut) → test t ≡ false
    → rounds (suc n) test r s (t ▸ cut) ≡ Ok (s, t ▸ cut)
unfolding starts
rounds_stop n test r s t cut e = rw e refl

module _ {S : Type 0} (test : Token → Bool) (r : S → Reader S) (shrinks : (s : S) → Shrinks (r s)) (p : Pattern)
    (begins : Begins test p)
    (Inv : S → Seen → Type 0) (agrees : (s : S) (seen : Seen) (q : Pattern) (t : Token) (cut : Cut) → Inv s seen → test t ≡ true
    → Follows Inv (r s (t ▸ cut)) (first_fault q) (first_fault (p then q) seen (t ▸ cut))) where
  -- this many turns follow
  abbrev Rounds : ℕ → Pattern → Type 0
  Rounds n q = (s : S) (seen : Seen) (cut : Cut) → size cut ≤ n → Inv s seen → Follows Inv (rounds n test r s cut) (first_fault q)
      (first_fault (Repeat p q) seen cut)

  round_follows : (n : ℕ) (q : Pattern) → Rounds n q → (s : S) (seen : Seen) (cut : Cut) → size cut ≤ suc n
      → (o : Result (S × Cut) ReadFault) → r s cut ≡ o
      → Follows Inv o (first_fault (Repeat p q)) (first_fault (p then Repeat p q) seen cut)
      → Follows Inv (and_then o (rounds n test r)) (first_fault q) (first_fault (p then Repeat p q) seen cut)
  round_follows n q below s seen cut le (Err e) is h = h
  round_follows n q below s seen cut le (Ok x) is h =
      let less = (shrinks s).less cut x is in
      subst (λ total. Follows Inv (rounds n test r x.0 x.1) (first_fault q) total) (sym h.2)
      (below x.0 h.0 x.1 (omega (arith, le, less)) h.1)

  rounds_follow : (n : ℕ) (q : Pattern) → Rounds n q
  rounds_follow n q s seen (End line) le inv = rw (rounds_end n test r s line) (seen, inv, repeat_end p q seen line)
  rounds_follow n q s seen (Fault line) le inv = rw (rounds_fault n test r s line) (seen, inv, repeat_fault p q seen line)
  rounds_follow zero q s seen (t ▸ cut) le inv = absurd (omega (arith, le))
  rounds_follow (suc n) q s seen (t ▸ cut) le inv =
      elim (cases_Bool (test t)) [
        | inr stops ↦ rw (rounds_stop n test r s t cut stops) (seen, inv, repeat_stops p q seen t cut (begins.stops t seen stops))
        | inl goes ↦
            let x = begins.begins t seen goes in
            rw (rounds_go n test r s t cut goes, repeat_goes p q seen t cut x.0 x.1)
            (round_follows n q (rounds_follow n q) s seen (t ▸ cut) le (r s (t ▸ cut)) refl (agrees s seen (Repeat p q) t cut inv
            goes))
      ]

  pub agree_repeated : (s : S) (seen : Seen) → Inv s seen → Agrees seen (repeated test r s) (Repeat p Done) Inv
  unfolding repeated
  agree_repeated s seen inv = record { follows = λ q cut. rounds_follow (size cut) q s seen cut (omega arith) inv }

-- the same, if what was seen stays
pub agree_same : {S : Type 0} {seen : Seen} {p : Pattern} (test : Token → Bool) (r : S → Reader S) → ((s : S) → Shrinks (r s))
    → Begins test p → ((s : S) → Agrees seen (r s) p (Same seen)) → (s : S)
    → Agrees seen (repeated test r s) (Repeat p Done) (Same seen)
agree_same {S} {seen} {p} test r shrinks begins h s =
    agree_repeated test r shrinks p begins (Same seen) (λ s mine q t cut e goes. (subst (λ x. Agrees x (r s) p (Same seen)) (sym e)
    (h s)).follows q (t ▸ cut)) s seen refl

-- ---- choice

pub either_first : (a b q : Pattern) (seen : Seen) (t : Token) (cut : Cut) (x : Class × Pattern) → after a t seen ≡ Some x
    → first_fault (Either a b q) seen (t ▸ cut) ≡ first_fault (a then q) seen (t ▸ cut)
unfolding first_fault
either_first a b q seen t cut x e =
    let one : after (Either a b q) t seen ≡ Some (x.0, x.1 then q) = rw e refl in
    let two : after (a then q) t seen ≡ Some (x.0, x.1 then q) = after_then a q t seen ∙ rw e refl in
    ap (λ z. judged z t seen (λ p s. first_fault p s cut)) (one ∙ sym two)

pub either_second : (a b q : Pattern) (seen : Seen) (t : Token) (cut : Cut) → after a t seen ≡ None → may_end a ≡ false
    → first_fault (Either a b q) seen (t ▸ cut) ≡ first_fault (b then q) seen (t ▸ cut)
unfolding first_fault
either_second a b q seen t cut e some =
    let one : after (Either a b q) t seen ≡ first_of (left_then (after b t seen) q) (cond (may_end b) (after q t seen) None) =
    rw (e, some) refl in
    ap (λ z. judged z t seen (λ p s. first_fault p s cut)) (one ∙ sym (after_then b q t seen))

pub either_end : (a b q : Pattern) (seen : Seen) (line : ℕ) → may_end a ≡ false → first_fault (Either a b q) seen (End line)
    ≡ first_fault (b then q) seen (End line)
unfolding first_fault
either_end a b q seen line some = rw (may_end-then b q, some) refl

pub either_fault : (a b q : Pattern) (seen : Seen) (line : ℕ) → first_fault (Either a b q) seen (Fault line)
    ≡ first_fault (b then q) seen (Fault line)
unfolding first_fault
either_fault a b q seen line = refl

choose_end : {A : Type 0} (test : Token → Bool) (r s : Reader A) (line : ℕ) → choose test r s (End line) ≡ s (End line)
unfolding starts
choose_end test r s line = refl

choose_fault : {A : Type 0} (test : Token → Bool) (r s : Reader A) (line : ℕ) → choose test r s (Fault line) ≡ s (Fault line)
unfolding starts
choose_fault test r s line = refl

choose_go : {A : Type 0} (test : Token → Bool) (r s : Reader A) (t : Token) (cut : Cut) → test t ≡ true → choose test r s (t ▸ cut)
    ≡ r (t ▸ cut)
unfolding starts
choose_go test r s t cut e = rw e refl

choose_stop : {A : Type 0} (test : Token → Bool) (r s : Reader A) (t : Token) (cut : Cut) → test t ≡ false
    → choose test r s (t ▸ cut) ≡ s (t ▸ cut)
unfolding starts
choose_stop test r s t cut e = rw e refl

-- the first of two readers, or the second, and what is read after either
pub agree_choose_then : {A B : Type 0} {seen : Seen} (r s : Reader A) (f : A → Reader B) {a b q : Pattern} {post : B → Seen
    → Type 0} (test : Token → Bool)
    → Begins test a → Agrees seen (r >>= f) (a then q) post → Agrees seen (s >>= f) (b then q) post
    → Agrees seen (choose test r s >>= f) (Either a b q) post
agree_choose_then {A} {B} {seen} r s f {a} {b} {q} {post} test begins h k = record { follows = chosen }
  where
    first : (p : Pattern) → (Either a b q then p) ≡ Either a b (q then p)
    first p = refl

    chosen : (p : Pattern) (cut : Cut) → Follows post ((choose test r s >>= f) cut) (first_fault p)
        (first_fault (Either a b (q then p)) seen cut)
    chosen p (End line) =
        rw (choose_end test r s line, either_end a b (q then p) seen line begins.some, ← then_assoc b q p) (k.follows p (End line))
    chosen p (Fault line) =
        rw (choose_fault test r s line, either_fault a b (q then p) seen line, ← then_assoc b q p) (k.follows p (Fault line))
    chosen p (t ▸ cut) =
        elim (cases_Bool (test t)) [
          | inl goes ↦ let x = begins.begins t seen goes in rw (
            choose_go test r s t cut goes,
            either_first a b (q then p) seen t cut x.0 x.1,
            ← then_assoc a q p,
          ) (h.follows p (t ▸ cut))
          | inr stops ↦ rw (
            choose_stop test r s t cut stops,
            either_second a b (q then p) seen t cut (begins.stops t seen stops)
                begins.some,
            ← then_assoc b q p,
          ) (k.follows p (t ▸ cut))
        ]

-- the first of two readers, or the second
pub agree_choose : {A : Type 0} {seen : Seen} {r s : Reader A} {a b : Pattern} {post : A → Seen → Type 0} (test : Token → Bool)
    → Begins test a → Agrees seen r a post → Agrees seen s b post → Agrees seen (choose test r s) (Either a b Done) post
agree_choose {A} {seen} {r} {s} {a} {b} {post} test begins h k = record { follows = chosen }
  where
    chosen : (q : Pattern) (cut : Cut) → Follows post (choose test r s cut) (first_fault q) (first_fault (Either a b q) seen cut)
    chosen q (End line) = rw (choose_end test r s line, either_end a b q seen line begins.some) (k.follows q (End line))
    chosen q (Fault line) = rw (choose_fault test r s line, either_fault a b q seen line) (k.follows q (Fault line))
    chosen q (t ▸ cut) =
        elim (cases_Bool (test t)) [
          | inl goes ↦ let x = begins.begins t seen goes in rw (
            choose_go test r s t cut goes,
            either_first a b q seen t cut x.0 x.1,
          ) (h.follows q (t ▸ cut))
          | inr stops ↦ rw (
            choose_stop test r s t cut stops,
            either_second a b q seen t cut (begins.stops t seen stops)
                begins.some,
          ) (k.follows q (t ▸ cut))
        ]

-- ---- whole texts

-- what was read has no fault, and the fault that was met is the first
abbrev pub Judges : {A : Type 0} → Result (A × Cut) ReadFault → Option ReadFault → Type 0
Judges (Ok x) fault = fault ≡ None
Judges (Err e) fault = fault ≡ Some e
