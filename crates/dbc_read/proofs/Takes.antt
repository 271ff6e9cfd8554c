-- What is spelled is read.
pub mod Kinds
pub mod Rows
pub mod Notes
pub mod Tags
pub mod Messages
pub mod Kept
pub mod Adding
pub mod Fits
pub mod Statements
pub mod Databases
pub mod Alone
use Rattle.std.proofs.Common.{◌≡◌, ℕ, Bool, true, false, cond, List, [], ◌∷◌, ◌++◌, Result, Ok, refl, sym, ap, subst, ◌∙◌}
use Rattle.std.proofs.Common.{append_assoc, append-nil}
use Rattle.std.specs.Prelude.{All}
use Rattle.std.specs.List.{flat_map}
use Rattle.std.proofs.lemmas.List.Elements.{All-head, All-tail}
use Rattle.dbc_tokens.specs.declared.fault.Cause.{Cause}
use Rattle.dbc_tokens.specs.declared.fault.ReadFault.{ReadFault}
use Rattle.dbc_tokens.specs.Tokens.{Token, Cut}
use Rattle.dbc_reader.specs.Forms.{Part, SaysPart, IsOne, Spelled, ◌▸▸◌}
use Rattle.dbc_reader.specs.inner.Readers.{Reader, and_then, ◌>>=◌, value, token_at, answered, one, starts, choose, repeated}
use Rattle.dbc_reader.proofs.Sound.{all_then_twice}
use Rattle.dbc_reader.proofs.Rounds.{Shrinks, goes_on, ends}

-- ---- parts, one list of them after the other

pub record Halves (xs ys : List Part) (tokens : List Token) : Type 0 where
  pub front : List Token
  pub rest : List Token
  pub parts : tokens ≡ front ++ rest
  pub first : Spelled xs front
  pub second : Spelled ys rest

pub halves : (xs ys : List Part) (tokens : List Token) → Spelled (xs ++ ys) tokens → Halves xs ys tokens
halves [] ys tokens h = record { front = []; rest = tokens; parts = refl; first = refl; second = h }
halves (x ∷ xs) ys tokens (front, rest, parts, means, others) =
    let below = halves xs ys rest others in
    record {
      front = front ++ below.front;
      rest = below.rest;
      parts = parts ∙ ap (λ (t : List Token). front ++ t) below.parts ∙ sym (append_assoc front below.front below.rest);
      first = (front, below.front, refl, means, below.first);
      second = below.second;
    }

-- ---- readers

-- nothing is required of what is after
abbrev pub Anything : Cut → Type 0
Anything cut = Unit {0}

-- if tokens that spell these parts are here, followed by what may be there, this is read and those remain
pub record Takes {A : Type 0} (r : Reader A) (a : A) (parts : List Part) (May : Cut → Type 0) : Type 0 where
  pub takes : (tokens : List Token) (cut : Cut) → Spelled parts tokens → May cut → r (tokens ▸▸ cut) ≡ Ok (a, cut)

-- tokens that spell these parts may be before what may be after them
pub record Allows (parts : List Part) (May Before : Cut → Type 0) : Type 0 where
  pub allows : (tokens : List Token) (cut : Cut) → Spelled parts tokens → May cut → Before (tokens ▸▸ cut)

pub takes_value : {A : Type 0} {a : A} → Takes (value a) a [] Anything
takes_value {A} {a} = record { takes = λ tokens cut spelled may. ap (λ (t : List Token). value a (t ▸▸ cut)) spelled }

and_then-is : {A B : Type 0} (o : Result (A × Cut) ReadFault) (f : A → Reader B) (a : A) (cut : Cut) → o ≡ Ok (a, cut)
    → and_then o f ≡ f a cut
and_then-is {A} o f a cut e = ap (λ (o : Result (A × Cut) ReadFault). and_then o f) e

pub takes_then : {A B : Type 0} {r : Reader A} {a : A} {b : B} {xs ys : List Part} {May Before : Cut → Type 0} (f : A → Reader B)
    → Takes r a xs Before → Allows ys May Before → Takes (f a) b ys May → Takes (r >>= f) b (xs ++ ys) May
takes_then {A} {B} {r} {a} {b} {xs} {ys} {May} {Before} f h allow k = record {
  takes = λ tokens cut spelled may. (
      let half = halves xs ys tokens spelled in
      let one = h.takes half.front (half.rest ▸▸ cut) half.first (allow.allows half.rest cut half.second may) in
      ap (λ (t : List Token). (r >>= f) (t ▸▸ cut)) half.parts ∙ ap (r >>= f) (all_then_twice half.front half.rest cut)
      ∙ and_then-is (r (half.front ▸▸ (half.rest ▸▸ cut))) f a (half.rest ▸▸ cut) one ∙ k.takes half.rest cut half.second may);
}

pub allows_anything : {parts : List Part} {May : Cut → Type 0} → Allows parts May Anything
allows_anything {parts} {May} = record { allows = λ tokens cut spelled may. tt }

-- if anything may be after the first
pub takes_next : {A B : Type 0} {r : Reader A} {a : A} {b : B} {xs ys : List Part} {May : Cut → Type 0} (f : A → Reader B)
    → Takes r a xs Anything → Takes (f a) b ys May → Takes (r >>= f) b (xs ++ ys) May
takes_next {A} {B} {r} {a} {b} {xs} {ys} {May} f h k = takes_then f h allows_anything k

-- if nothing is spelled after the first
pub takes_last : {A B : Type 0} {r : Reader A} {a : A} {b : B} {parts : List Part} {May : Cut → Type 0} (f : A → Reader B)
    → Takes r a parts May → Takes (f a) b [] Anything → Takes (r >>= f) b parts May
takes_last {A} {B} {r} {a} {b} {parts} {May} f h k = record {
  takes = λ tokens cut spelled may. and_then-is (r (tokens ▸▸ cut)) f a cut (h.takes tokens cut spelled may)
      ∙ k.takes [] cut refl tt;
}

-- the same parts by other words
pub takes_as : {A : Type 0} {r : Reader A} {a : A} {xs ys : List Part} {May : Cut → Type 0} → xs ≡ ys → Takes r a ys May
    → Takes r a xs May
takes_as {A} {r} {a} {xs} {ys} {May} same h =
    record {
      takes = λ tokens cut spelled may. h.takes tokens cut (subst (λ (parts : List Part). Spelled parts tokens) same spelled)
          may;
    }

-- if less may be after
pub takes_where : {A : Type 0} {r : Reader A} {a : A} {parts : List Part} {May Before : Cut → Type 0} → Takes r a parts Before
    → ((cut : Cut) → May cut → Before cut) → Takes r a parts May
takes_where {A} {r} {a} {parts} {May} {Before} h weaker =
    record { takes = λ tokens cut spelled may. h.takes tokens cut spelled (weaker cut may) }

-- ---- one token

-- one part alone
pub alone : (part : Part) (tokens : List Token) → Spelled (part ∷ []) tokens → SaysPart part tokens
alone part tokens (front, rest, parts, means, none) =
    subst (SaysPart part) (sym (parts ∙ ap (λ (t : List Token). front ++ t) none ∙ append-nil front)) means

module _ {A : Type 0} (judge : Token → Result A Cause) (a : A) (P : List ℕ → Type 0) (is : (t : Token) → P t.bytes → judge t ≡ Ok a)
  where
    one_token : (tokens : List Token) (cut : Cut) → IsOne P tokens → one judge (tokens ▸▸ cut) ≡ Ok (a, cut)
    unfolding token_at
    one_token tokens cut (t, same, so) = ap (λ (ts : List Token). one judge (ts ▸▸ cut)) same
        ∙ ap (λ (o : Result A Cause). answered t o cut) (is t so)

    -- a part that is one token
    pub takes_one : (part : Part) → ((tokens : List Token) → SaysPart part tokens → IsOne P tokens)
        → Takes (one judge) a (part ∷ []) Anything
    takes_one part so = record { takes = λ tokens cut spelled may. one_token tokens cut (so tokens (alone part tokens spelled)) }

-- ---- the first token

-- what spells these parts begins with a token that passes the test, or with one that doesn't
pub record Opens (test : Token → Bool) (passes : Bool) (parts : List Part) : Type 0 where
  pub opens : (tokens : List Token) (cut : Cut) → Spelled parts tokens → starts test (tokens ▸▸ cut) ≡ passes

-- the same for what is after
abbrev pub Stops : (Token → Bool) → Cut → Type 0
Stops test cut = starts test cut ≡ false

first_occurs : (test : Token → Bool) (passes : Bool) (part : Part) (parts : List Part) (P : List ℕ → Type 0)
    → ((tokens : List Token) → SaysPart part tokens → IsOne P tokens) → ((t : Token) → P t.bytes → test t ≡ passes)
    → (tokens : List Token) (cut : Cut) → Spelled (part ∷ parts) tokens → starts test (tokens ▸▸ cut) ≡ passes
unfolding starts
first_occurs test passes part parts P so is tokens cut (front, rest, same, means, others) =
    let first = so front means in
    ap (λ (t : List Token). starts test (t ▸▸ cut)) (same ∙ ap (λ (t : List Token). t ++ rest) first.1) ∙ is first.0 first.2

pub opens_one : {test : Token → Bool} {passes : Bool} {parts : List Part} (part : Part) (P : List ℕ → Type 0)
    → ((tokens : List Token) → SaysPart part tokens → IsOne P tokens) → ((t : Token) → P t.bytes → test t ≡ passes)
    → Opens test passes (part ∷ parts)
opens_one {test} {passes} {parts} part P so is = record { opens = first_occurs test passes part parts P so is }

pub opens_as : {test : Token → Bool} {passes : Bool} {xs ys : List Part} → xs ≡ ys → Opens test passes ys → Opens test passes xs
opens_as {test} {passes} {xs} {ys} same h =
    record { opens = λ tokens cut spelled. h.opens tokens cut (subst (λ (parts : List Part). Spelled parts tokens) same spelled) }

pub allows_stop : {test : Token → Bool} {parts : List Part} {May : Cut → Type 0} → Opens test false parts
    → Allows parts May (Stops test)
allows_stop {test} {parts} {May} h = record { allows = λ tokens cut spelled may. h.opens tokens cut spelled }

pub allows_as : {xs ys : List Part} {May Before : Cut → Type 0} → xs ≡ ys → Allows ys May Before → Allows xs May Before
allows_as {xs} {ys} {May} {Before} same h =
    record {
      allows = λ tokens cut spelled may. h.allows tokens cut (subst (λ (parts : List Part). Spelled parts tokens) same
          spelled) may;
    }

-- two things that may be there
pub allows_both : {parts : List Part} {May One Two : Cut → Type 0} → Allows parts May One → Allows parts May Two
    → Allows parts May (λ cut. One cut × Two cut)
allows_both {parts} {May} {One} {Two} h k = record {
  allows = λ tokens cut spelled may. (
    h.allows tokens cut spelled may,
    k.allows tokens cut spelled may,
  );
}

-- ---- choice

pub chosen-first : {A : Type 0} (b : Bool) (x y z : Result (A × Cut) ReadFault) → b ≡ true → x ≡ z → cond b x y ≡ z
chosen-first b x y z e same = rw e same

pub chosen-second : {A : Type 0} (b : Bool) (x y z : Result (A × Cut) ReadFault) → b ≡ false → y ≡ z → cond b x y ≡ z
chosen-second b x y z e same = rw e same

pub takes_first : {A : Type 0} {test : Token → Bool} {r : Reader A} {a : A} {parts : List Part} {May : Cut → Type 0} (s : Reader A)
    → Opens test true parts → Takes r a parts May → Takes (choose test r s) a parts May
takes_first {A} {test} {r} {a} {parts} {May} s opens h = record {
  takes = λ tokens cut spelled may. chosen-first (starts test (tokens ▸▸ cut)) (r (tokens ▸▸ cut)) (s (tokens ▸▸ cut)) _
      (opens.opens tokens cut spelled) (h.takes tokens cut spelled may);
}

pub takes_second : {A : Type 0} {test : Token → Bool} {s : Reader A} {a : A} {parts : List Part} {May : Cut → Type 0} (r : Reader A)
    → Opens test false parts → Takes s a parts May → Takes (choose test r s) a parts May
takes_second {A} {test} {s} {a} {parts} {May} r opens h = record {
  takes = λ tokens cut spelled may. chosen-second (starts test (tokens ▸▸ cut)) (r (tokens ▸▸ cut)) (s (tokens ▸▸ cut)) _
      (opens.opens tokens cut spelled) (h.takes tokens cut spelled may);
}

-- if nothing is spelled, by what is after
pub takes_none : {A : Type 0} {s : Reader A} {a : A} {May : Cut → Type 0} (test : Token → Bool) (r : Reader A)
    → ((cut : Cut) → May cut → Stops test cut) → Takes s a [] May → Takes (choose test r s) a [] May
takes_none {A} {s} {a} {May} test r stops h = record {
  takes = λ tokens cut spelled may. chosen-second (starts test (tokens ▸▸ cut)) (r (tokens ▸▸ cut)) (s (tokens ▸▸ cut)) _
      (ap (λ (t : List Token). starts test (t ▸▸ cut)) spelled ∙ stops cut may) (h.takes tokens cut spelled may);
}

-- ---- repetition

-- all items put after what there is, one after another
abbrev pub all_put : {A S : Type 0} → (S → A → S) → S → List A → S
all_put put s [] = s
all_put put s (a ∷ more) = all_put put (put s a) more

-- one turn reads one item, spelled so, and appends it to those before; after each item may be the next, or the end
module _ {A S : Type 0} (test : Token → Bool) (r : S → Reader S) (shrinks : (s : S) → Shrinks (r s)) (part : A → List Part) (put : S
    → A → S) (Fits : S → List A → Type 0) (May Last : Cut → Type 0)
    (round : (s : S) (a : A) (more : List A) → Fits s (a ∷ more) → Takes (r s) (put s a) (part a) May)
    (fits : (s : S) (a : A) (more : List A) → Fits s (a ∷ more) → Fits (put s a) more)
    (opens : (s : S) (a : A) (more : List A) → Fits s (a ∷ more) → Opens test true (part a))
    (allows : (s : S) (a : A) (more : List A) → Fits s (a ∷ more) → Allows (part a) Anything May)
    (last : (cut : Cut) → Last cut → May cut × Stops test cut) where
  may_follow : (s : S) (more : List A) (tokens : List Token) (cut : Cut) → Fits s more → Spelled (flat_map part more) tokens
      → Last cut → May (tokens ▸▸ cut)
  may_follow s [] tokens cut fit spelled end = subst (λ (t : List Token). May (t ▸▸ cut)) (sym spelled) (last cut end).0
  may_follow s (a ∷ more) tokens cut fit spelled end =
      let half = halves (part a) (flat_map part more) tokens spelled in
      subst May (sym (ap (λ (t : List Token). t ▸▸ cut) half.parts ∙ all_then_twice half.front half.rest cut))
      ((allows s a more fit).allows half.front (half.rest ▸▸ cut) half.first tt)

  all_taken : (s : S) (more : List A) (tokens : List Token) (cut : Cut) → Fits s more → Spelled (flat_map part more) tokens
      → Last cut → repeated test r s (tokens ▸▸ cut) ≡ Ok (all_put put s more, cut)
  all_taken s [] tokens cut fit spelled end =
      ap (λ (t : List Token). repeated test r s (t ▸▸ cut)) spelled ∙ ends test r shrinks s cut (repeated test r s cut)
      (last cut end).1 refl
  all_taken s (a ∷ more) tokens cut fit spelled end =
      let half = halves (part a) (flat_map part more) tokens spelled in
      let following = half.rest ▸▸ cut in
      let now = fits s a more fit in
      let taken = (round s a more fit).takes half.front following half.first (may_follow (put s a) more half.rest cut now
      half.second
      end) in
      ap (λ (t : List Token). repeated test r s (t ▸▸ cut)) half.parts
      ∙ ap (repeated test r s) (all_then_twice half.front half.rest cut)
      ∙ sym (goes_on test r shrinks s (put s a) (half.front ▸▸ following) following (repeated test r s (half.front ▸▸ following))
      ((opens s a more fit).opens half.front following half.first) taken refl)
      ∙ all_taken (put s a) more half.rest cut now half.second end

  pub takes_repeated : (s : S) (more : List A) → Fits s more → Takes (repeated test r s) (all_put put s more) (flat_map part more)
      Last
  takes_repeated s more fit = record { takes = λ tokens cut spelled end. all_taken s more tokens cut fit spelled end }

-- ---- lists that grow

abbrev pub pushed : {A : Type 0} → List A → A → List A
pushed list a = list ++ a ∷ []

pub all_pushed : {A : Type 0} (list more : List A) → all_put pushed list more ≡ list ++ more
all_pushed list [] = sym (append-nil list)
all_pushed list (a ∷ more) = all_pushed (list ++ a ∷ []) more ∙ append_assoc list (a ∷ []) more

module _ {A : Type 0} (test : Token → Bool) (r : List A → Reader (List A)) (shrinks : (list : List A) → Shrinks (r list)) (part : A
    → List Part) (P : A → Type 0)
    (round : (list : List A) (a : A) → P a → Takes (r list) (list ++ a ∷ []) (part a) Anything) (opens : (a : A) → P a
    → Opens test true (part a)) where
  AllAre : List A → List A → Type 0
  AllAre list more = All P more

  pub takes_list : (list more : List A) → All P more → Takes (repeated test r list) (list ++ more) (flat_map part more) (Stops test)
  unfolding AllAre
  takes_list list more are =
      subst (λ (made : List A). Takes (repeated test r list) made (flat_map part more) (Stops test)) (all_pushed list more)
      (takes_repeated test r shrinks part pushed AllAre Anything (Stops test) (λ list a more are. round list a
      (All-head P a more are)) (λ list a more are. All-tail P a more are) (λ list a more are. opens a (All-head P a more are))
      (λ list a more are. allows_anything) (λ cut stops. (tt, stops)) list more are)
