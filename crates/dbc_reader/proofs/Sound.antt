-- What was read is spelled so.
pub mod Kinds
pub mod Rows
pub mod Notes
pub mod Tags
pub mod Messages
pub mod Adding
pub mod Starts
pub mod Located
pub mod Databases
pub mod Matched
pub mod Statements
use Rattle.std.proofs.Common.{◌≡◌, ℕ, zero, suc, Bool, true, false, cond, List, [], ◌∷◌, ◌++◌, Result, Ok, Err, refl, sym, ap}
use Rattle.std.proofs.Common.{subst, ◌∙◌, append_assoc, append-nil}
use Rattle.std.specs.List.{flat_map}
use Rattle.std.proofs.lemmas.List.Concat.{flat_map-append}
use Rattle.dbc_tokens.specs.declared.fault.Cause.{Cause}
use Rattle.dbc_tokens.specs.declared.fault.ReadFault.{ReadFault}
use Rattle.dbc_tokens.specs.Tokens.{Token, Cut, End, Fault, ◌▸◌}
use Rattle.dbc_reader.specs.Forms.{Part, SaysPart, Spelled, ◌▸▸◌}
use Rattle.dbc_reader.specs.inner.Readers.{Reader, and_then, ◌>>=◌, value, token_at, answered, one, starts, choose, size, rounds}
use Rattle.dbc_reader.specs.inner.Readers.{repeated}
use Rattle.dbc_reader.proofs.Rounds.{and_then_ok, ok_is}

pub all_then_twice : (u v : List Token) (cut : Cut) → ((u ++ v) ▸▸ cut) ≡ (u ▸▸ (v ▸▸ cut))
all_then_twice [] v cut = refl
all_then_twice (t ∷ u) v cut = ap (λ c. t ▸ c) (all_then_twice u v cut)

pub spelled_both : (xs ys : List Part) (u v : List Token) → Spelled xs u → Spelled ys v → Spelled (xs ++ ys) (u ++ v)
spelled_both [] ys u v h k = subst (λ (w : List Token). Spelled ys (w ++ v)) (sym h) k
spelled_both (x ∷ xs) ys u v (front, rest, parts, means, others) k =
    (front, rest ++ v, ap (λ (t : List Token). t ++ v) parts ∙ append_assoc front rest v, means, spelled_both xs ys rest v others k)

-- tokens that spell the parts are here, up to the rest
pub record Spelt (parts : List Part) (cut rest : Cut) : Type 0 where
  pub front : List Token
  pub occurs : cut ≡ (front ▸▸ rest)
  pub spelled : Spelled parts front

pub spelt_both : {xs ys : List Part} {a b c : Cut} → Spelt xs a b → Spelt ys b c → Spelt (xs ++ ys) a c
spelt_both {xs} {ys} {a} {b} {c} h k = record {
  front = h.front ++ k.front;
  occurs = h.occurs ∙ ap (λ t. h.front ▸▸ t) k.occurs ∙ sym (all_then_twice h.front k.front c);
  spelled = spelled_both xs ys h.front k.front h.spelled k.spelled;
}

pub spelt_none : (cut : Cut) → Spelt [] cut cut
spelt_none cut = record { front = []; occurs = refl; spelled = refl }

pub record Sound {A : Type 0} (r : Reader A) (form : A → List Part) : Type 0 where
  pub spelt : (cut : Cut) (x : A × Cut) → r cut ≡ Ok x → Spelt (form x.0) cut x.1

-- after these parts what is read completes the form
pub record SoundAt {B : Type 0} (before : List Part) (r : Reader B) (form : B → List Part) : Type 0 where
  pub spelt : (cut : Cut) (x : B × Cut) → r cut ≡ Ok x → (parts : List Part) × (form x.0 ≡ before ++ parts) × Spelt parts cut x.1

-- an answer
abbrev pub read : {A : Type 0} → A → Result A ReadFault
read x = Ok x

pub sound_then : {A B : Type 0} {before : List Part} {r : Reader A} {f : A → Reader B} {parts : A → List Part} {form : B
    → List Part}
    → Sound r parts → ((a : A) → SoundAt (before ++ parts a) (f a) form) → SoundAt before (r >>= f) form
sound_then {A} {B} {before} {r} {f} {parts} {form} h k = record {
  spelt = λ cut y e. (
      let x = and_then_ok (r cut) f y e in
      let one = h.spelt cut x.0 x.1 in
      let two = (k x.0.0).spelt x.0.1 y x.2 in
      (parts x.0.0 ++ two.0, two.1 ∙ append_assoc before (parts x.0.0) two.0, spelt_both one two.2));
}

pub sound_value : {B : Type 0} {before : List Part} {b : B} {form : B → List Part} → form b ≡ before → SoundAt before (value b) form
sound_value {B} {before} {b} {form} e = record {
  spelt = λ cut x is.
      subst (λ (y : B × Cut). (parts : List Part) × (form y.0 ≡ before ++ parts) × Spelt parts cut y.1) (ok_is (b, cut) x is)
      ([], e ∙ sym (append-nil before), spelt_none cut);
}

pub sound_start : {B : Type 0} {r : Reader B} {form : B → List Part} → SoundAt [] r form → Sound r form
sound_start {B} {r} {form} h =
    record { spelt = λ cut x e. (let y = h.spelt cut x e in subst (λ parts. Spelt parts cut x.1) (sym y.1) y.2) }

-- ---- one token

module _ {A : Type 0} (judge : Token → Result A Cause) (part : A → Part) (means : (t : Token) (a : A) → judge t ≡ Ok a
    → SaysPart (part a) (t ∷ [])) where
  answered_spelt : (t : Token) (cut : Cut) (o : Result A Cause) (x : A × Cut) → judge t ≡ o → answered t o cut ≡ Ok x
      → Spelt (part x.0 ∷ []) (t ▸ cut) x.1
  answered_spelt t cut (Ok a) x is e =
      subst (λ (y : A × Cut). Spelt (part y.0 ∷ []) (t ▸ cut) y.1) (ok_is (a, cut) x e)
      (record { front = t ∷ []; occurs = refl; spelled = (t ∷ [], [], refl, means t a is, refl) })
  answered_spelt t cut (Err cause) x is e = absurd cc

  one_spelt : (cut : Cut) (x : A × Cut) → one judge cut ≡ Ok x → Spelt (part x.0 ∷ []) cut x.1
  unfolding token_at
  one_spelt (End line) x e = absurd cc
  one_spelt (Fault line) x e = absurd cc
  one_spelt (t ▸ cut) x e = answered_spelt t cut (judge t) x refl e

  pub sound_one : Sound (one judge) (λ a. part a ∷ [])
  sound_one = record { spelt = one_spelt }

-- ---- choice

chosen_spelt : {A : Type 0} {r s : Reader A} {form : A → List Part} → Sound r form → Sound s form → (b : Bool) (cut : Cut) (x : A
    × Cut) → cond b (r cut) (s cut) ≡ Ok x → Spelt (form x.0) cut x.1
chosen_spelt h k true cut x e = h.spelt cut x e
chosen_spelt h k false cut x e = k.spelt cut x e

pub sound_choose : {A : Type 0} (test : Token → Bool) {r s : Reader A} {form : A → List Part} → Sound r form → Sound s form
    → Sound (choose test r s) form
sound_choose {A} test {r} {s} {form} h k = record { spelt = λ cut x e. chosen_spelt h k (starts test cut) cut x e }

-- ---- lists that grow

-- what is read after these is put after them
pub record Grows {A : Type 0} (r : List A → Reader (List A)) (part : A → List Part) : Type 0 where
  pub spelt : (before : List A) (cut : Cut) (x : List A × Cut) → r before cut ≡ Ok x → (more : List A) × (x.0 ≡ before ++ more)
      × Spelt (flat_map part more) cut x.1

-- one item more
pub grows_by_one : {A : Type 0} {one_at : Reader A} {part : A → List Part} → Sound one_at part
    → Grows (λ before. one_at >>= λ a. value (before ++ a ∷ [])) part
grows_by_one {A} {one_at} {part} h = record {
  spelt = λ before cut x e. (
      let y = and_then_ok (one_at cut) _ x e in
      let is = ok_is (before ++ y.0.0 ∷ [], y.0.1) x y.2 in
      let one = h.spelt cut y.0 y.1 in (
        y.0.0 ∷ [],
        sym (ap (λ (w : List A × Cut). w.0) is),
        subst (λ (rest : Cut). Spelt (part y.0.0 ++ []) cut rest) (ap (λ (w : List A × Cut). w.1) is)
            (subst (λ (parts : List Part). Spelt parts cut y.0.1) (sym (append-nil (part y.0.0))) one),
      ));
}

module _ {A : Type 0} (test : Token → Bool) (r : List A → Reader (List A)) (part : A → List Part) (grows : Grows r part) where
  stays : (before : List A) (cut : Cut) (x : List A × Cut) → read (before, cut) ≡ Ok x → (more : List A) × (x.0 ≡ before ++ more)
      × Spelt (flat_map part more) cut x.1
  stays before cut x e =
      subst (λ (y : List A × Cut). (more : List A) × (y.0 ≡ before ++ more) × Spelt (flat_map part more) cut y.1)
      (ok_is (before, cut) x e) ([], sym (append-nil before), spelt_none cut)

  round : (n : ℕ) → ((before : List A) (cut : Cut) (x : List A × Cut) → rounds n test r before cut ≡ Ok x → (more : List A)
      × (x.0 ≡ before ++ more) × Spelt (flat_map part more) cut x.1)
      → (before : List A) (b : Bool) (cut : Cut) (x : List A × Cut) → cond b (and_then (r before cut) (rounds n test r))
      (Ok (before, cut)) ≡ Ok x → (more : List A) × (x.0 ≡ before ++ more) × Spelt (flat_map part more) cut x.1
  round n below before false cut x e = stays before cut x e
  round n below before true cut x e =
      let y = and_then_ok (r before cut) (rounds n test r) x e in
      let first = grows.spelt before cut y.0 y.1 in
      let rest = below y.0.0 y.0.1 x y.2 in (
        first.0 ++ rest.0,
        rest.1 ∙ ap (λ (l : List A). l ++ rest.0) first.1 ∙ append_assoc before first.0 rest.0,
        subst (λ (parts : List Part). Spelt parts cut x.1) (sym (flat_map-append part first.0 rest.0)) (spelt_both first.2 rest.2),
      )

  rounds_grow : (n : ℕ) (before : List A) (cut : Cut) (x : List A × Cut) → rounds n test r before cut ≡ Ok x → (more : List A)
      × (x.0 ≡ before ++ more) × Spelt (flat_map part more) cut x.1
  rounds_grow zero before cut x e = stays before cut x e
  rounds_grow (suc n) before cut x e = round n (rounds_grow n) before (starts test cut) cut x e

  pub grows_repeated : Grows (λ before. repeated test r before) part
  unfolding repeated
  grows_repeated = record { spelt = λ before cut x e. rounds_grow (size cut) before cut x e }

-- a list from nothing
pub sound_list : {A : Type 0} {r : List A → Reader (List A)} {part : A → List Part} → Grows r part → Sound (r []) (flat_map part)
sound_list {A} {r} {part} grows = record {
  spelt = λ cut x e. (let y = grows.spelt [] cut x e in
      subst (λ (more : List A). Spelt (flat_map part more) cut x.1) (sym y.1) y.2);
}

-- ---- readers by what their tokens are

-- what is read represents these tokens
pub record Reads {A : Type 0} (r : Reader A) (P : A → List Token → Type 0) : Type 0 where
  pub reads : (cut : Cut) (x : A × Cut) → r cut ≡ Ok x → (front : List Token) × (cut ≡ (front ▸▸ x.1)) × P x.0 front

pub sound_reads : {A : Type 0} {r : Reader A} (part : A → Part) → Reads r (λ a. SaysPart (part a)) → Sound r (λ a. part a ∷ [])
sound_reads {A} {r} part h =
    record {
      spelt = λ cut x e. (let y = h.reads cut x e in record {
        front = y.0;
        occurs = y.1;
        spelled = (y.0, [], sym (append-nil y.0), y.2, refl);
      });
    }

pub reads_as : {A : Type 0} {r : Reader A} {P Q : A → List Token → Type 0} → Reads r P → ((a : A) (tokens : List Token) → P a tokens
    → Q a tokens) → Reads r Q
reads_as {A} {r} {P} {Q} h k = record { reads = λ cut x e. (let y = h.reads cut x e in (y.0, y.1, k x.0 y.0 y.2)) }

module _ {A : Type 0} (judge : Token → Result A Cause) (P : A → List Token → Type 0) (is : (t : Token) (a : A) → judge t ≡ Ok a
    → P a (t ∷ [])) where
  answered_reads : (t : Token) (cut : Cut) (o : Result A Cause) (x : A × Cut) → judge t ≡ o → answered t o cut ≡ Ok x
      → (front : List Token) × ((t ▸ cut) ≡ (front ▸▸ x.1)) × P x.0 front
  answered_reads t cut (Ok a) x e f = subst (λ (y : A × Cut). (front : List Token) × ((t ▸ cut) ≡ (front ▸▸ y.1)) × P y.0 front)
      (ok_is (a, cut) x f) (t ∷ [], refl, is t a e)
  answered_reads t cut (Err cause) x e f = absurd cc

  one_reads : (cut : Cut) (x : A × Cut) → one judge cut ≡ Ok x → (front : List Token) × (cut ≡ (front ▸▸ x.1)) × P x.0 front
  unfolding token_at
  one_reads (End line) x e = absurd cc
  one_reads (Fault line) x e = absurd cc
  one_reads (t ▸ cut) x e = answered_reads t cut (judge t) x refl e

  pub reads_one : Reads (one judge) P
  reads_one = record { reads = one_reads }

-- one reader after another
pub reads_after : {A B : Type 0} {r : Reader A} {r' : Reader B} {P : A → List Token → Type 0} {Q : B → List Token → Type 0} (S : A
    → B → List Token → Type 0)
    → Reads r P → Reads r' Q → ((a : A) (b : B) (tokens u v : List Token) → tokens ≡ u ++ v → P a u → Q b v → S a b tokens)
    → Reads (r >>= λ a. r') (λ b tokens. (a : A) × S a b tokens)
reads_after {A} {B} {r} {r'} {P} {Q} S h k join = record {
  reads = λ cut y e. (
      let x = and_then_ok (r cut) _ y e in
      let one = h.reads cut x.0 x.1 in
      let two = k.reads x.0.1 y x.2 in (
        one.0 ++ two.0,
        one.1 ∙ ap (λ c. one.0 ▸▸ c) two.1 ∙ sym (all_then_twice one.0 two.0 y.1),
        (x.0.0, join x.0.0 y.0 (one.0 ++ two.0) one.0 two.0 refl one.2 two.2),
      ));
}

-- a value made of what is read
pub reads_value : {A B : Type 0} {r : Reader A} {P : A → List Token → Type 0} (f : A → B) → Reads r P
    → Reads (r >>= λ a. value (f a)) (λ b tokens. (a : A) × (b ≡ f a) × P a tokens)
reads_value {A} {B} {r} {P} f h = record {
  reads = λ cut y e. (
      let x = and_then_ok (r cut) _ y e in
      let one = h.reads cut x.0 x.1 in
      let is = ok_is (f x.0.0, x.0.1) y x.2 in
      (one.0, one.1 ∙ ap (λ c. one.0 ▸▸ c) (ap (λ (w : B × Cut). w.1) is), (x.0.0, sym (ap (λ (w : B × Cut). w.0) is), one.2)));
}

-- ---- a first item and further ones

abbrev pub first_and : {A : Type 0} → (A → List Part) → (A → List Part) → List A → List Part
first_and first further [] = []
first_and first further (x ∷ xs) = first x ++ flat_map further xs

pub sound_first : {A : Type 0} {one_at : Reader A} {more_from : List A → Reader (List A)} {first further : A → List Part}
    → Sound one_at first → Grows more_from further
    → Sound (one_at >>= λ a. more_from (a ∷ [])) (first_and first further)
sound_first {A} {one_at} {more_from} {first} {further} h k = record {
  spelt = λ cut y e. (
      let x = and_then_ok (one_at cut) _ y e in
      let more = k.spelt (x.0.0 ∷ []) x.0.1 y x.2 in
      subst (λ (list : List A). Spelt (first_and first further list) cut y.1) (sym more.1) (spelt_both (h.spelt cut x.0 x.1)
      more.2));
}

-- two readers that read one part
pub sound_both : {A B C : Type 0} {before : List Part} (r : Reader A) (f : A → Reader B) {g : B → Reader C} {parts : B → List Part}
    {form : C → List Part}
    → Sound (r >>= f) parts → ((b : B) → SoundAt (before ++ parts b) (g b) form) → SoundAt before (r >>= λ a. (f a >>= g)) form
sound_both {A} {B} {C} {before} r f {g} {parts} {form} h k = record {
  spelt = λ cut y e. (
      let x = and_then_ok (r cut) _ y e in
      let z = and_then_ok (f x.0.0 x.0.1) g y x.2 in
      let one = h.spelt cut z.0 (ap (λ (o : Result (A × Cut) ReadFault). and_then o f) x.1 ∙ z.1) in
      let two = (k z.0.0).spelt z.0.1 y z.2 in
      (parts z.0.0 ++ two.0, two.1 ∙ append_assoc before (parts z.0.0) two.0, spelt_both one two.2));
}

-- a last reader
pub sound_end : {B : Type 0} {before : List Part} {r : Reader B} {parts form : B → List Part} → Sound r parts
    → ((b : B) → form b ≡ before ++ parts b) → SoundAt before r form
sound_end {B} {before} {r} {parts} {form} h same = record { spelt = λ cut x e. (parts x.0, same x.0, h.spelt cut x e) }

-- one item more, after something
pub grows_after : {A M : Type 0} (m : Reader M) (one_at : Reader A) {part : A → List Part} → Sound (m >>= λ _. one_at) part
    → Grows (λ before. m >>= λ _. (one_at >>= λ a. value (before ++ a ∷ []))) part
grows_after {A} {M} m one_at {part} h = record {
  spelt = λ before cut y e. (
      let x = and_then_ok (m cut) _ y e in
      let z = and_then_ok (one_at x.0.1) _ y x.2 in
      let is = ok_is (before ++ z.0.0 ∷ [], z.0.1) y z.2 in
      let both = h.spelt cut z.0 (ap (λ (o : Result (M × Cut) ReadFault). and_then o (λ _. one_at)) x.1 ∙ z.1) in (
        z.0.0 ∷ [],
        sym (ap (λ (w : List A × Cut). w.0) is),
        subst (λ (rest : Cut). Spelt (part z.0.0 ++ []) cut rest) (ap (λ (w : List A × Cut). w.1) is)
            (subst (λ (parts : List Part). Spelt parts cut z.0.1) (sym (append-nil (part z.0.0))) both),
      ));
}

-- one item more, read in view of those before
pub grows_in_view : {A : Type 0} (one_at : List A → Reader A) {part : A → List Part}
    → ((before : List A) → Sound (one_at before) part) → Grows (λ before. one_at before >>= λ a. value (before ++ a ∷ [])) part
grows_in_view {A} one_at {part} h = record { spelt = λ before cut x e. (grows_by_one (h before)).spelt before cut x e }

-- the same parts by other words
pub sound_same : {A : Type 0} {r : Reader A} {form other : A → List Part} → Sound r form → ((a : A) → form a ≡ other a)
    → Sound r other
sound_same {A} {r} {form} {other} h same = record {
  spelt = λ cut x e. subst (λ (parts : List Part). Spelt parts cut x.1) (same x.0)
      (h.spelt cut x e);
}
