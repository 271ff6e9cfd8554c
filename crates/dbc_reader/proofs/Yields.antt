-- What was read is proper.
pub mod Kinds
pub mod Rows
pub mod Messages
pub mod Databases
use Rattle.std.proofs.Common.{◌≡◌, Bool, true, false, cond, List, [], ◌∷◌, ◌++◌, All, Result, Ok, Err, refl, subst}
use Rattle.std.proofs.lemmas.List.Elements.{All-push}
use Rattle.dbc_tokens.specs.declared.fault.Cause.{Cause}
use Rattle.dbc_tokens.specs.Tokens.{Token, Cut, End, Fault, ◌▸◌}
use Rattle.dbc_reader.specs.inner.Readers.{Reader, ◌>>=◌, value, token_at, answered, one, starts, choose, choose_by, repeated}
use Rattle.dbc_reader.proofs.Rounds.{and_then_ok, ok_is, repeated_holds}

-- all that is read is so
pub record Yields {A : Type 0} (r : Reader A) (P : A → Type 0) : Type 0 where
  pub holds : (cut : Cut) (x : A × Cut) → r cut ≡ Ok x → P x.0

-- ---- one after another

pub yields_then : {A B : Type 0} {r : Reader A} {f : A → Reader B} {P : A → Type 0} {Q : B → Type 0} → Yields r P
    → ((a : A) → P a → Yields (f a) Q) → Yields (r >>= f) Q
yields_then {A} {B} {r} {f} {P} {Q} h k = record {
  holds = λ cut y e. (let x = and_then_ok (r cut) f y e in (k x.0.0 (h.holds cut x.0 x.1)).holds x.0.1 y x.2);
}

-- nothing is asked of the first
pub yields_after : {A B : Type 0} (r : Reader A) {f : A → Reader B} {Q : B → Type 0} → ((a : A) → Yields (f a) Q)
    → Yields (r >>= f) Q
yields_after {A} {B} r {f} {Q} k = record {
  holds = λ cut y e. (let x = and_then_ok (r cut) f y e in (k x.0.0).holds x.0.1 y x.2);
}

pub yields_value : {A : Type 0} {a : A} {P : A → Type 0} → P a → Yields (value a) P
yields_value {A} {a} {P} is = record { holds = λ cut x e. subst (λ (y : A × Cut). P y.0) (ok_is (a, cut) x e) is }

pub yields_as : {A : Type 0} {r : Reader A} {P Q : A → Type 0} → Yields r P → ((a : A) → P a → Q a) → Yields r Q
yields_as {A} {r} {P} {Q} h k = record { holds = λ cut x e. k x.0 (h.holds cut x e) }

-- two things that are so
pub record Both {A : Type 0} (P Q : A → Type 0) (a : A) : Type 0 where
  pub first : P a
  pub second : Q a

pub yields_both : {A : Type 0} {r : Reader A} {P Q : A → Type 0} → Yields r P → Yields r Q → Yields r (Both P Q)
yields_both {A} {r} {P} {Q} h k = record { holds = λ cut x e. record { first = h.holds cut x e; second = k.holds cut x e } }

-- ---- one token

module _ {A : Type 0} (judge : Token → Result A Cause) (P : A → Type 0) (is : (t : Token) (a : A) → judge t ≡ Ok a → P a) where
  answered_holds : (t : Token) (cut : Cut) (o : Result A Cause) (x : A × Cut) → judge t ≡ o → answered t o cut ≡ Ok x → P x.0
  answered_holds t cut (Ok a) x e f = subst (λ (y : A × Cut). P y.0) (ok_is (a, cut) x f) (is t a e)
  answered_holds t cut (Err cause) x e f = absurd cc

  one_holds : (cut : Cut) (x : A × Cut) → one judge cut ≡ Ok x → P x.0
  unfolding token_at
  one_holds (End line) x e = absurd cc
  one_holds (Fault line) x e = absurd cc
  one_holds (t ▸ cut) x e = answered_holds t cut (judge t) x refl e

  pub yields_one : Yields (one judge) P
  yields_one = record { holds = one_holds }

-- ---- choice

chosen_holds : {A : Type 0} {r s : Reader A} {P : A → Type 0} → Yields r P → Yields s P → (b : Bool) (cut : Cut) (x : A × Cut)
    → cond b (r cut) (s cut) ≡ Ok x → P x.0
chosen_holds h k true cut x e = h.holds cut x e
chosen_holds h k false cut x e = k.holds cut x e

pub yields_choose : {A : Type 0} (test : Token → Bool) {r s : Reader A} {P : A → Type 0} → Yields r P → Yields s P
    → Yields (choose test r s) P
yields_choose {A} test {r} {s} {P} h k = record { holds = λ cut x e. chosen_holds h k (starts test cut) cut x e }

-- all that is read if the test is true is so
pub record YieldsWhere {A : Type 0} (test : Cut → Bool) (r : Reader A) (P : A → Type 0) : Type 0 where
  pub holds : (cut : Cut) (x : A × Cut) → test cut ≡ true → r cut ≡ Ok x → P x.0

tested_holds : {A : Type 0} {test : Cut → Bool} {r s : Reader A} {P : A → Type 0} → YieldsWhere test r P → Yields s P
    → (b : Bool) (cut : Cut) (x : A × Cut) → test cut ≡ b → cond b (r cut) (s cut) ≡ Ok x → P x.0
tested_holds h k true cut x is e = h.holds cut x is e
tested_holds h k false cut x is e = k.holds cut x e

pub yields_choose_by : {A : Type 0} {test : Cut → Bool} {r s : Reader A} {P : A → Type 0} → YieldsWhere test r P → Yields s P
    → Yields (choose_by test r s) P
yields_choose_by {A} {test} {r} {s} {P} h k = record { holds = λ cut x e. tested_holds h k (test cut) cut x refl e }

pub yields_then_where : {A B : Type 0} {test : Cut → Bool} {r : Reader A} {f : A → Reader B} {P : A → Type 0} {Q : B → Type 0}
    → YieldsWhere test r P → ((a : A) → P a → Yields (f a) Q) → YieldsWhere test (r >>= f) Q
yields_then_where {A} {B} {test} {r} {f} {P} {Q} h k = record {
  holds = λ cut y is e. (let x = and_then_ok (r cut) f y e in (k x.0.0 (h.holds cut x.0 is x.1)).holds x.0.1 y x.2);
}

-- ---- again and again

pub yields_repeated : {S : Type 0} (P : S → Type 0) (test : Token → Bool) (r : S → Reader S) → ((s : S) → P s → Yields (r s) P)
    → (s : S) → P s → Yields (repeated test r s) P
yields_repeated P test r h s is = record {
  holds = λ cut x e. repeated_holds P test r (λ s cut x is e. (h s is).holds cut x e) s cut
      x is e;
}

-- one item more
pub yields_more : {A : Type 0} {one_at : Reader A} {P : A → Type 0} → Yields one_at P → (xs : List A) → All P xs
    → Yields (one_at >>= λ a. value (xs ++ a ∷ [])) (All P)
yields_more {A} {one_at} {P} h xs all = yields_then h λ a is. yields_value (All-push P xs a all is)
