-- Reading again and again, as a loop does.
pub mod Lists
pub mod Signals
pub mod Statements
pub mod Located
pub mod Dropped
use Rattle.std.proofs.Common.{◌≡◌, ℕ, zero, suc, ◌<◌, ◌≤◌, Bool, true, false, cond, Result, Ok, Err, refl, sym, ap, subst, ◌∙◌}
use Rattle.std.proofs.Common.{arith}
use Rattle.dbc_tokens.specs.declared.fault.Cause.{Cause}
use Rattle.dbc_tokens.specs.declared.fault.ReadFault.{ReadFault}
use Rattle.dbc_reader.specs.declared.stopped.Stopped.{Stopped}
use Rattle.dbc_reader.specs.declared.stopped.Stopped.TheVariants as stops
use Rattle.dbc_tokens.specs.Tokens.{Token, Cut, End, Fault, ◌▸◌}
use Rattle.dbc_reader.specs.inner.Readers.{Reader, and_then, ◌>>=◌, value, token_at, answered, one, size, starts, rounds}
use Rattle.dbc_reader.specs.inner.Readers.{repeated}
use Rattle.dbc_reader.specs.inner.Readers.{choose, choose_by, Fails}

-- the value of a step that did not fail
pub and_then_ok : {A B : Type 0} (r : Result (A × Cut) ReadFault) (f : A → Reader B) (y : B × Cut) → and_then r f ≡ Ok y
    → (x : A × Cut) × (r ≡ Ok x) × (f x.0 x.1 ≡ Ok y)
and_then_ok (Ok x) f y e = (x, refl, e)
and_then_ok (Err d) f y e = absurd cc

abbrev done : {A : Type 0} → A → Result A ReadFault
done x = Ok x

pub ok_is : {A : Type 0} (x y : A) → done x ≡ done y → x ≡ y
ok_is x y e = cc

-- ---- each reader leaves less, or no more

pub record Shrinks {A : Type 0} (r : Reader A) : Type 0 where
  pub less : (cut : Cut) (x : A × Cut) → r cut ≡ Ok x → size x.1 < size cut

pub record Keeps {A : Type 0} (r : Reader A) : Type 0 where
  pub less : (cut : Cut) (x : A × Cut) → r cut ≡ Ok x → size x.1 ≤ size cut

answered_shrinks : {A : Type 0} (t : Token) (o : Result A Cause) (cut : Cut) (x : A × Cut) → answered t o cut ≡ Ok x
    → size x.1 < suc (size cut)
answered_shrinks t (Ok y) cut x e = let same = ok_is (y, cut) x e in rw (← same) (omega arith)
answered_shrinks t (Err cause) cut x e = absurd cc

one_less : {A : Type 0} (judge : Token → Result A Cause) (cut : Cut) (x : A × Cut) → one judge cut ≡ Ok x → size x.1 < size cut
unfolding token_at
one_less judge (End line) x e = absurd cc
one_less judge (Fault line) x e = absurd cc
one_less judge (t ▸ cut) x e = answered_shrinks t (judge t) cut x e

pub one_shrinks : {A : Type 0} (judge : Token → Result A Cause) → Shrinks (one judge)
one_shrinks judge = record { less = one_less judge }

value_less : {A : Type 0} (a : A) (cut : Cut) (x : A × Cut) → value a cut ≡ Ok x → size x.1 ≤ size cut
value_less a cut x e = let same = ok_is (a, cut) x e in rw (← same) (omega arith)

pub value_keeps : {A : Type 0} (a : A) → Keeps (value a)
value_keeps a = record { less = value_less a }

pub keeps : {A : Type 0} {r : Reader A} → Shrinks r → Keeps r
keeps {A} {r} h = record { less = λ cut x e. omega (arith, h.less cut x e) }

pub bind_shrinks : {A B : Type 0} {r : Reader A} {f : A → Reader B} → Shrinks r → ((a : A) → Keeps (f a)) → Shrinks (r >>= f)
bind_shrinks {A} {B} {r} {f} h k = record {
  less = λ cut y e. let x = and_then_ok (r cut) f y e in omega (
    arith,
    h.less cut x.0 x.1,
    (k x.0.0).less x.0.1 y x.2,
  );
}

pub bind_keeps : {A B : Type 0} {r : Reader A} {f : A → Reader B} → Keeps r → ((a : A) → Keeps (f a)) → Keeps (r >>= f)
bind_keeps {A} {B} {r} {f} h k = record {
  less = λ cut y e. let x = and_then_ok (r cut) f y e in omega (
    arith,
    h.less cut x.0 x.1,
    (k x.0.0).less x.0.1 y x.2,
  );
}

pub after_shrinks : {A B : Type 0} {r : Reader A} {f : A → Reader B} → Keeps r → ((a : A) → Shrinks (f a)) → Shrinks (r >>= f)
after_shrinks {A} {B} {r} {f} h k = record {
  less = λ cut y e. let x = and_then_ok (r cut) f y e in
      omega (arith, h.less cut x.0 x.1, (k x.0.0).less x.0.1 y x.2);
}

chosen_shrinks : {A : Type 0} {r s : Reader A} (b : Bool) (cut : Cut) (x : A × Cut) → Shrinks r → Shrinks s → cond b (r cut) (s cut)
    ≡ Ok x → size x.1 < size cut
chosen_shrinks true cut x h k e = h.less cut x e
chosen_shrinks false cut x h k e = k.less cut x e

pub choose_shrinks : {A : Type 0} (test : Token → Bool) {r s : Reader A} → Shrinks r → Shrinks s → Shrinks (choose test r s)
choose_shrinks {A} test {r} {s} h k = record { less = λ cut x e. chosen_shrinks (starts test cut) cut x h k e }

pub choose_by_shrinks : {A : Type 0} (test : Cut → Bool) {r s : Reader A} → Shrinks r → Shrinks s → Shrinks (choose_by test r s)
choose_by_shrinks {A} test {r} {s} h k = record { less = λ cut x e. chosen_shrinks (test cut) cut x h k e }

chosen_keeps : {A : Type 0} {r s : Reader A} (b : Bool) (cut : Cut) (x : A × Cut) → Keeps r → Keeps s → cond b (r cut) (s cut)
    ≡ Ok x → size x.1 ≤ size cut
chosen_keeps true cut x h k e = h.less cut x e
chosen_keeps false cut x h k e = k.less cut x e

pub choose_keeps : {A : Type 0} (test : Token → Bool) {r s : Reader A} → Keeps r → Keeps s → Keeps (choose test r s)
choose_keeps {A} test {r} {s} h k = record { less = λ cut x e. chosen_keeps (starts test cut) cut x h k e }

-- ---- turns

and_then_same : {A B : Type 0} (o : Result (A × Cut) ReadFault) (f g : A → Reader B)
    → ((x : A × Cut) → o ≡ Ok x → f x.0 x.1 ≡ g x.0 x.1) → and_then o f ≡ and_then o g
and_then_same (Ok x) f g h = h x refl
and_then_same (Err e) f g h = refl

module _ {S : Type 0} (test : Token → Bool) (r : S → Reader S) (shrinks : (s : S) → Shrinks (r s)) where
  nothing : (n : ℕ) (s : S) (cut : Cut) → size cut ≡ 0 → rounds n test r s cut ≡ Ok (s, cut)
  unfolding starts
  nothing zero s cut z = refl
  nothing (suc n) s (End line) z = refl
  nothing (suc n) s (Fault line) z = refl
  nothing (suc n) s (t ▸ cut) z = absurd (omega arith)

  same_fuel : (n m : ℕ) (s : S) (cut : Cut) → size cut ≤ n → size cut ≤ m → rounds n test r s cut ≡ rounds m test r s cut
  same_fuel zero m s cut l k = sym (nothing m s cut (omega arith))
  same_fuel (suc n) zero s cut l k = nothing (suc n) s cut (omega arith)
  same_fuel (suc n) (suc m) s cut l k =
      ap (λ o. cond (starts test cut) o (Ok (s, cut)))
      (and_then_same (r s cut) _ _ (λ x e. same_fuel n m x.0 x.1 (omega (arith, (shrinks s).less cut x e))
      (omega (arith, (shrinks s).less cut x e))))

  pub repeated_step : (s : S) (cut : Cut) → repeated test r s cut ≡ cond (starts test cut) (and_then (r s cut) (repeated test r))
      (Ok (s, cut))
  unfolding repeated starts
  repeated_step s (End line) = refl
  repeated_step s (Fault line) = refl
  repeated_step s (t ▸ cut) =
      ap (λ o. cond (test t) o (Ok (s, t ▸ cut)))
      (and_then_same (r s (t ▸ cut)) _ _ (λ x e. same_fuel (size cut) (size x.1) x.0 x.1
      (omega (arith, (shrinks s).less (t ▸ cut) x e)) (omega arith)))

  pub goes_on : (s s' : S) (cut rest : Cut) (total : Result (S × Cut) ReadFault) → starts test cut ≡ true → r s cut ≡ Ok (s', rest)
      → repeated test r s cut ≡ total → repeated test r s' rest ≡ total
  goes_on s s' cut rest total t h so_far =
      let one : repeated test r s cut ≡ repeated test r s' rest = repeated_step s cut ∙ rw (t, h) refl in
      sym one ∙ so_far

  pub fails : (e : Stopped) (s : S) (cut : Cut) (total : Result (S × Cut) ReadFault) → starts test cut ≡ true → Fails e (r s cut)
      → repeated test r s cut ≡ total → Fails e total
  fails stops.Memory s cut total t h so_far = tt
  fails (stops.Fault f) s cut total t h so_far =
      let one : repeated test r s cut ≡ Err f = repeated_step s cut ∙ rw (t, h) refl in
      sym so_far ∙ one

  pub ends : (s : S) (cut : Cut) (total : Result (S × Cut) ReadFault) → starts test cut ≡ false → repeated test r s cut ≡ total
      → total ≡ Ok (s, cut)
  ends s cut total t so_far =
      let one : repeated test r s cut ≡ Ok (s, cut) = repeated_step s cut ∙ rw t refl in
      sym so_far ∙ one

module _ {S : Type 0} (test : Token → Bool) (r : S → Reader S) (shrinks : (s : S) → Shrinks (r s)) where
  round_less : (n : ℕ) → ((s : S) → Keeps (rounds n test r s)) → (s : S) (b : Bool) (cut : Cut) (x : S × Cut)
      → cond b (and_then (r s cut) (rounds n test r)) (Ok (s, cut)) ≡ Ok x → size x.1 ≤ size cut
  round_less n k s false cut x e = value_less s cut x e
  round_less n k s true cut x e =
      let y = and_then_ok (r s cut) (rounds n test r) x e in
      omega (arith, (shrinks s).less cut y.0 y.1, (k y.0.0).less y.0.1 x y.2)

  rounds_keep : (n : ℕ) (s : S) → Keeps (rounds n test r s)
  rounds_keep zero s = record { less = λ cut x e. value_less s cut x e }
  rounds_keep (suc n) s = record { less = λ cut x e. round_less n (rounds_keep n) s (starts test cut) cut x e }

  pub repeated_keeps : (s : S) → Keeps (repeated test r s)
  unfolding repeated
  repeated_keeps s = record { less = λ cut x e. (rounds_keep (size cut) s).less cut x e }

-- ---- what turns keep

module _ {S : Type 0} (P : S → Type 0) (test : Token → Bool) (r : S → Reader S) (kept : (s : S) (cut : Cut) (x : S × Cut) → P s
    → r s cut ≡ Ok x → P x.0) where
  round_holds : (n : ℕ) → ((s : S) (cut : Cut) (x : S × Cut) → P s → rounds n test r s cut ≡ Ok x → P x.0)
      → (s : S) (b : Bool) (cut : Cut) (x : S × Cut) → P s → cond b (and_then (r s cut) (rounds n test r)) (Ok (s, cut)) ≡ Ok x
      → P x.0
  round_holds n below s false cut x h e = subst (λ (y : S × Cut). P y.0) (ok_is (s, cut) x e) h
  round_holds n below s true cut x h e =
      let y = and_then_ok (r s cut) (rounds n test r) x e in
      below y.0.0 y.0.1 x (kept s cut y.0 h y.1) y.2

  rounds_hold : (n : ℕ) (s : S) (cut : Cut) (x : S × Cut) → P s → rounds n test r s cut ≡ Ok x → P x.0
  rounds_hold zero s cut x h e = subst (λ (y : S × Cut). P y.0) (ok_is (s, cut) x e) h
  rounds_hold (suc n) s cut x h e = round_holds n (rounds_hold n) s (starts test cut) cut x h e

  pub repeated_holds : (s : S) (cut : Cut) (x : S × Cut) → P s → repeated test r s cut ≡ Ok x → P x.0
  unfolding repeated
  repeated_holds s cut x h e = rounds_hold (size cut) s cut x h e
