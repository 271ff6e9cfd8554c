-- The signals of a message have different names, and still do when one is added, removed or replaced by another of its name.
use Rattle.std.proofs.Common.{◌≡◌, ℕ, zero, suc, ◌<◌, ◌≤◌, Bool, true, false, List, [], ◌∷◌, length, map, refl, sym, ◌∙◌, inl, inr}
use Rattle.std.proofs.Common.{arith}
use Rattle.std.specs.Prelude.{not, ◌||◌, ◌&&◌, insert, slice_set, nat_le, IsTrue}
use Rattle.std.specs.List.{list_any, position_or_len}
use Rattle.std.specs.Str.{bytes_eq}
use Rattle.std.proofs.lemmas.Bool.{cases_Bool, both_ways}
use Rattle.std.proofs.lemmas.Slice.Eq.{bytes_eq-Decides}
use Rattle.std.proofs.lemmas.List.Edits.{length-insert}
use Rattle.std.proofs.lemmas.List.{length-map}
use Rattle.dbc_records.specs.Records.{Signal, names_of, are_distinct, signals_fit, most_signals}
use Rattle.dbc_edits.proofs.Indexes.{one_more}
use Rattle.dbc_edits.specs.Rows.{without}
use Rattle.dbc_edits.specs.Edits.{is_named, has_named, replaced_by, with_name}

-- ---- names

same_true : (a b : List ℕ) → a ≡ b → bytes_eq a b ≡ true
same_true a b e = (bytes_eq-Decides a b).1 e

true_same : (a b : List ℕ) → bytes_eq a b ≡ true → a ≡ b
true_same a b e = (bytes_eq-Decides a b).0 e

either_way : (a b : List ℕ) → bytes_eq a b ≡ bytes_eq b a
either_way a b =
    elim (cases_Bool (bytes_eq a b)) [
      | inl t ↦ t ∙ sym (same_true b a (sym (true_same a b t)))
      | inr f ↦ elim (cases_Bool (bytes_eq b a)) [
        | inl t ↦ absurd (both_ways (bytes_eq a b) f (same_true a b (sym (true_same b a t))))
        | inr g ↦ f ∙ sym g
      ]
    ]

-- a list of signals has the name if its names have it
named : (name : List ℕ) (signals : List Signal) → list_any (bytes_eq name) (names_of signals) ≡ has_named name signals
named name [] = refl
named name (signal ∷ signals) = rw (either_way name signal.name, named name signals) refl

-- ---- tests on names

neither : (a b : Bool) → (a || b) ≡ false → (a ≡ false) × (b ≡ false)
neither true b e = absurd (both_ways true e refl)
neither false b e = (refl, e)

none : (a b : Bool) → a ≡ false → b ≡ false → (a || b) ≡ false
none a b e f = rw (e, f) refl

both : (a b : Bool) → (a && b) ≡ true → (a ≡ true) × (b ≡ true)
both true b e = (refl, e)
both false b e = absurd (both_ways false refl e)

turned : (a : Bool) → not a ≡ true → a ≡ false
turned true e = absurd (both_ways false refl e)
turned false e = refl

differs : (a b : Bool) → a ≡ false → b ≡ true → (not a && b) ≡ true
differs a b e f = rw (e, f) refl

-- what the first of different names means
first_differs : (name : List ℕ) (names : List (List ℕ)) → are_distinct (name ∷ names) ≡ true → list_any (bytes_eq name) names
    ≡ false
first_differs name names e = turned _ (both _ _ e).0

rest_differ : (name : List ℕ) (names : List (List ℕ)) → are_distinct (name ∷ names) ≡ true → are_distinct names ≡ true
rest_differ name names e = (both _ _ e).1

-- ---- one more

any_inserted : (test : List ℕ → Bool) (signals : List Signal) (at : ℕ) (signal : Signal) → test signal.name ≡ false
    → list_any test (names_of signals) ≡ false → list_any test (names_of (insert signals at signal)) ≡ false
any_inserted test [] zero signal e f = none _ _ e refl
any_inserted test [] (suc at) signal e f = none _ _ e refl
any_inserted test (first ∷ signals) zero signal e f = none _ _ e f
any_inserted test (first ∷ signals) (suc at) signal e f =
    let parts = neither _ _ f in none _ _ parts.0 (any_inserted test signals at signal e parts.1)

distinct_inserted : (signals : List Signal) (at : ℕ) (signal : Signal) → are_distinct (names_of signals) ≡ true
    → has_named signal.name signals ≡ false → are_distinct (names_of (insert signals at signal)) ≡ true
distinct_inserted [] zero signal e f = refl
distinct_inserted [] (suc at) signal e f = refl
distinct_inserted (first ∷ signals) zero signal e f = differs _ _ (named signal.name (first ∷ signals) ∙ f) e
distinct_inserted (first ∷ signals) (suc at) signal e f =
    let parts = neither _ _ f in
    differs _ _
    (any_inserted (bytes_eq first.name) signals at signal parts.0 (first_differs first.name (names_of signals) e))
    (distinct_inserted signals at signal (rest_differ first.name (names_of signals) e) parts.1)

-- ---- some fewer

any_without : (test : List ℕ → Bool) (gone : Signal → Bool) (signals : List Signal) → list_any test (names_of signals) ≡ false
    → list_any test (names_of (without gone signals)) ≡ false
any_without test gone [] e = refl
any_without test gone (signal ∷ signals) e =
    let parts = neither _ _ e in
    elim (cases_Bool (gone signal)) [
      | inl t ↦ rw t (any_without test gone signals parts.1)
      | inr f ↦ rw f (none _ _ parts.0 (any_without test gone signals parts.1))
    ]

distinct_without : (gone : Signal → Bool) (signals : List Signal) → are_distinct (names_of signals) ≡ true
    → are_distinct (names_of (without gone signals)) ≡ true
distinct_without gone [] e = refl
distinct_without gone (signal ∷ signals) e =
    let rest = distinct_without gone signals (rest_differ signal.name (names_of signals) e) in
    elim (cases_Bool (gone signal)) [
      | inl t ↦ rw t rest
      | inr f ↦ rw f (differs _ _ (any_without (bytes_eq signal.name) gone signals (first_differs signal.name (names_of signals) e))
          rest)
    ]

shorter : {X : Type 0} (gone : X → Bool) (items : List X) → length (without gone items) ≤ length items
shorter gone [] = omega arith
shorter gone (item ∷ items) =
    elim (cases_Bool (gone item)) [
      | inl t ↦ rw t (omega (arith, shorter gone items))
      | inr f ↦ rw f (omega (arith, shorter gone items))
    ]

-- ---- others of the same names

same_name : (signal old : Signal) → (replaced_by signal old).name ≡ old.name
same_name signal old =
    elim (cases_Bool (is_named signal.name old)) [
      | inl t ↦ rw t (sym (true_same old.name signal.name t))
      | inr f ↦ rw f refl
    ]

same_names : (signal : Signal) (signals : List Signal) → names_of (map (replaced_by signal) signals) ≡ names_of signals
same_names signal [] = refl
same_names signal (old ∷ signals) = rw (same_name signal old, same_names signal signals) refl

-- a signal whose name no other has is alone
untouched : (signal : Signal) (signals : List Signal) → has_named signal.name signals ≡ false → map (replaced_by signal) signals
    ≡ signals
untouched signal [] e = refl
untouched signal (old ∷ signals) e =
    let parts = neither (is_named signal.name old) (has_named signal.name signals) e in
    rw (parts.0, untouched signal signals parts.1) refl

others_differ : (signal first : Signal) (signals : List Signal) → are_distinct (names_of (first ∷ signals)) ≡ true
    → is_named signal.name first ≡ true → has_named signal.name signals ≡ false
others_differ signal first signals e t =
    sym (named signal.name signals) ∙ rw (← true_same first.name signal.name t) (first_differs first.name (names_of signals) e)

set_once : (signal : Signal) (signals : List Signal) → are_distinct (names_of signals) ≡ true
    → slice_set signals (position_or_len (is_named signal.name) signals) signal ≡ map (replaced_by signal) signals
set_once signal [] e = refl
set_once signal (first ∷ signals) e =
    elim (cases_Bool (is_named signal.name first)) [
      | inl t ↦ rw (t, untouched signal signals (others_differ signal first signals e t)) refl
      | inr f ↦ rw (
        f,
        one_more (position_or_len (is_named signal.name) signals),
        ← set_once signal signals (rest_differ first.name (names_of signals) e),
      ) refl
    ]

-- ---- a new name

kept : (test : List ℕ → Bool) (old new : List ℕ) (signals : List Signal) → test new ≡ false → list_any test (names_of signals)
    ≡ false → list_any test (names_of (map (with_name old new) signals)) ≡ false
kept test old new [] e f = refl
kept test old new (signal ∷ signals) e f =
    let parts = neither _ _ f in
    elim (cases_Bool (is_named old signal)) [
      | inl t ↦ rw t (none _ _ e (kept test old new signals e parts.1))
      | inr g ↦ rw g (none _ _ parts.0 (kept test old new signals e parts.1))
    ]

unnamed : (old new : List ℕ) (signals : List Signal) → has_named old signals ≡ false → map (with_name old new) signals ≡ signals
unnamed old new [] e = refl
unnamed old new (signal ∷ signals) e = let parts = neither (is_named old signal) (has_named old signals) e in
    rw (parts.0, unnamed old new signals parts.1) refl

distinct_renamed : (old new : List ℕ) (signals : List Signal) → are_distinct (names_of signals) ≡ true → has_named new signals
    ≡ false → are_distinct (names_of (map (with_name old new) signals)) ≡ true
distinct_renamed old new [] e f = refl
distinct_renamed old new (signal ∷ signals) e f =
    let parts = neither (is_named new signal) (has_named new signals) f in
    let differ = first_differs signal.name (names_of signals) e in
    let rest = rest_differ signal.name (names_of signals) e in
    elim (cases_Bool (is_named old signal)) [
      | inl t ↦
          let gone : has_named old signals ≡ false = sym (named old signals) ∙ rw (← true_same signal.name old t) differ in
          rw (t, unnamed old new signals gone) (differs _ _ (named new signals ∙ parts.1) rest)
      | inr g ↦ rw g (differs _ _ (kept (bytes_eq signal.name) old new signals parts.0 differ) (distinct_renamed old new signals
          rest parts.1))
    ]

-- ---- the signals of a message

together : (a b : Bool) → a ≡ true → b ≡ true → (a && b) ≡ true
together a b e f = rw (e, f) refl

few : (n : ℕ) → n ≤ most_signals → nat_le n most_signals ≡ true
few n e = grind arith

is_few : (n : ℕ) → nat_le n most_signals ≡ true → n ≤ most_signals
is_few n e = grind arith

fits-of : (signals : List Signal) → length signals ≤ most_signals → are_distinct (names_of signals) ≡ true
    → IsTrue (signals_fit signals)
unfolding signals_fit
fits-of signals e f = together _ _ (few (length signals) e) f

fits-few : (signals : List Signal) → IsTrue (signals_fit signals) → length signals ≤ most_signals
unfolding signals_fit
fits-few signals e = is_few (length signals) (both _ _ e).0

fits-distinct : (signals : List Signal) → IsTrue (signals_fit signals) → are_distinct (names_of signals) ≡ true
unfolding signals_fit
fits-distinct signals e = (both _ _ e).1

pub fits_none : IsTrue (signals_fit [])
unfolding signals_fit
fits_none = refl

pub fits_inserted : (signals : List Signal) (at : ℕ) (signal : Signal) → IsTrue (signals_fit signals) → at ≤ length signals
    → length signals < most_signals → has_named signal.name signals ≡ false → IsTrue (signals_fit (insert signals at signal))
fits_inserted signals at signal fit index space new =
    fits-of _ (omega (arith, length-insert signals at signal index, space)) (distinct_inserted signals at signal
    (fits-distinct signals fit) new)

pub fits_without : (gone : Signal → Bool) (signals : List Signal) → IsTrue (signals_fit signals)
    → IsTrue (signals_fit (without gone signals))
fits_without gone signals fit = fits-of _ (omega (arith, shorter gone signals, fits-few signals fit))
    (distinct_without gone signals (fits-distinct signals fit))

pub replaced : (signal : Signal) (signals : List Signal) → IsTrue (signals_fit signals)
    → slice_set signals (position_or_len (is_named signal.name) signals) signal ≡ map (replaced_by signal) signals
replaced signal signals fit = set_once signal signals (fits-distinct signals fit)

fits_replaced : (signal : Signal) (signals : List Signal) → IsTrue (signals_fit signals)
    → IsTrue (signals_fit (map (replaced_by signal) signals))
fits_replaced signal signals fit =
    fits-of _ (rw (length-map signals (replaced_by signal)) (fits-few signals fit)) (rw (same_names signal signals)
    (fits-distinct signals fit))

pub fits_set : (signal : Signal) (signals : List Signal) → IsTrue (signals_fit signals)
    → IsTrue (signals_fit (slice_set signals (position_or_len (is_named signal.name) signals) signal))
fits_set signal signals fit = rw (replaced signal signals fit) (fits_replaced signal signals fit)

pub fits_renamed : (old new : List ℕ) (signals : List Signal) → IsTrue (signals_fit signals) → has_named new signals ≡ false
    → IsTrue (signals_fit (map (with_name old new) signals))
fits_renamed old new signals fit free =
    fits-of _ (rw (length-map signals (with_name old new)) (fits-few signals fit)) (distinct_renamed old new signals
    (fits-distinct signals fit) free)
