-- Runs of bytes that pass a test, at the front of a list.
use Rattle.std.proofs.Common.{◌≡◌, ℕ, zero, suc, ◌+◌, ◌<◌, ◌≤◌, Bool, true, false, cond, List, [], ◌∷◌, ◌++◌, length, get_or, take}
use Rattle.std.proofs.Common.{refl, ap, arith, one-add}
use Rattle.std.specs.List.{list_all, prefix_len}
use Rattle.std.proofs.lemmas.Bool.{and_parts, and_from}

-- the run ends here
abbrev pub Stops : (ℕ → Bool) → List ℕ → Type 0
Stops p [] = Unit {0}
Stops p (b ∷ s) = p b ≡ false

pub all_le : (p : ℕ → Bool) (u v : List ℕ) → list_all p u ≡ true → length u ≤ prefix_len p (u ++ v)
all_le p [] v h = omega arith
all_le p (b ∷ u) v h = let q = and_parts (p b) (list_all p u) h in rw q.0 (omega (arith, all_le p u v q.1))

pub all_stop : (p : ℕ → Bool) (u v : List ℕ) → list_all p u ≡ true → Stops p v → prefix_len p (u ++ v) ≡ length u
all_stop p [] [] h s = refl
all_stop p [] (b ∷ v) h s = rw s refl
all_stop p (b ∷ u) v h s = let q = and_parts (p b) (list_all p u) h in rw (q.0, all_stop p u v q.1 s) (omega arith)

prefix_all_if : (p : ℕ → Bool) (b : ℕ) (s : List ℕ) (x : Bool) → p b ≡ x → list_all p (take (prefix_len p s) s) ≡ true
    → list_all p (take (cond x (1 + prefix_len p s) 0) (b ∷ s)) ≡ true
prefix_all_if p b s true e h = rw one-add (and_from _ _ e h)
prefix_all_if p b s false e h = refl

pub prefix_all : (p : ℕ → Bool) (s : List ℕ) → list_all p (take (prefix_len p s) s) ≡ true
prefix_all p [] = refl
prefix_all p (b ∷ s) = prefix_all_if p b s (p b) refl (prefix_all p s)

pub all_at : (p : ℕ → Bool) (s : List ℕ) (k : ℕ) → list_all p s ≡ true → k < length s → p (get_or s k 0) ≡ true
all_at p [] k h lt = absurd (omega arith)
all_at p (b ∷ s) zero h lt = (and_parts (p b) (list_all p s) h).0
all_at p (b ∷ s) (suc k) h lt = all_at p s k (and_parts (p b) (list_all p s) h).1 (omega arith)

pub all_append : (p : ℕ → Bool) (u v : List ℕ) → list_all p u ≡ true → list_all p v ≡ true → list_all p (u ++ v) ≡ true
all_append p [] v h k = k
all_append p (b ∷ u) v h k = let q = and_parts (p b) (list_all p u) h in and_from _ _ q.0 (all_append p u v q.1 k)

pub all_weaker : (p q : ℕ → Bool) (s : List ℕ) → ((b : ℕ) → p b ≡ true → q b ≡ true) → list_all p s ≡ true → list_all q s ≡ true
all_weaker p q [] f h = refl
all_weaker p q (b ∷ s) f h = let x = and_parts (p b) (list_all p s) h in and_from _ _ (f b x.0) (all_weaker p q s f x.1)

-- a list, one byte and a few more
pub take_past : (x : List ℕ) (b : ℕ) (s : List ℕ) (n : ℕ) → take (1 + (length x + n)) (x ++ b ∷ s) ≡ x ++ b ∷ take n s
take_past [] b s n = let e : 1 + (0 + n) ≡ suc n = omega arith in rw e refl
take_past (c ∷ x) b s n = let e : 1 + (suc (length x) + n) ≡ suc (1 + (length x + n)) = omega arith in
    rw e (ap (λ (t : List ℕ). c ∷ t) (take_past x b s n))
