-- A list splits in one way only into a prefix that passes a test and a rest that does not begin with what passes.
use Rattle.std.proofs.Common.{◌≡◌, ℕ, ◌+◌, Bool, true, false, cond, List, [], ◌∷◌, ◌++◌, length, take, drop, refl, sym, one-add}
use Rattle.std.proofs.Common.{take-append-drop}
use Rattle.std.proofs.Math.Seq.{take-append_seam, drop-append_seam}
use Rattle.std.specs.Prelude.{⊤}
use Rattle.std.specs.List.{prefix_len, AllByRecursion}

pub all_since : {P Q : ℕ → Type 0} → ((b : ℕ) → P b → Q b) → (xs : List ℕ) → AllByRecursion P xs → AllByRecursion Q xs
all_since since [] all = tt
all_since since (b ∷ xs) all = (since b all.0, all_since since xs all.1)

pub all_append : (P : ℕ → Type 0) (xs ys : List ℕ) → AllByRecursion P xs → AllByRecursion P ys → AllByRecursion P (xs ++ ys)
all_append P [] ys left right = right
all_append P (x ∷ xs) ys left right = (left.0, all_append P xs ys left.1 right)

module _ (p : ℕ → Bool) where
  abbrev pub Passes : List ℕ → Type 0
  Passes xs = AllByRecursion (λ b. p b ≡ true) xs

  abbrev pub Stops : List ℕ → Type 0
  Stops [] = ⊤
  Stops (b ∷ xs) = p b ≡ false

  pub front_passes : (xs : List ℕ) → Passes (take (prefix_len p xs) xs)
  front_passes [] = tt
  front_passes (b ∷ xs) =
      elim (p b) as (λ t. p b ≡ t → Passes (take (cond t (1 + prefix_len p xs) 0) (b ∷ xs))) [
        | true ↦ λ is. rw (one-add (prefix_len p xs)) (is, front_passes xs)
        | false ↦ λ is. tt
      ] refl

  pub rest_stops : (xs : List ℕ) → Stops (drop (prefix_len p xs) xs)
  rest_stops [] = tt
  rest_stops (b ∷ xs) =
      elim (p b) as (λ t. p b ≡ t → Stops (drop (cond t (1 + prefix_len p xs) 0) (b ∷ xs))) [
        | true ↦ λ is. rw (one-add (prefix_len p xs)) (rest_stops xs)
        | false ↦ λ is. is
      ] refl

  pub front_and_rest : (xs : List ℕ) → xs ≡ take (prefix_len p xs) xs ++ drop (prefix_len p xs) xs
  front_and_rest xs = sym (take-append-drop (prefix_len p xs) xs)

  pub prefix_len_is : (front rest : List ℕ) → Passes front → Stops rest → prefix_len p (front ++ rest) ≡ length front
  prefix_len_is [] [] passes stops = refl
  prefix_len_is [] (b ∷ rest) passes stops = rw stops refl
  prefix_len_is (b ∷ front) rest passes stops = rw (passes.0, prefix_len_is front rest passes.1 stops) (one-add (length front))

  pub front_is : (front rest : List ℕ) → Passes front → Stops rest → take (prefix_len p (front ++ rest)) (front ++ rest) ≡ front
  front_is front rest passes stops = rw (prefix_len_is front rest passes stops) (take-append_seam front rest)

  pub rest_is : (front rest : List ℕ) → Passes front → Stops rest → drop (prefix_len p (front ++ rest)) (front ++ rest) ≡ rest
  rest_is front rest passes stops = rw (prefix_len_is front rest passes stops) (drop-append_seam front rest)
