-- Vectors, each of whose lanes is computed from one byte.
use Rattle.std.proofs.Common.{◌≡◌, ℕ, ◌+◌, ◌-◌, ◌%◌, ◌^◌, ◌<◌, suc, ltb, eqb, Bool, not, cond, List, [], ◌∷◌, length, get_or}
use Rattle.std.proofs.Common.{map, Fits, w8}
use Rattle.std.proofs.Common.{refl, ap, ap₂, ◌∙◌, arith}
use Rattle.std.proofs.lemmas.Simd.{map-map}
use Rattle.std.proofs.lemmas.List.{take_all}
use lib.Lanes.{chunk, sel_l}

itself : (bytes : List ℕ) → bytes ≡ map (λ b. b) bytes
itself [] = refl
itself (b ∷ bytes) = ap (λ bytes. b ∷ bytes) (itself bytes)

-- a load of all bytes
pub loaded_whole : (bytes : List ℕ) (n : ℕ) → length bytes ≡ n → chunk 0 n bytes ≡ map (λ b. b) bytes
loaded_whole bytes n long = take_all n bytes (omega (arith, long)) ∙ itself bytes

-- one computation more
pub mapped : {A B : Type 0} (step : A → B) (f : ℕ → A) (bytes : List ℕ) {lanes : List A} → lanes ≡ map f bytes
    → map step lanes ≡ map (λ b. step (f b)) bytes
mapped step f bytes is = ap (map step) is ∙ map-map step f bytes

chosen_lanes : (t : ℕ → Bool) (f g : ℕ → ℕ) (bytes : List ℕ) → sel_l (map t bytes) (map f bytes) (map g bytes)
    ≡ map (λ b. cond (t b) (f b) (g b)) bytes
chosen_lanes t f g [] = refl
chosen_lanes t f g (b ∷ bytes) = ap (λ lanes. cond (t b) (f b) (g b) ∷ lanes) (chosen_lanes t f g bytes)

-- a choice between two of them
pub chosen : (t : ℕ → Bool) (f g : ℕ → ℕ) (bytes : List ℕ) {marks : List Bool} {ones others : List ℕ} → marks ≡ map t bytes
    → ones ≡ map f bytes → others ≡ map g bytes → sel_l marks ones others ≡ map (λ b. cond (t b) (f b) (g b)) bytes
chosen t f g bytes marks ones others = rw (marks, ones, others) (chosen_lanes t f g bytes)

-- computations that agree on bytes
pub same_lanes : {A : Type 0} (f g : ℕ → A) → ((b : ℕ) → b < 256 → f b ≡ g b) → (bytes : List ℕ)
    → ((k : ℕ) → Fits w8 (get_or bytes k 0)) → map f bytes ≡ map g bytes
same_lanes f g agree [] fits = refl
same_lanes f g agree (b ∷ bytes) fits = ap₂ (λ one more. one ∷ more) (agree b (fits 0).fits) (same_lanes f g agree bytes (λ k.
    fits (suc k)))

-- wrapping operations on bytes, and a comparison
abbrev pub added : ℕ → ℕ → ℕ
added a b = (a + b) % 2 ^ 8

abbrev pub less : ℕ → ℕ → ℕ
less a b = (a + (2 ^ 8 - b)) % 2 ^ 8

abbrev pub is_below : ℕ → ℕ → ℕ
is_below a b = cond (ltb a b) 255 0

abbrev pub inverted : ℕ → ℕ
inverted a = 255 - a

abbrev pub differs : ℕ → ℕ → ℕ
differs a b = cond (not (eqb a b)) 255 0

abbrev pub equals : ℕ → ℕ → ℕ
equals a b = cond (eqb a b) 255 0
