-- The stamp as most are, held against the least and the greatest value of each of its bytes.
use Rattle.std.proofs.Common.{◌≡◌, ℕ, zero, suc, ◌+◌, ◌*◌, ◌%◌, ◌^◌, ◌<◌, ◌≤◌, bit_or, eqb, eqb-true, ltb, ltb-true, ltb-false}
use Rattle.std.proofs.Common.{Bool, true, false}
use Rattle.std.proofs.Common.{true≢false, not, cond, List, [], ◌∷◌, length, take, drop, map, get_or, refl, sym, subst, ◌∙◌, arith}
use Rattle.std.proofs.lemmas.Simd.{mask_l-mod, pick_l_whole}
use lib.Lanes.{zip2, sel_l, mask_l, top}
use Rattle.dbc_values.specs.Lexical.{space, is_digit}
use Rattle.can_frames.specs.LogLines.{is_stamp}
use Rattle.can_frames.specs.LogGrammar.{IsStampText}
use Rattle.can_frames.proofs.Lanes.{is_below, differs}
use Rattle.can_frames.proofs.Stamps.{stamp_there}

-- ---- one byte

abbrev clamped : ℕ → ℕ → ℕ → ℕ
clamped b low high =
    let raised : ℕ = cond (top 7 (is_below b low)) low b in
    cond (top 7 (is_below raised high)) raised high

inside : (b low high : ℕ) → low ≤ high → clamped b low high ≡ b → (low ≤ b) × (b ≤ high)
inside b low high ordered is = below (ltb b low) refl is
  where
    above : (u : Bool) → ltb b high ≡ u → cond (top 7 (cond u 255 0)) b high ≡ b → low ≤ b → (low ≤ b) × (b ≤ high)
    above true less is more = let under = ltb-true b high less in (more, omega (arith, under))
    above false less is more = (more, omega (arith, is))

    lowest : (u : Bool) → b < low → cond (top 7 (cond u 255 0)) low high ≡ b → (low ≤ b) × (b ≤ high)
    lowest true less is = absurd (omega (arith, less, is))
    lowest false less is = absurd (omega (arith, less, is, ordered))

    below : (t : Bool) → ltb b low ≡ t
        → (let raised : ℕ = cond (top 7 (cond t 255 0)) low b in cond (top 7 (is_below raised high)) raised high) ≡ b
        → (low ≤ b) × (b ≤ high)
    below true less is = lowest (ltb low high) (ltb-true b low less) is
    below false less is = let more = ltb-false b low less in above (ltb b high) refl is (omega (arith, more))

-- a lane of both vectors that is not marked
lane : (b low high c least most : ℕ) → low ≤ high → least ≤ most
    → top 7 (bit_or (differs (clamped b low high) b) (differs (clamped c least most) c)) ≡ false
    → ((low ≤ b) × (b ≤ high)) × ((least ≤ c) × (c ≤ most))
lane b low high c least most ordered other_ordered none =
    go (eqb (clamped b low high) b) (eqb (clamped c least most) c) refl refl none
  where
    go : (t u : Bool) → eqb (clamped b low high) b ≡ t → eqb (clamped c least most) c ≡ u
        → top 7 (bit_or (cond (not t) 255 0) (cond (not u) 255 0)) ≡ false
        → ((low ≤ b) × (b ≤ high)) × ((least ≤ c) × (c ≤ most))
    go true true same other none = (
      inside b low high ordered (eqb-true (clamped b low high) b same),
      inside c least most other_ordered (eqb-true (clamped
          c least most) c other),
    )
    go true false same other none = absurd (true≢false none)
    go false true same other none = absurd (true≢false none)
    go false false same other none = absurd (true≢false none)

none_at : (marks : List Bool) → mask_l marks ≡ 0 → (k : ℕ) → get_or marks k false ≡ false
none_at [] none k = refl
none_at (m ∷ marks) none zero = go m none
  where
    go : (m : Bool) → cond m 1 0 + 2 * mask_l marks ≡ 0 → m ≡ false
    go true none = absurd (omega (arith, none))
    go false none = refl
none_at (m ∷ marks) none (suc k) = none_at marks (omega (arith, none)) k

digit : (b : ℕ) → (48 ≤ b) × (b ≤ 57) → is_digit b ≡ true
digit b within = let low = within.0 in let high = within.1 in grind (arith, low, high)

-- ---- twenty bytes

abbrev near : List ℕ → List ℕ → List ℕ → List ℕ
near bytes lows highs =
    let raised : List ℕ = sel_l (map (top 7) (zip2 is_below bytes lows)) lows bytes in
    sel_l (map (top 7) (zip2 is_below raised highs)) raised highs

abbrev others : List ℕ → List ℕ → List ℕ
others front back =
    zip2 bit_or (zip2 differs (near front (40 ∷ 48 ∷ 48 ∷ 48 ∷ 48 ∷ 48 ∷ 48 ∷ 48 ∷ 48 ∷ 48 ∷ 48 ∷ 46 ∷ 48 ∷ 48 ∷ 48 ∷ 48 ∷ [])
    (40 ∷ 57 ∷ 57 ∷ 57 ∷ 57 ∷ 57 ∷ 57 ∷ 57 ∷ 57 ∷ 57 ∷ 57 ∷ 46 ∷ 57 ∷ 57 ∷ 57 ∷ 57 ∷ [])) front)
    (zip2 differs (near back (48 ∷ 48 ∷ 48 ∷ 48 ∷ 48 ∷ 48 ∷ 48 ∷ 46 ∷ 48 ∷ 48 ∷ 48 ∷ 48 ∷ 48 ∷ 48 ∷ 41 ∷ 32 ∷ [])
    (57 ∷ 57 ∷ 57 ∷ 57 ∷ 57 ∷ 57 ∷ 57 ∷ 46 ∷ 57 ∷ 57 ∷ 57 ∷ 57 ∷ 57 ∷ 57 ∷ 41 ∷ 32 ∷ [])) back)

abbrev marks_of : List ℕ → List Bool
marks_of bytes = map (top 7) (others (take 16 bytes) (take 16 (drop 4 bytes)))

pub record IsUsual (bytes : List ℕ) : Type 0 where
  pub stamp : is_stamp (take 19 bytes) ≡ true
  pub blank : drop 19 bytes ≡ space ∷ []

abbrev Passes : List ℕ → Type 0
Passes bytes = eqb (mask_l (marks_of bytes) % 2 ^ 64) 0 ≡ true

twenty : (b0 b1 b2 b3 b4 b5 b6 b7 b8 b9 b10 b11 b12 b13 b14 b15 b16 b17 b18 b19 : ℕ)
    → Passes (b0 ∷ b1 ∷ b2 ∷ b3 ∷ b4 ∷ b5 ∷ b6 ∷ b7 ∷ b8 ∷ b9 ∷ b10 ∷ b11 ∷ b12 ∷ b13 ∷ b14 ∷ b15 ∷ b16 ∷ b17 ∷ b18 ∷ b19 ∷ [])
    → IsUsual (b0 ∷ b1 ∷ b2 ∷ b3 ∷ b4 ∷ b5 ∷ b6 ∷ b7 ∷ b8 ∷ b9 ∷ b10 ∷ b11 ∷ b12 ∷ b13 ∷ b14 ∷ b15 ∷ b16 ∷ b17 ∷ b18 ∷ b19 ∷ [])
twenty b0 b1 b2 b3 b4 b5 b6 b7 b8 b9 b10 b11 b12 b13 b14 b15 b16 b17 b18 b19 passes =
    let marks : List Bool = marks_of (b0 ∷ b1 ∷ b2 ∷ b3 ∷ b4 ∷ b5 ∷ b6 ∷ b7 ∷ b8 ∷ b9 ∷ b10 ∷ b11 ∷ b12 ∷ b13 ∷ b14 ∷ b15 ∷ b16
    ∷ b17 ∷ b18 ∷ b19 ∷ []) in
    let none : mask_l marks ≡ 0 = sym (mask_l-mod marks 64 (omega arith)) ∙ eqb-true (mask_l marks % 2 ^ 64) 0 passes in
    let lane0 = lane b0 40 40 b4 48 57 (omega arith) (omega arith) (none_at marks none 0) in
    let lane1 = lane b1 48 57 b5 48 57 (omega arith) (omega arith) (none_at marks none 1) in
    let lane2 = lane b2 48 57 b6 48 57 (omega arith) (omega arith) (none_at marks none 2) in
    let lane3 = lane b3 48 57 b7 48 57 (omega arith) (omega arith) (none_at marks none 3) in
    let lane4 = lane b4 48 57 b8 48 57 (omega arith) (omega arith) (none_at marks none 4) in
    let lane5 = lane b5 48 57 b9 48 57 (omega arith) (omega arith) (none_at marks none 5) in
    let lane6 = lane b6 48 57 b10 48 57 (omega arith) (omega arith) (none_at marks none 6) in
    let lane7 = lane b7 48 57 b11 46 46 (omega arith) (omega arith) (none_at marks none 7) in
    let lane8 = lane b8 48 57 b12 48 57 (omega arith) (omega arith) (none_at marks none 8) in
    let lane9 = lane b9 48 57 b13 48 57 (omega arith) (omega arith) (none_at marks none 9) in
    let lane10 = lane b10 48 57 b14 48 57 (omega arith) (omega arith) (none_at marks none 10) in
    let lane11 = lane b11 46 46 b15 48 57 (omega arith) (omega arith) (none_at marks none 11) in
    let lane12 = lane b12 48 57 b16 48 57 (omega arith) (omega arith) (none_at marks none 12) in
    let lane13 = lane b13 48 57 b17 48 57 (omega arith) (omega arith) (none_at marks none 13) in
    let lane14 = lane b14 48 57 b18 41 41 (omega arith) (omega arith) (none_at marks none 14) in
    let lane15 = lane b15 48 57 b19 32 32 (omega arith) (omega arith) (none_at marks none 15) in
    let opening : b0 ≡ 40 = let low = lane0.0.0 in let high = lane0.0.1 in omega (arith, low, high) in
    let point_is : b11 ≡ 46 = let low = lane11.0.0 in let high = lane11.0.1 in omega (arith, low, high) in
    let closing : b18 ≡ 41 = let low = lane14.1.0 in let high = lane14.1.1 in omega (arith, low, high) in
    let last : b19 ≡ 32 = let low = lane15.1.0 in let high = lane15.1.1 in omega (arith, low, high) in
    let is : IsStampText (b0 ∷ b1 ∷ b2 ∷ b3 ∷ b4 ∷ b5 ∷ b6 ∷ b7 ∷ b8 ∷ b9 ∷ b10 ∷ b11 ∷ b12 ∷ b13 ∷ b14 ∷ b15 ∷ b16 ∷ b17 ∷ b18
    ∷ []) = record {
      seconds = b1 ∷ b2 ∷ b3 ∷ b4 ∷ b5 ∷ b6 ∷ b7 ∷ b8 ∷ b9 ∷ b10 ∷ [];
      fraction = b12 ∷ b13 ∷ b14 ∷ b15 ∷ b16 ∷ b17 ∷ [];
      spelled = rw (opening, point_is, closing) refl;
      seconds_are = record {
        some = omega arith;
        digit = (
          digit b1 lane1.0,
          (
            digit b2 lane2.0,
            (
              digit b3 lane3.0,
              (
                digit b4
                    lane4.0,
                (
                  digit b5 lane5.0,
                  (
                    digit b6 lane6.0,
                    (
                      digit b7 lane7.0,
                      (
                        digit b8 lane8.0,
                        (
                          digit b9 lane9.0,
                          (
                            digit b10
                                lane10.0,
                            tt,
                          ),
                        ),
                      ),
                    ),
                  ),
                ),
              ),
            ),
          ),
        );
      };
      fraction_is = record {
        some = omega arith;
        digit = (
          digit b12 lane12.0,
          (
            digit b13 lane13.0,
            (
              digit b14 lane14.0,
              (
                digit
                    b15 lane15.0,
                (digit b16 lane12.1, (digit b17 lane13.1, tt)),
              ),
            ),
          ),
        );
      };
      short = omega arith;
    } in
    record {
      stamp = stamp_there (b0 ∷ b1 ∷ b2 ∷ b3 ∷ b4 ∷ b5 ∷ b6 ∷ b7 ∷ b8 ∷ b9 ∷ b10 ∷ b11 ∷ b12 ∷ b13 ∷ b14 ∷ b15 ∷ b16 ∷
          b17 ∷ b18 ∷ []) is;
      blank = rw last refl;
    }

pub usual : (bytes : List ℕ) → length bytes ≡ 20 → Passes bytes → IsUsual bytes
usual bytes long =
    subst (λ (bytes : List ℕ). Passes bytes → IsUsual bytes) (pick_l_whole 0 bytes 20 long)
    (twenty (get_or bytes 0 0) (get_or bytes 1 0) (get_or bytes 2 0) (get_or bytes 3 0) (get_or bytes 4 0) (get_or bytes 5 0)
    (get_or bytes 6 0) (get_or bytes 7 0) (get_or bytes 8 0) (get_or bytes 9 0) (get_or bytes 10 0) (get_or bytes 11 0) (get_or
    bytes 12 0) (get_or bytes 13 0) (get_or bytes 14 0) (get_or bytes 15 0) (get_or bytes 16 0) (get_or bytes 17 0) (get_or
    bytes 18 0) (get_or bytes 19 0))
