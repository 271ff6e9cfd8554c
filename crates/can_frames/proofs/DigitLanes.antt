-- Digits sixteen at a time, as lanes of a vector.
use Rattle.std.proofs.Common.{◌≡◌, ℕ, ◌+◌, ◌-◌, ◌*◌, ◌%◌, ◌^◌, ◌<◌, bit_and, eqb, eqb-true, eq-eqb, Bool, true, false}
use Rattle.std.proofs.Common.{true≢false, not}
use Rattle.std.proofs.Common.{cond, List, [], ◌∷◌, ◌++◌, length, get_or, drop, map, replicate, Option, Some, None, Result, Ok}
use Rattle.std.proofs.Common.{Err, Fits}
use Rattle.std.proofs.Common.{w8, refl, sym, ap, subst, ◌∙◌, arith}
use Rattle.std.specs.Result.{result_ok}
use Rattle.std.proofs.lemmas.Bool.{agree_below, agree_below_at}
use Rattle.std.proofs.lemmas.List.{length-map}
use Rattle.std.proofs.lemmas.Simd.{zip2_splat, zip2_of_maps, splat_is_map, tops_compared, mask_l-mod, pick_l_whole}
use lib.Lanes.{zip2, pick_l, mask_l, top}
use Rattle.hex.specs.Hex.{hex_digit_value, digit_or_error, decode_pairs, decode_of, ◌>>=◌}
use Rattle.hex.specs.declared.error.FromHexError.{FromHexError}
use Rattle.can_frames.proofs.Digits.{hex_small}
use Rattle.can_frames.proofs.Lanes.{mapped, same_lanes, added, differs}

-- what a lane is worth: nothing, if it has one of the four high bits
abbrev pub has_high : ℕ → Bool
has_high value = not (eqb (bit_and value 240) 0)

abbrev pub worth : ℕ → Option ℕ
worth value = cond (eqb (bit_and value 240) 0) (Some value) None

abbrev same_worth : Option ℕ → Option ℕ → Bool
same_worth (Some x) (Some y) = eqb x y
same_worth (Some x) None = false
same_worth None (Some y) = false
same_worth None None = true

same_from_worth : (o p : Option ℕ) → same_worth o p ≡ true → o ≡ p
same_from_worth (Some x) (Some y) is = ap Some (eqb-true x y is)
same_from_worth (Some x) None is = absurd (true≢false (sym is))
same_from_worth None (Some y) is = absurd (true≢false (sym is))
same_from_worth None None is = refl

-- lanes that were computed from bytes are worth what the digits are, if they are at each byte
pub values_read : (f : ℕ → ℕ) (bytes : List ℕ) {lanes : List ℕ} → lanes ≡ map f bytes
    → ((k : ℕ) → Fits w8 (get_or bytes k 0))
    → agree_below (λ b. same_worth (worth (f b)) (hex_digit_value b)) (λ b. true) 256 ≡ true
    → map worth lanes ≡ map hex_digit_value bytes
values_read f bytes is fits all =
    mapped worth f bytes is
    ∙ same_lanes (λ b. worth (f b)) hex_digit_value (λ b within. same_from_worth (worth (f b)) (hex_digit_value b)
    (agree_below_at (λ b. same_worth (worth (f b)) (hex_digit_value b)) (λ b. true) 256 b all within)) bytes fits

-- the bytes of pairs of values, if all are there
abbrev pub pair_given : Option ℕ → Option ℕ → Option (List ℕ) → Option (List ℕ)
pair_given (Some high) (Some low) (Some bytes) = Some ((high * 16 + low) ∷ bytes)
pair_given (Some high) (Some low) None = None
pair_given (Some high) None bytes = None
pair_given None low bytes = None

abbrev pub given : List (Option ℕ) → Option (List ℕ)
given [] = Some []
given (value ∷ []) = None
given (high ∷ low ∷ lanes) = pair_given high low (given lanes)

pair_decodes : (i high low : ℕ) (h l : Option ℕ) (r : Result (List ℕ) FromHexError)
    → result_ok ((digit_or_error high i h >>= (λ h. digit_or_error low (i + 1) l >>= (λ l. Ok (h * 16 + l)))) >>=
    (λ byte. r >>= (λ bytes. Ok (byte ∷ bytes)))) ≡ pair_given h l (result_ok r)
pair_decodes i high low None l r = refl
pair_decodes i high low (Some h) None r = refl
pair_decodes i high low (Some h) (Some l) (Err e) = refl
pair_decodes i high low (Some h) (Some l) (Ok bytes) = refl

pairs_decode : (i : ℕ) (digits : List ℕ) → result_ok (decode_pairs i digits) ≡ given (map hex_digit_value digits)
unfolding decode_pairs
pairs_decode i [] = refl
pairs_decode i (digit ∷ []) = refl
pairs_decode i (high ∷ low ∷ digits) =
    pair_decodes i high low (hex_digit_value high) (hex_digit_value low) (decode_pairs (i + 2) digits)
    ∙ ap (pair_given (hex_digit_value high) (hex_digit_value low)) (pairs_decode (i + 2) digits)

pub decodes : (digits : List ℕ) → length digits % 2 ≡ 0 → result_ok (decode_of digits) ≡ given (map hex_digit_value digits)
decodes digits even = rw even (pairs_decode 0 digits)

-- the bytes of pairs of values, as lanes make them
abbrev pub joined : List ℕ → List ℕ
joined [] = []
joined (value ∷ []) = []
joined (high ∷ low ∷ lanes) = added (high * 16 % 2 ^ 8) low ∷ joined lanes

abbrev even_lanes : List ℕ
even_lanes = 0 ∷ 2 ∷ 4 ∷ 6 ∷ 8 ∷ 10 ∷ 12 ∷ 14 ∷ []

abbrev odd_lanes : List ℕ
odd_lanes = 1 ∷ 3 ∷ 5 ∷ 7 ∷ 9 ∷ 11 ∷ 13 ∷ 15 ∷ []

abbrev times : ℕ → ℕ → ℕ
times a b = a * b % 2 ^ 8

pub joined_lanes : (lanes : List ℕ) → length lanes ≡ 16
    → zip2 added (zip2 times (pick_l 0 (lanes ++ lanes) even_lanes) (replicate 8 16)) (pick_l 0 (lanes ++ lanes) odd_lanes)
    ≡ joined lanes
joined_lanes lanes long = subst (λ (lanes : List ℕ). zip2 added (zip2 times (pick_l 0 (lanes ++ lanes) even_lanes) (replicate 8 16))
    (pick_l 0 (lanes ++ lanes) odd_lanes) ≡ joined lanes) (pick_l_whole 0 lanes 16 long) refl

-- one with some of the high bits marks its lane
pub high_marks : (lanes : List ℕ) → length lanes ≡ 16
    → mask_l (map (top 7) (zip2 differs (zip2 bit_and lanes (replicate 16 240)) (replicate 16 0))) % 2 ^ 64
    ≡ mask_l (map has_high lanes)
high_marks lanes long =
    let other : ℕ → ℕ → Bool = λ a b. not (eqb a b) in
    let high = zip2_splat bit_and lanes 16 240 long in
    let marks = tops_compared w8 other (zip2 bit_and lanes (replicate 16 240)) (replicate 16 0)
    ∙ zip2_of_maps other _ _ lanes high (splat_is_map lanes 16 0 long) in
    ap (λ marks. mask_l marks % 2 ^ 64) marks ∙ mask_l-mod (map has_high lanes) 64 (omega (arith, length-map lanes has_high, long))

pub none_given : (lanes : List ℕ) → eqb (mask_l (map has_high lanes)) 0 ≡ false → given (map worth lanes) ≡ None
none_given [] some = absurd (true≢false some)
none_given (value ∷ []) some = refl
none_given (high ∷ low ∷ lanes) some = go (eqb (bit_and high 240) 0) (eqb (bit_and low 240) 0) some (none_given lanes)
  where
    go : (t u : Bool) → eqb (cond (not t) 1 0 + 2 * (cond (not u) 1 0 + 2 * mask_l (map has_high lanes))) 0 ≡ false
        → (eqb (mask_l (map has_high lanes)) 0 ≡ false → given (map worth lanes) ≡ None)
        → pair_given (cond t (Some high) None) (cond u (Some low) None) (given (map worth lanes)) ≡ None
    go false u some later = refl
    go true false some later = refl
    go true true some later = rw (later (grind (arith, some))) refl

lane_small : (value digit : ℕ) → worth value ≡ hex_digit_value digit → eqb (bit_and value 240) 0 ≡ true → value < 16
lane_small value digit same none = hex_small digit value (sym same ∙ ap (λ t. cond t (Some value) None) none)

all_step : (high low first second : ℕ) (lanes : List ℕ) (t u : Bool) → eqb (bit_and high 240) 0 ≡ t → eqb (bit_and low 240) 0 ≡ u
    → worth high ≡ hex_digit_value first → worth low ≡ hex_digit_value second
    → eqb (cond (not t) 1 0 + 2 * (cond (not u) 1 0 + 2 * mask_l (map has_high lanes))) 0 ≡ true
    → (eqb (mask_l (map has_high lanes)) 0 ≡ true → given (map worth lanes) ≡ Some (joined lanes))
    → pair_given (cond t (Some high) None) (cond u (Some low) None) (given (map worth lanes)) ≡ Some (joined (high ∷ low ∷ lanes))
all_step high low first second lanes false u h l one two none later =
    let zero = eqb-true (1 + 2 * (cond (not u) 1 0 + 2 * mask_l (map has_high lanes))) 0 none in absurd (omega (arith, zero))
all_step high low first second lanes true false h l one two none later =
    let zero = eqb-true (0 + 2 * (1 + 2 * mask_l (map has_high lanes))) 0 none in absurd (omega (arith, zero))
all_step high low first second lanes true true h l one two none later =
    let above = lane_small high first one h in
    let below = lane_small low second two l in
    let byte : high * 16 + low ≡ added (high * 16 % 2 ^ 8) low = omega (arith, above, below) in
    let zero = eqb-true (0 + 2 * (0 + 2 * mask_l (map has_high lanes))) 0 none in
    rw (later (eq-eqb (mask_l (map has_high lanes)) 0 (omega (arith, zero)))) (ap (λ (byte : ℕ). Some (byte ∷ joined lanes)) byte)

pub all_given : (lanes digits : List ℕ) (half : ℕ) → length lanes ≡ 2 * half → map worth lanes ≡ map hex_digit_value digits
    → eqb (mask_l (map has_high lanes)) 0 ≡ true → given (map worth lanes) ≡ Some (joined lanes)
all_given [] digits half even same none = refl
all_given (value ∷ []) digits half even same none = let no : ⊥ = omega (arith, even) in absurd no
all_given (high ∷ low ∷ lanes) [] half even same none = absurd (let no : worth high ∷ worth low ∷ map worth lanes ≡ [] = same in cc)
all_given (high ∷ low ∷ lanes) (digit ∷ []) half even same none =
    absurd (let no : worth high ∷ worth low ∷ map worth lanes ≡ hex_digit_value digit ∷ [] = same in cc)
all_given (high ∷ low ∷ lanes) (first ∷ second ∷ digits) half even same none =
    all_step high low first second lanes (eqb (bit_and high 240) 0) (eqb (bit_and low 240) 0) refl refl
    (ap (λ l. get_or l 0 None) same) (ap (λ l. get_or l 1 None) same) none
    (all_given lanes digits (half - 1) (omega (arith, even)) (ap (drop 2) same))
