-- The end of a word, found by runs of bytes.
use Rattle.std.proofs.Common.{◌-◌, ◌≡◌, ℕ, zero, suc, ◌+◌, ◌%◌, ◌^◌, ◌≤◌, bit_or, eqb, cond, Bool, true, false}
use Rattle.std.proofs.Common.{not, ◌||◌, List, [], ◌∷◌}
use Rattle.std.proofs.Common.{length, take, drop, map, replicate, refl, ap, ap₂, ◌∙◌, arith}
use Rattle.std.specs.List.{prefix_len}
use Rattle.std.specs.Array.{IsFirstChunk}
use Rattle.std.proofs.lemmas.List.{take_rest, drop-drop, length-drop, length-map}
use Rattle.std.proofs.lemmas.Simd.{zip2_of_maps, splat_is_map, mask_l-mod}
use lib.Lanes.{chunk, zip2, mask_l, top}
use Rattle.can_frames.specs.LogLines.{is_log_blank}
use Rattle.can_frames.proofs.Lanes.{loaded_whole, mapped, equals}

abbrev not_blank : ℕ → Bool
not_blank b = not (is_log_blank b)

goes_on : (b : ℕ) (n : ℕ) (s : List ℕ) (first : Bool) → is_log_blank b ≡ first
    → suc n ≤ cond (not first) (1 + prefix_len not_blank (take n s)) 0
    → (n ≤ prefix_len not_blank (take n s) → prefix_len not_blank s ≡ n + prefix_len not_blank (drop n s))
    → prefix_len not_blank (b ∷ s) ≡ suc n + prefix_len not_blank (drop n s)
goes_on b n s true is none later = absurd (omega (arith, none))
goes_on b n s false is none later = rw (is, later (omega (arith, none))) (omega arith)

-- a run without blanks is a part of the word
word_goes_on : (n : ℕ) (s : List ℕ) → n ≤ length s → n ≤ prefix_len not_blank (take n s)
    → prefix_len not_blank s ≡ n + prefix_len not_blank (drop n s)
word_goes_on zero s fits none = omega arith
word_goes_on (suc n) [] fits none = absurd (omega (arith, fits))
word_goes_on (suc n) (b ∷ s) fits none = goes_on b n s (is_log_blank b) refl none (word_goes_on n s (omega (arith, fits)))

-- so it goes on after the bytes seen before
pub further : (at : ℕ) (s run : List ℕ) (r : ℕ) → IsFirstChunk (take (length s - at) (drop at s)) run 16
    → 16 ≤ prefix_len not_blank run → at ≤ length s
    → at + prefix_len not_blank (drop at s) ≡ r → (at + 16 ≤ length s)
    × (at + 16 + prefix_len not_blank (drop (at + 16) s) ≡ r)
further at s run r chunk none le so_far =
    let enough : 16 ≤ length (drop at s) = rw (← take_rest s at) chunk.enough in
    let run_is : run ≡ take 16 (drop at s) = chunk.same ∙ ap (take 16) (take_rest s at) in
    let count : prefix_len not_blank run ≡ prefix_len not_blank (take 16 (drop at s)) = ap (prefix_len not_blank) run_is in
    let more = word_goes_on 16 (drop at s) enough (omega (arith, none, count)) in
    let after : prefix_len not_blank (drop 16 (drop at s)) ≡ prefix_len not_blank (drop (at + 16) s) =
    ap (prefix_len not_blank) (drop-drop 16 at s) in
    (omega (arith, enough, length-drop at s), omega (arith, more, after, so_far))

-- ---- blanks as lanes of a vector

blank_lane : (b : ℕ) → top 7 (bit_or (equals b 32) (equals b 9)) ≡ is_log_blank b
blank_lane b = go (eqb b 32) (eqb b 9)
  where
    go : (t u : Bool) → top 7 (bit_or (cond t 255 0) (cond u 255 0)) ≡ t || u
    go true true = refl
    go true false = refl
    go false true = refl
    go false false = refl

blank_marks : (bytes : List ℕ) → map (λ b. top 7 (bit_or (equals b 32) (equals b 9))) bytes ≡ map is_log_blank bytes
blank_marks [] = refl
blank_marks (b ∷ bytes) = ap₂ (λ one more. one ∷ more) (blank_lane b) (blank_marks bytes)

pub blank_mask : (bytes : List ℕ) → length bytes ≡ 16
    → mask_l (map (top 7) (zip2 bit_or (zip2 equals (chunk 0 16 bytes) (replicate 16 32)) (zip2 equals (chunk 0 16 bytes)
    (replicate 16 9)))) % 2 ^ 64
    ≡ mask_l (map is_log_blank bytes)
blank_mask bytes long =
    let loaded = loaded_whole bytes 16 long in
    let spaces = zip2_of_maps equals _ _ bytes loaded (splat_is_map bytes 16 32 long) in
    let tabs = zip2_of_maps equals _ _ bytes loaded (splat_is_map bytes 16 9 long) in
    let lanes = mapped (top 7) _ bytes (zip2_of_maps bit_or _ _ bytes spaces tabs) ∙ blank_marks bytes in
    ap (λ marks. mask_l marks % 2 ^ 64) lanes
    ∙ mask_l-mod (map is_log_blank bytes) 64 (omega (arith, length-map bytes is_log_blank, long))
