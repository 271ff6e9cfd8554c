-- Parts of digits that are in a larger buffer.
use Rattle.std.proofs.Common.{◌≡◌, ℕ, ◌+◌, ◌-◌, ◌<◌, ◌≤◌, List, [], ◌++◌, length, min, take, drop, sym, ap, ◌∙◌, arith}
use Rattle.std.proofs.Common.{append-nil, append_assoc}
use Rattle.std.proofs.Math.Seq.{take-append_seam, take-append-add}
use Rattle.std.proofs.lemmas.List.{drop-drop, take-take, drop-take, length-take, length-take-le, length-drop}
use Rattle.std.proofs.lemmas.List.{take-append-le, drop-append-le, drop_all}

-- the digits, as they were written
pub digits_in_space : (start : ℕ) (space rest digits : List ℕ) → drop start space ≡ digits ++ rest → start + length digits ≡ 20
    → take (20 - start) (drop start space) ≡ digits
digits_in_space start space rest digits written ends =
    let count : 20 - start ≡ length digits = omega arith in
    ap (λ (n : ℕ). take n (drop start space)) count ∙ ap (take (length digits)) written ∙ take-append_seam digits rest

-- some of them, as they are copied
part_in_space : (start from count m : ℕ) (space : List ℕ) → count ≤ m → m ≤ 32
    → take count (take 32 (drop (start + from) space)) ≡ take count (drop from (take (from + m) (drop start space)))
part_in_space start from count m space few most =
    let all : count ≤ 32 = omega (arith, few, most) in
    take-take count 32 (drop (start + from) space) all
    ∙ sym (take-take count m (drop (start + from) space) few)
    ∙ ap (λ (part : List ℕ). take count (take m part)) (sym (drop-drop from start space))
    ∙ ap (take count) (sym (drop-take from m (drop start space)))

pub part_is : (start from count : ℕ) (space digits chunk : List ℕ) → start ≤ 20 → take (20 - start) (drop start space) ≡ digits
    → from + count ≤ length digits → chunk ≡ take 32 (take (52 - (start + from)) (drop (start + from) space))
    → take count (drop from digits) ≡ take count chunk
part_is start from count space digits chunk inside seen within is =
    let m : ℕ = 20 - start - from in
    let long : length digits ≡ min (20 - start) (length (drop start space)) = ap (λ (ds : List ℕ). length ds) (sym seen)
    ∙ length-take (20 - start) (drop start space) in
    let few : count ≤ m = omega (arith, within, long) in
    let all : 20 - start ≡ from + m = omega (arith, within, long) in
    ap (λ (ds : List ℕ). take count (drop from ds)) (sym seen ∙ ap (λ (n : ℕ). take n (drop start space)) all)
    ∙ sym (part_in_space start from count m space few (omega arith))
    ∙ ap (take count) (sym (is ∙ take-take 32 (52 - (start + from)) (drop (start + from) space) (omega (
      arith,
      inside,
      within,
      long,
    ))))

-- a part of a piece that was written whole
pub part_written : (at count n : ℕ) (space piece rest : List ℕ) → count ≤ n → length piece ≡ n → at ≤ length space
    → take (at + count) (take at space ++ (piece ++ rest)) ≡ take at space ++ take count piece
part_written at count n space piece rest few whole within =
    let before : length (take at space) ≡ at = length-take-le at space within in
    ap (λ (m : ℕ). take (m + count) (take at space ++ (piece ++ rest))) (sym before)
    ∙ take-append-add (take at space) (piece ++ rest) count
    ∙ ap (λ (ys : List ℕ). take at space ++ ys) (take-append-le count piece rest (omega (arith, few, whole)))

-- a text after its first two bytes, as it is copied
after_two : (count : ℕ) (front chunk rest : List ℕ) → chunk ≡ take 30 (take 30 (drop 2 front)) → 2 ≤ count → count ≤ 32
    → 30 ≤ length (take 30 (drop 2 front)) → drop 2 (take count front ++ rest) ≡ take (count - 2) chunk ++ rest
after_two count front chunk rest is some few whole =
    let all : count ≡ 2 + (count - 2) = omega (arith, some) in
    let long : 2 ≤ length (take count front) =
    omega (arith, some, few, whole, length-take count front, length-take 30 (drop 2 front), length-drop 2 front) in
    drop-append-le 2 (take count front) rest long
    ∙ ap (λ (ys : List ℕ). ys ++ rest) (ap (λ (n : ℕ). drop 2 (take n front)) all
    ∙ drop-take 2 (count - 2) front
    ∙ sym (take-take (count - 2) 30 (drop 2 front) (omega (arith, few)))
    ∙ ap (take (count - 2)) (sym (is ∙ take-take 30 30 (drop 2 front) (omega arith))))

pub pushed_after_two : (old mid new front chunk rest : List ℕ) (count : ℕ) → new ≡ mid ++ rest
    → mid ≡ old ++ take (count - 2) chunk → chunk ≡ take 30 (take 30 (drop 2 front)) → 2 ≤ count → count ≤ 32
    → 30 ≤ length (take 30 (drop 2 front)) → new ≡ old ++ drop 2 (take count front ++ rest)
pushed_after_two old mid new front chunk rest count pushed first is some few whole =
    pushed
    ∙ ap (λ (ys : List ℕ). ys ++ rest) first
    ∙ append_assoc old (take (count - 2) chunk) rest
    ∙ ap (λ (ys : List ℕ). old ++ ys) (sym (after_two count front chunk rest is some few whole))

-- a shorter text has none
pub after_two_of_short : (count : ℕ) (front rest : List ℕ) → count < 2 → rest ≡ [] → drop 2 (take count front ++ rest) ≡ []
after_two_of_short count front rest few none =
    ap (λ (ys : List ℕ). drop 2 (take count front ++ ys)) none
    ∙ ap (drop 2) (append-nil (take count front))
    ∙ drop_all 2 (take count front) (omega (arith, few, length-take count front))
