-- Hexadecimal digits read piece by piece.
use Rattle.std.proofs.Common.{◌≡◌, ℕ, ◌+◌, ◌-◌, ◌*◌, ◌/◌, ◌%◌, ◌<◌, ◌==◌, true, cond, List, [], ◌∷◌, ◌++◌, length, take, drop}
use Rattle.std.proofs.Common.{map, length-append}
use Rattle.std.proofs.Common.{Option, Some, None, take-append-drop, refl, sym, ap, ◌∙◌, arith, inl, inr, eq-eqb}
use Rattle.std.specs.Prelude.{option_map}
use Rattle.std.specs.Result.{result_ok}
use Rattle.std.proofs.lemmas.Bool.{cases_eq}
use Rattle.std.proofs.lemmas.List.{append_assoc, append-nil, length-map, map-append}
use Rattle.std.specs.List.{range_with_len}
use Rattle.std.proofs.Math.Seq.{take-append_seam}
use Rattle.std.proofs.lemmas.Simd.{pick_l_whole, pick_l-range_with_len}
use lib.Lanes.{pick_l}
use Rattle.hex.specs.Hex.{hex_digit_value, decode_of}
use Rattle.can_frames.proofs.Hexadecimals.{length-SpellsBytes, bytes_found}
use Rattle.can_frames.proofs.DigitLanes.{pair_given, given, decodes}

none_following : (high low : Option ℕ) → pair_given high low None ≡ None
none_following None low = refl
none_following (Some high) None = refl
none_following (Some high) (Some low) = refl

odd_given : (half : ℕ) (values : List (Option ℕ)) → length values ≡ 2 * half + 1 → given values ≡ None
odd_given half [] odd = absurd (omega (arith, odd))
odd_given half (value ∷ []) odd = refl
odd_given half (high ∷ low ∷ values) odd =
    ap (pair_given high low) (odd_given (half - 1) values (omega (arith, odd))) ∙ none_following high low

-- digits spell what their values do; an odd one spells nothing
pub all_decode : (digits : List ℕ) → result_ok (decode_of digits) ≡ given (map hex_digit_value digits)
all_decode digits =
    elim (cases_eq (length digits % 2) 1) [
      | inl odd ↦
          let is : (length digits % 2 == 1) ≡ true = eq-eqb (length digits % 2) 1 odd in
          rw is (sym (odd_given (length digits / 2) (map hex_digit_value digits) (omega (
            arith,
            odd,
            length-map digits
                hex_digit_value,
          ))))
      | inr even ↦ decodes digits (omega (arith, even))
    ]

-- an odd digit spells nothing
pub odd_fails : (digits : List ℕ) → length digits % 2 ≡ 1 → None ≡ result_ok (decode_of digits)
odd_fails digits odd =
    sym (all_decode digits ∙ odd_given (length digits / 2) (map hex_digit_value digits) (omega (
      arith,
      odd,
      length-map digits
          hex_digit_value,
    )))

-- bytes, and then others
abbrev pub both : Option (List ℕ) → Option (List ℕ) → Option (List ℕ)
both (Some front) (Some rest) = Some (front ++ rest)
both (Some front) None = None
both None rest = None

both_nil : (rest : Option (List ℕ)) → rest ≡ both (Some []) rest
both_nil (Some rest) = refl
both_nil None = refl

both_more : (front next : List ℕ) (rest : Option (List ℕ)) → both (Some front) (both (Some next) rest) ≡ both (Some (front ++
    next)) rest
both_more front next (Some rest) = ap Some (sym (append_assoc front next rest))
both_more front next None = refl

pair_both : (high low : Option ℕ) (front rest : Option (List ℕ)) → pair_given high low (both front rest) ≡ both (pair_given high
    low front) rest
pair_both None low front rest = refl
pair_both (Some high) None front rest = refl
pair_both (Some high) (Some low) None rest = refl
pair_both (Some high) (Some low) (Some front) None = refl
pair_both (Some high) (Some low) (Some front) (Some rest) = refl

given_append : (half : ℕ) (front rest : List (Option ℕ)) → length front ≡ 2 * half → given (front ++ rest) ≡ both (given front)
    (given rest)
given_append half [] rest even = both_nil (given rest)
given_append half (value ∷ []) rest even = absurd (omega (arith, even))
given_append half (high ∷ low ∷ front) rest even =
    ap (pair_given high low) (given_append (half - 1) front rest (omega (arith, even))) ∙ pair_both high low (given front) (given
    rest)

-- ---- a loop over digits: the bytes that were read, and what the digits that are left spell

abbrev pub so_far : List ℕ → List ℕ → Option (List ℕ)
so_far bytes rest = both (Some bytes) (given (map hex_digit_value rest))

pub starts : (digits : List ℕ) → so_far [] digits ≡ result_ok (decode_of digits)
starts digits = sym (both_nil (given (map hex_digit_value digits))) ∙ sym (all_decode digits)

piece_given : (half : ℕ) (rest piece after : List ℕ) → piece ≡ take (2 * half) rest → after ≡ drop (2 * half) rest
    → length after + 2 * half ≡ length rest
    → given (map hex_digit_value rest) ≡ both (result_ok (decode_of piece)) (given (map hex_digit_value after))
piece_given half rest piece after front back long =
    let whole : piece ++ after ≡ rest = ap (λ piece. piece ++ after) front ∙ ap (λ after. take (2 * half) rest ++ after) back
    ∙ take-append-drop (2 * half) rest in
    let piece_long : length (map hex_digit_value piece) ≡ 2 * half =
    let both_long = ap length whole in omega (
      arith,
      both_long,
      length-append piece after,
      long,
      length-map piece
          hex_digit_value,
    ) in
    ap (λ digits. given (map hex_digit_value digits)) (sym whole) ∙ ap given (map-append hex_digit_value piece after)
    ∙ given_append half (map hex_digit_value piece) (map hex_digit_value after) piece_long
    ∙ ap (λ front. both front (given (map hex_digit_value after))) (sym (all_decode piece))

module _ (half : ℕ) (bytes rest piece after : List ℕ) {all : Option (List ℕ)} (is : so_far bytes rest ≡ all)
    (front : piece ≡ take (2 * half) rest) (back : after ≡ drop (2 * half) rest) (long : length after + 2 * half ≡ length
    rest) where
  -- one piece more is read
  pub goes_on : (more : List ℕ) → Some more ≡ result_ok (decode_of piece) → so_far (bytes ++ more) after ≡ all
  goes_on more read =
      sym (both_more bytes more (given (map hex_digit_value after)))
      ∙ ap (both (Some bytes)) (ap (λ front. both front (given (map hex_digit_value after))) read
      ∙ sym (piece_given half rest piece after front back long)) ∙ is

  -- one spells nothing, so all of them don't
  pub fails : None ≡ result_ok (decode_of piece) → None ≡ all
  fails none =
      ap (both (Some bytes)) (ap (λ front. both front (given (map hex_digit_value after))) none
      ∙ sym (piece_given half rest piece after front back long)) ∙ is

-- less than a pair is left
pub ends : (bytes rest : List ℕ) {all : Option (List ℕ)} → so_far bytes rest ≡ all → length rest < 2
    → cond (length rest == 0) (Some bytes) None ≡ all
ends bytes [] is short = ap Some (sym (append-nil bytes)) ∙ is
ends bytes (digit ∷ []) is short = is
ends bytes (digit ∷ other ∷ rest) is short = absurd (omega (arith, short))

pub given_following : (bytes digits : List ℕ) → so_far bytes digits ≡ option_map (λ more. bytes ++ more) (result_ok (decode_of
    digits))
given_following bytes digits = go (given (map hex_digit_value digits)) (all_decode digits)
  where
    go : (more : Option (List ℕ)) → result_ok (decode_of digits) ≡ more
        → both (Some bytes) more ≡ option_map (λ more. bytes ++ more) (result_ok (decode_of digits))
    go None is = rw is refl
    go (Some more) is = rw is refl

-- ---- eight digits, with zeros after them

abbrev zeros : List ℕ
zeros = 48 ∷ 48 ∷ 48 ∷ 48 ∷ 48 ∷ 48 ∷ 48 ∷ 48 ∷ []

-- what the digits and the zeros spell
padded_given : (digits : List ℕ) → length digits ≡ 8
    → result_ok (decode_of (digits ++ zeros)) ≡ both (result_ok (decode_of digits)) (Some (0 ∷ 0 ∷ 0 ∷ 0 ∷ []))
padded_given digits long =
    let eight : length (map hex_digit_value digits) ≡ 2 * 4 = omega (arith, length-map digits hex_digit_value, long) in
    all_decode (digits ++ zeros) ∙ ap given (map-append hex_digit_value digits zeros)
    ∙ given_append 4 (map hex_digit_value digits) (map hex_digit_value zeros) eight
    ∙ ap (λ front. both front (Some (0 ∷ 0 ∷ 0 ∷ 0 ∷ []))) (sym (all_decode digits))

abbrev spelled_out : List ℕ → List ℕ
spelled_out digits = pick_l 0 digits (range_with_len 0 8) ++ zeros

padded_is : (digits : List ℕ) → length digits ≡ 8 → spelled_out digits ≡ digits ++ zeros
padded_is digits long = ap (λ digits. digits ++ zeros) (pick_l_whole 0 digits 8 long)

pub eight_fail : (digits : List ℕ) → length digits ≡ 8 → None ≡ result_ok (decode_of (spelled_out digits))
    → None ≡ result_ok (decode_of digits)
eight_fail digits long none =
    go (result_ok (decode_of digits)) (none ∙ ap (λ digits. result_ok (decode_of digits)) (padded_is digits long)
    ∙ padded_given digits long)
  where
    go : (o : Option (List ℕ)) → None ≡ both o (Some (0 ∷ 0 ∷ 0 ∷ 0 ∷ [])) → None ≡ o
    go None none = refl
    go (Some bytes) none = absurd (let no : None ≡ Some (bytes ++ (0 ∷ 0 ∷ 0 ∷ 0 ∷ [])) = none in cc)

pub eight_read : (digits bytes : List ℕ) → length digits ≡ 8
    → Some bytes ≡ result_ok (decode_of (spelled_out digits))
    → Some (pick_l 0 bytes (range_with_len 0 4)) ≡ result_ok (decode_of digits)
eight_read digits bytes long is =
    let twice : 16 ≡ 2 * length bytes = length-SpellsBytes (spelled_out digits) bytes (bytes_found (spelled_out digits) bytes
    (sym is)) in
    go (omega (arith, twice)) (result_ok (decode_of digits))
    (is ∙ ap (λ digits. result_ok (decode_of digits)) (padded_is digits long) ∙ padded_given digits long)
  where
    go : length bytes ≡ 8 → (o : Option (List ℕ)) → Some bytes ≡ both o (Some (0 ∷ 0 ∷ 0 ∷ 0 ∷ []))
        → Some (pick_l 0 bytes (range_with_len 0 4)) ≡ o
    go eight None is = absurd (let no : Some bytes ≡ None = is in cc)
    go eight (Some four) is =
        let whole : bytes ≡ four ++ (0 ∷ 0 ∷ 0 ∷ 0 ∷ []) = let same : Some bytes ≡ Some (four ++ (0 ∷ 0 ∷ 0 ∷ 0 ∷ [])) = is in cc in
        let count : length four ≡ 4 = let both_long = ap length whole in
        omega (arith, both_long, eight, length-append four (0 ∷ 0 ∷ 0 ∷ 0 ∷ [])) in
        ap Some (pick_l-range_with_len 0 bytes 0 4 (omega (arith, eight)) ∙ ap (take 4) whole
        ∙ ap (λ n. take n (four ++ (0 ∷ 0 ∷ 0 ∷ 0 ∷ []))) (sym count) ∙ take-append_seam four (0 ∷ 0 ∷ 0 ∷ 0 ∷ []))
