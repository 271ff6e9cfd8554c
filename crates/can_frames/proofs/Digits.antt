-- Digits by a table of their values.
use Rattle.std.proofs.Common.{◌≡◌, ℕ, zero, suc, ◌+◌, ◌*◌, ◌%◌, ◌<◌, ◌≤◌, List, [], ◌∷◌, ◌++◌, length, length-append}
use Rattle.std.proofs.Common.{get_or, Option, Some, None, unwrap_or, inl, inr, refl, sym, ap, ◌∙◌}
use Rattle.std.proofs.Common.{arith}
use Rattle.std.proofs.lemmas.Bool.{cases_lt}
use Rattle.std.proofs.lemmas.List.{get_or_append_left, get_or_push}
use Rattle.std.proofs.Common.{take, drop, Result, Ok, Err}
use Rattle.std.specs.Result.{result_ok}
use Rattle.hex.specs.Hex.{hex_digit_value, pair_value, decode_pairs, decode_of}
use Rattle.hex.specs.declared.error.FromHexError.{FromHexError}
use Rattle.hex.proofs.Pairs.{prepend, decode_done, decode_err}

by_index : (n : ℕ) → (ℕ → ℕ) → List ℕ
by_index zero f = []
by_index (suc n) f = by_index n f ++ (f n ∷ [])

by_index_length : (n : ℕ) (f : ℕ → ℕ) → length (by_index n f) ≡ n
unfolding by_index
by_index_length zero f = refl
by_index_length (suc n) f = omega (arith, length-append (by_index n f) (f n ∷ []), by_index_length n f)

by_index_at : (n : ℕ) (f : ℕ → ℕ) (k d : ℕ) → k < n → get_or (by_index n f) k d ≡ f k
unfolding by_index
by_index_at zero f k d h = absurd (omega arith)
by_index_at (suc n) f k d h =
    elim (cases_lt k n) [
      | inl under ↦ get_or_append_left (by_index n f) (f n ∷ []) d k (rw (by_index_length n f) under) ∙ by_index_at n f k d under
      | inr over ↦
          let same : length (by_index n f) ≡ k = by_index_length n f ∙ (omega arith) in
          get_or_push (by_index n f) (f n) d k same ∙ ap f (omega arith)
    ]

abbrev value_or : ℕ → ℕ
value_or c = unwrap_or (hex_digit_value c) 255

abbrev pub values : List ℕ
values = 255 ∷ 255 ∷ 255 ∷ 255 ∷ 255 ∷ 255 ∷ 255 ∷ 255 ∷ 255 ∷ 255 ∷ 255 ∷ 255 ∷ 255 ∷ 255 ∷ 255 ∷ 255 ∷ 255 ∷ 255 ∷ 255 ∷ 255 ∷ 255
    ∷ 255 ∷ 255 ∷ 255 ∷ 255 ∷ 255 ∷ 255 ∷ 255 ∷ 255 ∷ 255 ∷ 255 ∷ 255 ∷ 255 ∷ 255 ∷ 255 ∷ 255 ∷ 255 ∷ 255 ∷ 255 ∷ 255 ∷ 255 ∷ 255
    ∷ 255 ∷ 255 ∷ 255 ∷ 255 ∷ 255 ∷ 255 ∷ 0 ∷ 1 ∷ 2 ∷ 3 ∷ 4 ∷ 5 ∷ 6 ∷ 7 ∷ 8 ∷ 9 ∷ 255 ∷ 255 ∷ 255 ∷ 255 ∷ 255 ∷ 255 ∷ 255 ∷ 10
    ∷ 11 ∷ 12 ∷ 13 ∷ 14 ∷ 15 ∷ 255 ∷ 255 ∷ 255 ∷ 255 ∷ 255 ∷ 255 ∷ 255 ∷ 255 ∷ 255 ∷ 255 ∷ 255 ∷ 255 ∷ 255 ∷ 255 ∷ 255 ∷ 255
    ∷ 255 ∷ 255 ∷ 255 ∷ 255 ∷ 255 ∷ 255 ∷ 255 ∷ 255 ∷ 255 ∷ 255 ∷ 10 ∷ 11 ∷ 12 ∷ 13 ∷ 14 ∷ 15 ∷ 255 ∷ 255 ∷ 255 ∷ 255
    ∷ 255 ∷ 255 ∷ 255 ∷ 255 ∷ 255 ∷ 255 ∷ 255 ∷ 255 ∷ 255 ∷ 255 ∷ 255 ∷ 255 ∷ 255 ∷ 255 ∷ 255 ∷ 255 ∷ 255 ∷ 255
    ∷ 255 ∷ 255 ∷ 255 ∷ 255 ∷ 255 ∷ 255 ∷ 255 ∷ 255 ∷ 255 ∷ 255 ∷ 255 ∷ 255 ∷ 255 ∷ 255 ∷ 255 ∷ 255 ∷ 255 ∷ 255
    ∷ 255 ∷ 255 ∷ 255 ∷ 255 ∷ 255 ∷ 255 ∷ 255 ∷ 255 ∷ 255 ∷ 255 ∷ 255 ∷ 255 ∷ 255 ∷ 255 ∷ 255 ∷ 255 ∷ 255
    ∷ 255 ∷ 255 ∷ 255 ∷ 255 ∷ 255 ∷ 255 ∷ 255 ∷ 255 ∷ 255 ∷ 255 ∷ 255 ∷ 255 ∷ 255 ∷ 255 ∷ 255 ∷ 255
    ∷ 255 ∷ 255 ∷ 255 ∷ 255 ∷ 255 ∷ 255 ∷ 255 ∷ 255 ∷ 255 ∷ 255 ∷ 255 ∷ 255 ∷ 255 ∷ 255 ∷ 255 ∷ 255
    ∷ 255 ∷ 255 ∷ 255 ∷ 255 ∷ 255 ∷ 255 ∷ 255 ∷ 255 ∷ 255 ∷ 255 ∷ 255 ∷ 255 ∷ 255 ∷ 255 ∷ 255
    ∷ 255 ∷ 255 ∷ 255 ∷ 255 ∷ 255 ∷ 255 ∷ 255 ∷ 255 ∷ 255 ∷ 255 ∷ 255 ∷ 255 ∷ 255 ∷ 255
    ∷ 255 ∷ 255 ∷ 255 ∷ 255 ∷ 255 ∷ 255 ∷ 255 ∷ 255 ∷ 255 ∷ 255 ∷ 255 ∷ 255 ∷ 255 ∷ 255
    ∷ 255 ∷ 255 ∷ 255 ∷ 255 ∷ 255 ∷ 255 ∷ 255 ∷ 255 ∷ 255 ∷ 255 ∷ 255 ∷ 255 ∷ 255
    ∷ 255 ∷ 255 ∷ 255 ∷ 255 ∷ 255 ∷ 255 ∷ 255 ∷ 255 ∷ []

values_are : values ≡ by_index 256 value_or
unfolding by_index
values_are = refl

value_is : (c d : ℕ) → c < 256 → get_or values c d ≡ value_or c
value_is c d within = ap (λ (l : List ℕ). get_or l c d) values_are ∙ by_index_at 256 value_or c d within

-- a value of the table is the digit's
some_of : (o : Option ℕ) (v : ℕ) → v ≡ unwrap_or o 255 → v < 16 → o ≡ Some v
some_of (Some x) v same small = ap Some (sym same)
some_of None v same small = absurd (omega arith)

pub digit_read : (c v d : ℕ) → c < 256 → v ≡ get_or values c d → v < 16 → hex_digit_value c ≡ Some v
digit_read c v d within is small = some_of (hex_digit_value c) v (is ∙ value_is c d within) small

pub hex_small : (digit value : ℕ) → hex_digit_value digit ≡ Some value → value < 16
hex_small digit value is = grind (arith, is)

none_of : (o : Option ℕ) (v : ℕ) → v ≡ unwrap_or o 255 → 16 ≤ v → ((x : ℕ) → o ≡ Some x → x < 16) → None ≡ o
none_of (Some x) v same large small = let less = small x refl in absurd (omega (arith, less))
none_of None v same large small = refl

-- and any other value is no digit's
pub digit_none : (c v d : ℕ) → c < 256 → v ≡ get_or values c d → 16 ≤ v → None ≡ hex_digit_value c
digit_none c v d within is large = none_of (hex_digit_value c) v (is ∙ value_is c d within) large (hex_small c)

-- two of them are a byte
pub pair_read : (high low above below : ℕ) → hex_digit_value high ≡ Some above → hex_digit_value low ≡ Some below → (index : ℕ)
    → pair_value high low index ≡ Ok (above * 16 + below)
pair_read high low above below first second index = rw (first, second) refl

even_pairs : (digits : List ℕ) {r : Result (List ℕ) FromHexError} → length digits % 2 ≡ 0 → decode_pairs 0 digits ≡ r
    → decode_of digits ≡ r
even_pairs digits even done = rw (even, done) refl

-- all of them
pub all_read : (digits out : List ℕ) (i : ℕ) → length digits ≡ 2 * length out → length out ≤ i
    → decode_pairs 0 digits ≡ prepend (take i out) (decode_pairs (2 * i) (drop (2 * i) digits)) → decode_of digits ≡ Ok out
all_read digits out i long end so_far =
    let even : length digits % 2 ≡ 0 = omega arith in
    let done = decode_done digits out i end (omega arith) so_far in
    even_pairs digits even done

pub ok_of : {A : Type 0} (r : Result A FromHexError) (value : A) → Some value ≡ result_ok r → r ≡ Ok value
ok_of (Ok x) value is = ap Ok (let same : Some value ≡ Some x = is in cc)
ok_of (Err e) value is = absurd (let no : Some value ≡ None = is in cc)

-- one that is none, and so not all
pub one_fails : (digits out : List ℕ) (i : ℕ) → length digits ≡ 2 * length out → i < length out
    → None ≡ result_ok (pair_value (get_or digits (2 * i) 0) (get_or digits (2 * i + 1) 0) (2 * i))
    → decode_pairs 0 digits ≡ prepend (take i out) (decode_pairs (2 * i) (drop (2 * i) digits))
    → None ≡ result_ok (decode_of digits)
one_fails digits out i long more none so_far =
    go (pair_value (get_or digits (2 * i) 0) (get_or digits (2 * i + 1) 0) (2 * i)) refl none
  where
    go : (r : Result ℕ FromHexError) → pair_value (get_or digits (2 * i) 0) (get_or digits (2 * i + 1) 0) (2 * i) ≡ r
        → None ≡ result_ok r → None ≡ result_ok (decode_of digits)
    go (Ok byte) is none = absurd (let no : None ≡ Some byte = none in cc)
    go (Err e) is none =
        let even : length digits % 2 ≡ 0 = omega (arith, long) in
        sym (ap result_ok (even_pairs digits even (decode_err digits out i e (omega (arith, long, more)) is so_far)))
