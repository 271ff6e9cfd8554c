-- Hexadecimal digits go into a string as they are.
use Rattle.std.proofs.Common.{◌≡◌, ℕ, ◌<◌, ◌/◌, ◌%◌, zero, suc, ◌&&◌, Bool, true, inl, inr, List, [], ◌∷◌, ◌++◌, refl, ap, ap₂, ◌∙◌}
use Rattle.std.proofs.Common.{append_assoc, arith, length, take, drop, sym, take-append-drop}
use Rattle.std.proofs.lemmas.Grind.{flat_map-append}
use Rattle.std.specs.Prelude.{slice_index, slice_index_or}
use Rattle.std.specs.Str.{bytes_eq}
use Rattle.std.proofs.lemmas.Slice.Eq.{bytes_eq-Decides}
use Rattle.std.proofs.lemmas.Bool.{and_parts, cases_eq}
use Rattle.std.specs.List.{flat_map}
use Rattle.hex.specs.Hex.{upper_digits, encode_upper, encode_with}
use Rattle.json.specs.Print.{escape_byte, escape, quoted}
use Rattle.can_json_texts.specs.Texts.{pair_text}
use Rattle.can_json_texts.proofs.Pushing.{pushed_then}

-- it holds of all numbers below this one
abbrev holds_below : (ℕ → Bool) → ℕ → Bool
holds_below holds zero = true
holds_below holds (suc number) = holds number && holds_below holds number

held : (holds : ℕ → Bool) (most : ℕ) → holds_below holds most ≡ true → (number : ℕ) → number < most → holds number ≡ true
held holds zero all number below = absurd (omega arith)
held holds (suc most) all number below =
    let parts = and_parts (holds most) (holds_below holds most) all in
    elim (cases_eq number most) [
      | inl same ↦ ap holds same ∙ parts.0
      | inr other ↦ held holds most parts.1 number (omega (arith, other))
    ]

abbrev is_plain : ℕ → Bool
is_plain digit = bytes_eq (escape_byte (slice_index upper_digits digit)) (slice_index upper_digits digit ∷ [])

all_plain : holds_below is_plain 16 ≡ true
unfolding escape_byte
all_plain = refl

plain_digit : (digit : ℕ) → digit < 16 → escape_byte (slice_index upper_digits digit) ≡ slice_index upper_digits digit ∷ []
plain_digit digit below =
    (bytes_eq-Decides (escape_byte (slice_index upper_digits digit)) (slice_index upper_digits digit ∷ [])).0
    (held is_plain 16 all_plain digit below)

pub plain_pair : (high low : ℕ) → high < 16 → low < 16
    → escape (slice_index upper_digits high ∷ slice_index upper_digits low ∷ [])
    ≡ slice_index upper_digits high ∷ slice_index upper_digits low ∷ []
plain_pair high low first second = ap₂ (λ (a b : List ℕ). a ++ (b ++ [])) (plain_digit high first) (plain_digit low second)

pairs_escaped : (bytes : List ℕ) → flat_map pair_text bytes ≡ escape (encode_upper bytes)
unfolding encode_with
pairs_escaped [] = refl
pairs_escaped (byte ∷ bytes) =
    let high = escape_byte (slice_index upper_digits (byte / 16)) in
    let low = escape_byte (slice_index upper_digits (byte % 16)) in
    append_assoc high (low ++ []) (flat_map pair_text bytes)
    ∙ ap (λ (rest : List ℕ). high ++ rest)
    (append_assoc low [] (flat_map pair_text bytes) ∙ ap (λ (rest : List ℕ). low ++ rest) (pairs_escaped bytes))

pub pairs_pushed : (old first second new bytes : List ℕ) → new ≡ second ++ 34 ∷ [] → second ≡ first ++ flat_map pair_text bytes
    → first ≡ old ++ 34 ∷ [] → new ≡ old ++ quoted (encode_upper bytes)
pairs_pushed old first second new bytes last middle begun =
    pushed_then old first new (34 ∷ []) (flat_map pair_text bytes ++ 34 ∷ [])
    (pushed_then first second new (flat_map pair_text bytes) (34 ∷ []) last middle) begun
    ∙ ap (λ (text : List ℕ). old ++ (34 ∷ (text ++ 34 ∷ []))) (pairs_escaped bytes)

-- ---- digits of eight bytes

pub joined : (high low b : ℕ) (digits more : List ℕ) → high ∷ low ∷ [] ≡ pair_text b → digits ≡ more
    → high ∷ low ∷ digits ≡ pair_text b ++ more
joined high low b digits more is rest = ap₂ (λ (pair digits : List ℕ). pair ++ digits) is rest

pub no_digits : [] ≡ flat_map pair_text []
no_digits = refl

three : (bytes : List ℕ) → length bytes ≡ 3
    → bytes ≡ slice_index_or bytes 0 0 ∷ slice_index_or bytes 1 0 ∷ slice_index_or bytes 2 0 ∷ []
three [] long = absurd (omega (arith, long))
three (a ∷ []) long = absurd (omega (arith, long))
three (a ∷ b ∷ []) long = absurd (omega (arith, long))
three (a ∷ b ∷ c ∷ []) long = refl
three (a ∷ b ∷ c ∷ d ∷ more) long = absurd (omega (arith, long))

pub four : (bytes : List ℕ) → length bytes ≡ 4
    → bytes ≡ slice_index_or bytes 0 0 ∷ slice_index_or bytes 1 0 ∷ slice_index_or bytes 2 0 ∷ slice_index_or bytes 3 0 ∷ []
four [] long = absurd (omega (arith, long))
four (a ∷ bytes) long = ap (λ (rest : List ℕ). a ∷ rest) (three bytes (omega (arith, long)))

pub eight : (bytes : List ℕ) → length bytes ≡ 8
    → bytes ≡ slice_index_or bytes 0 0 ∷ slice_index_or bytes 1 0 ∷ slice_index_or bytes 2 0 ∷ slice_index_or bytes 3 0
    ∷ slice_index_or bytes 4 0 ∷ slice_index_or bytes 5 0 ∷ slice_index_or bytes 6 0 ∷ slice_index_or bytes 7 0 ∷ []
eight [] long = absurd (omega (arith, long))
eight (a ∷ []) long = absurd (omega (arith, long))
eight (a ∷ b ∷ []) long = absurd (omega (arith, long))
eight (a ∷ b ∷ c ∷ []) long = absurd (omega (arith, long))
eight (a ∷ b ∷ c ∷ d ∷ []) long = absurd (omega (arith, long))
eight (a ∷ b ∷ c ∷ d ∷ e ∷ bytes) long =
    ap (λ (rest : List ℕ). a ∷ b ∷ c ∷ d ∷ e ∷ rest) (three bytes (omega (arith, long)))

-- eight more of the bytes that are left
pub eight_more : (all text digits new eight rest after : List ℕ) → new ≡ text ++ digits → digits ≡ flat_map pair_text eight
    → all ≡ text ++ flat_map pair_text rest → eight ≡ take 8 rest → after ≡ drop 8 rest → all ≡ new ++ flat_map pair_text after
eight_more all text digits new eight rest after pushed spelled so_far front back =
    so_far
    ∙ ap (λ (bytes : List ℕ). text ++ flat_map pair_text bytes) (sym (take-append-drop 8 rest))
    ∙ ap (λ (digits : List ℕ). text ++ digits)
    (flat_map-append pair_text (take 8 rest) (drop 8 rest)
    ∙ ap₂ (λ (one more : List ℕ). one ++ flat_map pair_text more)
    (ap (flat_map pair_text) (sym front) ∙ sym spelled) (sym back))
    ∙ sym (append_assoc text digits (flat_map pair_text after))
    ∙ ap (λ (text : List ℕ). text ++ flat_map pair_text after) (sym pushed)

-- four bytes, and the others
pub four_first : (old digits middle new four rest bytes : List ℕ) → new ≡ middle ++ flat_map pair_text rest → middle ≡ old ++ digits
    → digits ≡ flat_map pair_text four → four ≡ take 4 bytes → rest ≡ drop 4 bytes → new ≡ old ++ flat_map pair_text bytes
four_first old digits middle new four rest bytes last begun spelled front back =
    last ∙ ap (λ (text : List ℕ). text ++ flat_map pair_text rest) begun
    ∙ append_assoc old digits (flat_map pair_text rest)
    ∙ ap (λ (text : List ℕ). old ++ text)
    (ap₂ (λ (one more : List ℕ). one ++ more) (spelled ∙ ap (flat_map pair_text) front) (ap (flat_map pair_text) back)
    ∙ sym (flat_map-append pair_text (take 4 bytes) (drop 4 bytes))
    ∙ ap (flat_map pair_text) (take-append-drop 4 bytes))
