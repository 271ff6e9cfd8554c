-- The tokens of a text as a function of it, from left to right: how long the gap at the front is, how long the token after it is,
-- and so on with the rest. These tokens are defined independently, in `Tokens`.
use Rattle.std.specs.Prelude.{ℕ, zero, suc, ◌+◌, ◌-◌, Bool, true, false, ◌&&◌, ◌||◌, not, ◌==◌, if◌then◌else◌, List, [], ◌∷◌}
use Rattle.std.specs.Prelude.{length, take, drop, slice_index, Option, Some, None}
use Rattle.std.specs.List.{prefix_len}
use Rattle.std.specs.Option.{option_map}
use Rattle.dbc_values.specs.Lexical.{quote, point, slash, backslash, is_blank, is_line_feed, is_digit, is_letter, is_word_byte}
use Rattle.dbc_values.specs.Lexical.{is_mark, is_sign, is_exponent_mark}
use Rattle.dbc_tokens.specs.declared.token.Kind.{Kind}
use Rattle.dbc_tokens.specs.declared.token.Kind.TheVariants.{Text, Word, Number, Mark}
use Rattle.dbc_tokens.specs.Tokens.{Cut, End, Fault, ◌▸◌, line_feeds}

-- ---- gaps

abbrev pub begins_with_slash : List ℕ → Bool
begins_with_slash [] = false
begins_with_slash (b ∷ bytes) = b == slash

-- how many bytes the gap at the front has; `inside` is true if a comment goes on here
abbrev pub gap_len : Bool → List ℕ → ℕ
gap_len inside [] = 0
gap_len true (b ∷ bytes) = if is_line_feed b then 1 + gap_len false bytes else 1 + gap_len true bytes
gap_len false (b ∷ bytes) =
    if is_blank b then 1 + gap_len false bytes
    else (if b == slash && begins_with_slash bytes then 1 + gap_len true bytes else 0)

-- ---- tokens

-- how many bytes are before the closing quote, if there is one; `after` is true if the byte before is a backslash
abbrev pub text_len : Bool → List ℕ → Option ℕ
text_len after [] = None
text_len after (b ∷ bytes) = if b == quote && not after then Some 0 else option_map (λ n. 1 + n) (text_len (b == backslash) bytes)

-- after this many digits: how many bytes a mantissa has, or 0 if there are no digits at all
abbrev pub fraction_len : ℕ → List ℕ → ℕ
fraction_len whole [] = whole
fraction_len whole (b ∷ bytes) =
    if b == point then (let digits = whole + prefix_len is_digit bytes in if digits == 0 then 0 else 1 + digits) else whole

-- how many bytes of digits with a point are at the front
abbrev pub mantissa_len : List ℕ → ℕ
mantissa_len bytes = let whole = prefix_len is_digit bytes in fraction_len whole (drop whole bytes)

abbrev pub sign_len : List ℕ → ℕ
sign_len [] = 0
sign_len (b ∷ bytes) = if is_sign b then 1 else 0

-- after an `E` and before a sign of this many bytes: how many bytes the exponent has, or 0 if no digits follow
abbrev pub power_len : ℕ → List ℕ → ℕ
power_len sign bytes = let digits = prefix_len is_digit (drop sign bytes) in if digits == 0 then 0 else 1 + (sign + digits)

-- how many bytes an exponent at the front has, with its `E`
abbrev pub exponent_len : List ℕ → ℕ
exponent_len [] = 0
exponent_len (b ∷ bytes) = if is_exponent_mark b then power_len (sign_len bytes) bytes else 0

-- how many bytes a number at the front has, or 0 if none begins
abbrev pub number_len : List ℕ → ℕ
number_len bytes = let mantissa = mantissa_len bytes in if mantissa == 0 then 0 else mantissa + exponent_len (drop mantissa bytes)

-- the token at the front: its kind and how many bytes it has
unfoldable pub token_at : List ℕ → Option (Kind × ℕ)
token_at [] = None
token_at (b ∷ bytes) =
    if b == quote then option_map (λ n. (Text, 2 + n)) (text_len false bytes)
    else (if is_letter b then Some (Word, 1 + prefix_len is_word_byte bytes)
    else (if is_mark b then Some (Mark, 1)
    else (let n = number_len (b ∷ bytes) in if n == 0 then None else Some (Number, n))))

-- an `E` begins here, of whatever is an exponent or only looks like one
abbrev pub begins_exponent : List ℕ → Bool
begins_exponent [] = false
begins_exponent (b ∷ bytes) = is_exponent_mark b

-- how many bytes a number at the front has, or 0 if none begins or an `E` may begin its exponent
abbrev pub plain_number_len : List ℕ → ℕ
plain_number_len bytes = let mantissa = mantissa_len bytes in if begins_exponent (drop mantissa bytes) then 0 else mantissa

-- the token at the front, if it is a word, a mark, or a number that begins with a digit and has no exponent
unfoldable pub plain_token_at : List ℕ → Option (Kind × ℕ)
plain_token_at [] = None
plain_token_at (b ∷ bytes) =
    if is_mark b then Some (Mark, 1)
    else (if is_digit b then (let n = plain_number_len (b ∷ bytes) in if n == 0 then None else Some (Number, n))
    else (if is_letter b then Some (Word, 1 + prefix_len is_word_byte bytes)
    else None))

-- how many bytes are before the first quote, if that closes and is in the same line
abbrev pub line_text_len : List ℕ → Option ℕ
line_text_len bytes =
    let n = prefix_len (λ b. not (b == quote || is_line_feed b)) bytes in
    if slice_index bytes n == quote && (n == 0 || not (slice_index bytes (n - 1) == backslash)) then Some n else None

-- the string at the front, if it ends at its first quote and in the line in which it begins
unfoldable pub line_text_at : List ℕ → Option (Kind × ℕ)
line_text_at [] = None
line_text_at (b ∷ bytes) = if b == quote then option_map (λ n. (Text, 2 + n)) (line_text_len bytes) else None

-- ---- the text

-- the token that was found at the front, and then what `go` finds after it
abbrev pub token_then : (ℕ → List ℕ → Cut) → ℕ → List ℕ → Option (Kind × ℕ) → Cut
token_then go line rest None = Fault line
token_then go line rest (Some t) = record { kind = t.0; bytes = take t.1 rest; line = line; left = length rest } ▸ go
    (line + line_feeds (take t.1 rest)) (drop t.1 rest)

-- after the gap: the end of the text, or the token there and then what `go` finds
abbrev pub rest_then : (ℕ → List ℕ → Cut) → ℕ → List ℕ → Cut
rest_then go line [] = End line
rest_then go line (b ∷ bytes) = token_then go line (b ∷ bytes) (token_at (b ∷ bytes))

-- the gap at the front, and then what is after it
abbrev pub gap_then : (ℕ → List ℕ → Cut) → ℕ → List ℕ → Cut
gap_then go line text = let gap = gap_len false text in rest_then go (line + line_feeds (take gap text)) (drop gap text)

-- fewer than this many tokens
abbrev pub cut_in : ℕ → ℕ → List ℕ → Cut
cut_in zero line text = End line
cut_in (suc n) line text = gap_then (cut_in n) line text

-- the tokens of a text whose first byte is in this line
unfoldable pub cut_of : ℕ → List ℕ → Cut
cut_of line text = cut_in (suc (length text)) line text
