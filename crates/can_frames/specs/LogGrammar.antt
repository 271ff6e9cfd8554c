-- The grammar of a log line: which parts it consists of, and which frame they represent. Source: can-utils, the log format of
-- `candump -L` (lib.h, "CAN log file"): `(seconds.fraction) interface frame`.
use Rattle.std.specs.Prelude.{◌≡◌, ◌<◌, ◌≤◌, ◌⊎◌, ⊤, ℕ, ◌+◌, ◌*◌, ◌^◌, true, false, List, [], ◌∷◌, ◌++◌, length, Some}
use Rattle.std.specs.Prelude.{if◌then◌else◌}
use Rattle.std.specs.List.{AllByRecursion}
use Rattle.hex.specs.Hex.{hex_digit_value}
use Rattle.dbc_values.specs.Lexical.{opening_parenthesis, closing_parenthesis, point, underscore, digit_zero, is_digit}
use Rattle.can_frames.specs.declared.frame.Kind.{Kind}
use Rattle.can_frames.specs.declared.frame.Kind.TheVariants.{Classic, Fd, Remote, Error}
use Rattle.can_frames.specs.LogLines.{is_log_blank}
use Rattle.can_frames.specs.Frames.{Frame, Identifier, greatest_standard, most_bytes, number_sign, digit_eight, capital_r}

-- ---- words, blanks and digits

abbrev pub HasNoBlank : List ℕ → Type 0
HasNoBlank text = AllByRecursion (λ b. is_log_blank b ≡ false) text

-- at least one byte, and none of them a blank
pub record IsWord (text : List ℕ) : Type 0 where
  pub some : 0 < length text
  pub unbroken : HasNoBlank text

-- at least one byte, and each of them a blank
pub record AreBlanks (text : List ℕ) : Type 0 where
  pub some : 0 < length text
  pub blank : AllByRecursion (λ b. is_log_blank b ≡ true) text

-- at least one byte, and each of them a digit `0` to `9`
pub record AreDigits (text : List ℕ) : Type 0 where
  pub some : 0 < length text
  pub digit : AllByRecursion (λ b. is_digit b ≡ true) text

-- nothing, or a blank and anything
abbrev pub IsFollowingWord : List ℕ → Type 0
IsFollowingWord [] = ⊤
IsFollowingWord (b ∷ text) = is_log_blank b ≡ true

-- ---- the stamp

-- `(`, seconds, a point, a fraction of one to nine digits, `)`
pub record IsStampText (text : List ℕ) : Type 0 where
  pub seconds : List ℕ
  pub fraction : List ℕ
  pub spelled : text ≡ opening_parenthesis ∷ (seconds ++ point ∷ (fraction ++ closing_parenthesis ∷ []))
  pub seconds_are : AreDigits seconds
  pub fraction_is : AreDigits fraction
  pub short : length fraction ≤ 9

-- ---- hexadecimal numbers

-- the text is the further hexadecimal digits of a number, and those before them spell `before`: each digit multiplies what is
-- before it by sixteen, and adds its own value
abbrev pub SpellsFurther : ℕ → List ℕ → ℕ → Type 0
SpellsFurther before [] number = before ≡ number
SpellsFurther before (digit ∷ text) number = (value : ℕ) × (hex_digit_value digit ≡ Some value)
    × SpellsFurther (before * 16 + value) text number

-- the text is hexadecimal digits, in either case, and they spell the number, the highest digit first
abbrev pub SpellsNumber : List ℕ → ℕ → Type 0
SpellsNumber text number = SpellsFurther 0 text number

-- the text is pairs of hexadecimal digits, and the pairs spell the bytes one after another
abbrev pub SpellsBytes : List ℕ → List ℕ → Type 0
SpellsBytes [] [] = ⊤
SpellsBytes (high ∷ low ∷ text) (byte ∷ bytes) = SpellsNumber (high ∷ low ∷ []) byte × SpellsBytes text bytes
SpellsBytes text bytes = ⊥

-- ---- identifiers

-- three digits: a standard (11-bit) identifier
pub record IsStandard (text : List ℕ) (identifier : Identifier) : Type 0 where
  pub three : length text ≡ 3
  pub spelled : SpellsNumber text identifier.number
  pub fits : identifier.number ≤ greatest_standard
  pub width : identifier.extended ≡ false
  pub plain : identifier.marks_error ≡ false

-- eight digits: an extended (29-bit) identifier, above it the bit that marks an error frame, and above that two
-- bits that are ignored
pub record IsExtended (text : List ℕ) (identifier : Identifier) : Type 0 where
  pub number : ℕ
  pub above : ℕ
  pub eight : length text ≡ 8
  pub spelled : SpellsNumber text number
  pub parts : number ≡ above * 2 ^ 30 + (if identifier.marks_error then 2 ^ 29 else 0) + identifier.number
  pub fits : identifier.number < 2 ^ 29
  pub width : identifier.extended ≡ true

abbrev pub IsIdentifierText : List ℕ → Identifier → Type 0
IsIdentifierText text identifier = IsStandard text identifier ⊎ IsExtended text identifier

-- ---- what is after the first `#`

-- `_` and a hexadecimal digit of 9 or more: a raw length code of a frame of eight bytes
pub record IsLengthCode (text : List ℕ) : Type 0 where
  pub digit : ℕ
  pub value : ℕ
  pub spelled : text ≡ underscore ∷ digit ∷ []
  pub worth : hex_digit_value digit ≡ Some value
  pub great : 9 ≤ value

-- a classic frame: at most 8 bytes, and after exactly 8 perhaps a raw length code
pub record IsClassicTail (text bytes : List ℕ) : Type 0 where
  pub pairs : List ℕ
  pub code : List ℕ
  pub parts : text ≡ pairs ++ code
  pub spelled : SpellsBytes pairs bytes
  pub few : length bytes ≤ 8
  pub code_is : (code ≡ []) ⊎ ((length bytes ≡ 8) × IsLengthCode code)

-- an FD frame: a further `#`, a hexadecimal digit of flags, and at most 64 bytes
pub record IsFdTail (text bytes : List ℕ) : Type 0 where
  pub flags : ℕ
  pub flags_value : ℕ
  pub pairs : List ℕ
  pub parts : text ≡ number_sign ∷ flags ∷ pairs
  pub worth : hex_digit_value flags ≡ Some flags_value
  pub spelled : SpellsBytes pairs bytes
  pub few : length bytes ≤ most_bytes

-- a digit `0` to `8`: the length that a remote frame asks for
pub record IsLengthDigit (text : List ℕ) : Type 0 where
  pub digit : ℕ
  pub spelled : text ≡ digit ∷ []
  pub from_zero : digit_zero ≤ digit
  pub to_eight : digit ≤ digit_eight

-- `8` and a raw length code
pub record IsEightWithCode (text : List ℕ) : Type 0 where
  pub code : List ℕ
  pub parts : text ≡ digit_eight ∷ code
  pub code_is : IsLengthCode code

-- a remote frame: `R`, and perhaps the length that it asks for; it has no bytes
pub record IsRemoteTail (text bytes : List ℕ) : Type 0 where
  pub asked : List ℕ
  pub parts : text ≡ capital_r ∷ asked
  pub asked_is : (asked ≡ []) ⊎ (IsLengthDigit asked ⊎ IsEightWithCode asked)
  pub none : bytes ≡ []

-- the text represents a frame of this kind with these bytes
abbrev pub IsTail : Kind → List ℕ → List ℕ → Type 0
IsTail Classic text bytes = IsClassicTail text bytes
IsTail Fd text bytes = IsFdTail text bytes
IsTail Remote text bytes = IsRemoteTail text bytes
IsTail Error text bytes = ⊥

-- ---- frames and lines

-- an identifier, `#`, and what represents the bytes; the identifier can mark any kind as an error frame
pub record IsFrameText (text : List ℕ) (frame : Frame) : Type 0 where
  pub identifier : Identifier
  pub kind : Kind
  pub digits : List ℕ
  pub tail : List ℕ
  pub parts : text ≡ digits ++ number_sign ∷ tail
  pub identified : IsIdentifierText digits identifier
  pub given : IsTail kind tail frame.bytes
  pub kind_is : frame.kind ≡ (if identifier.marks_error then Error else kind)
  pub width : frame.extended ≡ identifier.extended
  pub number : frame.identifier ≡ identifier.number

-- a stamp at the very beginning, an interface and a frame, with blanks between them; after the frame nothing, or
-- a blank and anything
pub record IsLogLine (body : List ℕ) (frame : Frame) : Type 0 where
  pub stamp : List ℕ
  pub stamp_gap : List ℕ
  pub interface : List ℕ
  pub interface_gap : List ℕ
  pub frame_text : List ℕ
  pub after : List ℕ
  pub parts : body ≡ stamp ++ (stamp_gap ++ (interface ++ (interface_gap ++ (frame_text ++ after))))
  pub stamp_is : IsStampText stamp
  pub stamp_gap_is : AreBlanks stamp_gap
  pub interface_is : IsWord interface
  pub interface_gap_is : AreBlanks interface_gap
  pub frame_is : IsFrameText frame_text frame
  pub after_is : IsFollowingWord after
