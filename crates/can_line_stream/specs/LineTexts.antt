-- What a stream that writes a text for each line has read and written when it ends, for each way in which it may end.
use Rattle.std.specs.Prelude.{◌≡◌, ℕ, ◌-◌, ◌^◌, ◌<◌, min, List, [], ◌∷◌, ◌++◌, length, Some, IfSome, Result, Ok, Err}
use Rattle.std.specs.List.{flat_map, fold}
use Rattle.byte_devices.specs.Device.{Rises, Unread, Written, Wrote, Broke, PullFailed}
use Rattle.dbc_values.specs.Lexical.{line_feed}
use Rattle.can_line_stream.specs.declared.fault.StreamFault.{StreamFault}
use Rattle.can_line_stream.specs.declared.fault.StreamFault.TheVariants as faults
use Rattle.can_line_stream.specs.Lines.{lines_of, whole_lines, AllShort}
use Rattle.can_line_stream.specs.Runs.{Rules}
use Rattle.can_line_stream.specs.Stream.{NoneFailed}

-- the most bytes of a line, its CR counted and its LF not
abbrev pub longest_line : ℕ
longest_line = 4096

-- the text of a line and an LF
abbrev pub line_text : (List ℕ → List ℕ) → List ℕ → List ℕ
line_text text_of line = text_of line ++ line_feed ∷ []

abbrev pub texts : (List ℕ → List ℕ) → List (List ℕ) → List ℕ
texts text_of lines = flat_map (line_text text_of) lines

-- what is written for lines, where `text_of` is what is written for one
abbrev pub all_texts : (List ℕ → List ℕ) → List (List ℕ) → List ℕ
all_texts text_of lines = flat_map text_of lines

-- All of this input was read, none of its lines is long, and the text of each was written; `count` is their number, up to 2^64 - 1.
pub record StreamsAll (text_of : List ℕ → List ℕ) (input : List ℕ) (after : Unread) (old new : Written) (count : ℕ)
    (lines : List (List ℕ)) : Type 0 where
  pub ended : after.bytes ≡ Some []
  pub all : lines ≡ lines_of input
  pub short : AllShort longest_line lines
  pub counted : count ≡ min (length lines) (2 ^ 64 - 1)
  pub wrote : Wrote old new (all_texts text_of lines)

-- the texts of the lines before the first long one were written
pub record StopsAtLong (text_of : List ℕ → List ℕ) (input : List ℕ) (old new : Written) (lines : List (List ℕ)) : Type 0 where
  pub long : List ℕ
  pub more : List (List ℕ)
  pub parts : lines_of input ≡ lines ++ long ∷ more
  pub short : AllShort longest_line lines
  pub is_long : longest_line < length long
  pub wrote : Wrote old new (all_texts text_of lines)

-- What was read has no long line, finished or not, and the texts of those lines whose LF was read were written.
pub record StopsAtRead (text_of : List ℕ → List ℕ) (before after : Unread) (old new : Written) (lines : List (List ℕ)) : Type 0
  where
    pub read : List ℕ
    pub failed : PullFailed before after read
    pub whole : lines ≡ whole_lines read
    pub short : AllShort longest_line (lines_of read)
    pub wrote : Wrote old new (all_texts text_of lines)

-- Of the texts of the first lines, of which none is long, a prefix was written, and then a put failed. So that is a prefix of the
-- texts of all lines.
pub record StopsAtWrite (text_of : List ℕ → List ℕ) (input : List ℕ) (old new : Written) (lines : List (List ℕ)) : Type 0 where
  pub more : List (List ℕ)
  pub parts : lines_of input ≡ lines ++ more
  pub short : AllShort longest_line lines
  pub broke : Broke old new (all_texts text_of lines)
  pub of_all : Broke old new (all_texts text_of (lines_of input))

-- memory ran out for a line; the texts of the lines before it, of which none is long, were written, each whole
pub record StopsAtMemory (text_of : List ℕ → List ℕ) (input : List ℕ) (old new : Written) (lines : List (List ℕ)) : Type 0 where
  pub line : List ℕ
  pub more : List (List ℕ)
  pub parts : lines_of input ≡ lines ++ line ∷ more
  pub short : AllShort longest_line lines
  pub wrote : Wrote old new (all_texts text_of lines)

-- The texts of these lines were made, and it ended in this way. What is stated about the input holds if the
-- source's bytes are known.
abbrev pub StreamsTexts : (List ℕ → List ℕ) → Unread → Unread → Written → Written → Result ℕ StreamFault → List (List ℕ) → Type 0
StreamsTexts text_of before after old new (Ok count) lines = NoneFailed before after
    × IfSome before.bytes (λ input. StreamsAll text_of input after old new count lines)
StreamsTexts text_of before after old new (Err faults.LongLine) lines = NoneFailed before after
    × IfSome before.bytes (λ input. StopsAtLong text_of input old new lines)
StreamsTexts text_of before after old new (Err faults.Read) lines = StopsAtRead text_of before after old new lines
StreamsTexts text_of before after old new (Err faults.Write) lines =
    NoneFailed before after × Rises old.failures new.failures
    × IfSome before.bytes (λ input. StopsAtWrite text_of input old new lines)
StreamsTexts text_of before after old new (Err faults.Memory) lines = NoneFailed before after
    × IfSome before.bytes (λ input. StopsAtMemory text_of input old new lines)

-- the same, if a separate text and an LF are written for each line
abbrev pub StreamsLines : (List ℕ → List ℕ) → Unread → Unread → Written → Written → Result ℕ StreamFault → List (List ℕ) → Type 0
StreamsLines text_of before after old new result lines = StreamsTexts (line_text text_of) before after old new result lines

-- so for some lines
abbrev pub Streams : (List ℕ → List ℕ) → Unread → Unread → Written → Written → Result ℕ StreamFault → Type 0
Streams text_of before after old new result = (lines : List (List ℕ)) × StreamsLines text_of before after old new result lines

-- what is written for lines, where what makes it changes with each, by `next`
pub record Texts (State : Type 0) : Type 0 where
  pub text_of : State → List ℕ → List ℕ
  pub next : State → List ℕ → State

-- the step of a line: what is made of it is written
abbrev pub WritesText : {State : Type 0} → Texts State → State → List ℕ → State → List ℕ → Type 0
WritesText made before line after text = (after ≡ made.next before line) × (text ≡ made.text_of before line)

-- each line is handled in this way; memory may run out for any, and any text may be buffered
abbrev pub writes_texts : {State : Type 0} → Texts State → Rules State
writes_texts made = record { Step = WritesText made; Stops = λ state line. Unit {0}; Waits = λ held. Unit {0} }

-- what they have become after lines
abbrev pub state_after : {State : Type 0} → Texts State → State → List (List ℕ) → State
state_after made state lines = fold made.next state lines
