-- What a stream of lines has read, done and written when it ends, for each way in which it may end.
use Rattle.std.specs.Prelude.{◌≡◌, ℕ, ◌-◌, ◌^◌, ◌<◌, min, List, [], ◌∷◌, ◌++◌, length, Option, Some, IfSome, Result, Ok, Err}
use Rattle.byte_devices.specs.Device.{Rises, Unread, Written, PullFailed}
use Rattle.can_line_stream.specs.declared.fault.StreamFault.{StreamFault}
use Rattle.can_line_stream.specs.declared.fault.StreamFault.TheVariants as faults
use Rattle.can_line_stream.specs.Lines.{lines_of, whole_lines, AllShort}
use Rattle.can_line_stream.specs.Runs.{Rules, Handled, StopsAmong, BreaksAmong}

-- the number of failed pulls is as it was; if it is saturated nothing is claimed
abbrev pub NoneFailed : Unread → Unread → Type 0
NoneFailed unread left = left.failures ≡ unread.failures

module _ {State : Type 0} (rules : Rules State) (most : ℕ) where
  -- all of the input was read, and each of its lines was handled, of which none is long; there are this many, up to 2^64 - 1
  pub record HandlesAll (before : State) (old : Written) (input : List ℕ) (left : Option (List ℕ)) (after : State) (new : Written)
      (count : ℕ) : Type 0 where
    pub ended : left ≡ Some []
    pub counted : count ≡ min (length (lines_of input)) (2 ^ 64 - 1)
    pub handled : Handled rules most before old (lines_of input) after new

  -- the lines before the first long one were handled
  pub record EndsAtLong (before : State) (old : Written) (input : List ℕ) (after : State) (new : Written) : Type 0 where
    pub lines : List (List ℕ)
    pub long : List ℕ
    pub more : List (List ℕ)
    pub parts : lines_of input ≡ lines ++ long ∷ more
    pub is_long : most < length long
    pub handled : Handled rules most before old lines after new

  -- a pull failed; of what was read before, the lines that have their LF were handled, and the unfinished one isn't long
  pub record EndsAtRead (before : State) (old : Written) (unread left : Unread) (after : State) (new : Written) : Type 0 where
    pub read : List ℕ
    pub failed : PullFailed unread left read
    pub short : AllShort most (lines_of read)
    pub handled : Handled rules most before old (whole_lines read) after new

  -- If the source's bytes are unknown, nothing is stated about lines except at a failed pull.
  abbrev pub StreamEnds : State → Written → Unread → Unread → State → Written → Result ℕ StreamFault → Type 0
  StreamEnds before old unread left after new (Ok count) = NoneFailed unread left
      × IfSome unread.bytes (λ input. HandlesAll before old input left.bytes after new count)
  StreamEnds before old unread left after new (Err faults.LongLine) = NoneFailed unread left
      × IfSome unread.bytes (λ input. EndsAtLong before old input after new)
  StreamEnds before old unread left after new (Err faults.Read) = EndsAtRead before old unread left after new
  StreamEnds before old unread left after new (Err faults.Write) =
      NoneFailed unread left × Rises old.failures new.failures
      × IfSome unread.bytes (λ input. BreaksAmong rules most before old (lines_of input) after new)
  StreamEnds before old unread left after new (Err faults.Memory) =
      NoneFailed unread left × ((state : State) × (line : List ℕ) × rules.Stops state line)
      × IfSome unread.bytes (λ input. StopsAmong rules most before old (lines_of input) after new)
