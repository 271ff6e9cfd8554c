-- The result of handling lines one after another, and what is written for them, wherever that ends.
use Rattle.std.specs.Prelude.{◌≡◌, ℕ, ◌<◌, List, [], ◌∷◌, ◌++◌, length, ◌⊎◌}
use Rattle.std.specs.Io.KnownBytes.{Appends}
use Rattle.byte_devices.specs.Device.{Rises, Written, Wrote, Broke, Passes}
use Rattle.can_line_stream.specs.Lines.{IsShort, AllShort}

-- from the first state these lines may lead, step by step, to the second, and this is all their text
abbrev pub Runs : {State : Type 0} → (State → List ℕ → State → List ℕ → Type 0) → State → List (List ℕ) → State → List ℕ → Type 0
Runs Step before [] after text = (after ≡ before) × (text ≡ [])
Runs {State} Step before (line ∷ lines) after text =
    (between : State) × (first rest : List ℕ) × Step before line between first × Runs Step between lines after rest
    × (text ≡ first ++ rest)

-- some lines lead from one state to the other
pub record Leads {State : Type 0} (Step : State → List ℕ → State → List ℕ → Type 0) (before after : State) : Type 0 where
  pub lines : List (List ℕ)
  pub text : List ℕ
  pub ran : Runs Step before lines after text

-- all of the first text was written, then a prefix of the second, and then a put failed
pub record Breaks (old new : Written) (whole part : List ℕ) : Type 0 where
  pub front : List ℕ
  pub back : List ℕ
  pub parts : part ≡ front ++ back
  pub bytes : Appends old.bytes new.bytes (whole ++ front)
  pub failures : Rises old.failures new.failures

-- How lines are handled: what a line may do to a state, and its text; the lines for which memory may run out in a state; and what
-- may be buffered from one line to the next.
pub record Rules (State : Type 0) : Type 1 where
  pub Step : State → List ℕ → State → List ℕ → Type 0
  pub Stops : State → List ℕ → Type 0
  pub Waits : List ℕ → Type 0

-- for such rules, and the most bytes of a line that is handled
module _ {State : Type 0} (rules : Rules State) (most : ℕ) where
  -- these lines, none of them long, were handled, and all their text was written
  pub record Handled (before : State) (old : Written) (lines : List (List ℕ)) (after : State) (new : Written) : Type 0 where
    pub text : List ℕ
    pub short : AllShort most lines
    pub ran : Runs rules.Step before lines after text
    pub wrote : Wrote old new text

  -- these lines, none of them long, were handled, and their text was written except its end, which is held
  pub record HandledBut (before : State) (old : Written) (lines : List (List ℕ)) (after : State) (new : Written)
      (held : List ℕ) : Type 0 where
    pub text : List ℕ
    pub short : AllShort most lines
    pub ran : Runs rules.Step before lines after text
    pub passes : Passes old new [] text held
    pub waits : rules.Waits held

  -- memory ran out for one of these lines; those before were handled, and all their text was written
  pub record StopsAmong (before : State) (old : Written) (all : List (List ℕ)) (after : State) (new : Written) : Type 0 where
    pub lines : List (List ℕ)
    pub line : List ℕ
    pub more : List (List ℕ)
    pub parts : all ≡ lines ++ line ∷ more
    pub stops : rules.Stops after line
    pub handled : Handled before old lines after new

  -- A put failed for one of these lines. It and those before were handled. The text of those before was written except its end,
  -- which was held, and of that end and the line's own text a prefix was written.
  pub record BreaksInside (before : State) (old : Written) (all : List (List ℕ)) (after : State) (new : Written) : Type 0 where
    pub lines : List (List ℕ)
    pub line : List ℕ
    pub more : List (List ℕ)
    pub parts : all ≡ lines ++ line ∷ more
    pub short : AllShort most (lines ++ line ∷ [])
    pub between : State
    pub out : List ℕ
    pub waiting : List ℕ
    pub last : List ℕ
    pub ran : Runs rules.Step before lines between (out ++ waiting)
    pub waits : rules.Waits waiting
    pub step : rules.Step between line after last
    pub breaks : Breaks old new out (waiting ++ last)

  -- A put failed after the first of these lines, which were handled. Their text was written except its end, which was held and
  -- isn't empty, and of which a prefix was written.
  pub record BreaksFollowing (before : State) (old : Written) (all : List (List ℕ)) (after : State) (new : Written) : Type 0 where
    pub lines : List (List ℕ)
    pub more : List (List ℕ)
    pub parts : all ≡ lines ++ more
    pub short : AllShort most lines
    pub out : List ℕ
    pub waiting : List ℕ
    pub ran : Runs rules.Step before lines after (out ++ waiting)
    pub waits : rules.Waits waiting
    pub some : 0 < length waiting
    pub breaks : Breaks old new out waiting

  -- a put failed for or after one of these lines
  abbrev pub BreaksAmong : State → Written → List (List ℕ) → State → Written → Type 0
  BreaksAmong before old all after new = BreaksInside before old all after new ⊎ BreaksFollowing before old all after new

  -- a put failed at this line: for it, or for what was held before, which isn't empty
  abbrev pub FailsAt : State → Written → List ℕ → List ℕ → State → Written → Type 0
  FailsAt before old held line after new =
      (IsShort most line × (text : List ℕ) × rules.Step before line after text × Broke old new (held ++ text))
      ⊎ ((after ≡ before) × (0 < length held) × Broke old new held)
