-- Texts that are sent to a sink, before which bytes are buffered.
use Rattle.std.specs.Prelude.{◌≡◌, List, ℕ, ◌++◌, Result, MatchResult}
use Rattle.byte_devices.specs.Device.{Written, Passes, Broke}
use Rattle.byte_devices.specs.declared.sending.Out.{Out}

-- it is still the same sink
abbrev pub SameSink : {W : Type 0} → Out W → Out W → Type 0
SameSink old new = new.sink.ghost_name ≡ old.sink.ghost_name

-- the text was sent: what isn't buffered was written
pub record Took {W : Type 0} (written : W → Written) (old new : Out W) (text : List ℕ) : Type 0 where
  pub same : SameSink old new
  pub passes : Passes (written old.sink.now) (written new.sink.now) old.held.items text new.held.items

-- a put failed, and a prefix of what was buffered before and of the text was written
pub record Lost {W : Type 0} (written : W → Written) (old new : Out W) (text : List ℕ) : Type 0 where
  pub same : SameSink old new
  pub broke : Broke (written old.sink.now) (written new.sink.now) (old.held.items ++ text)

-- the text was sent, or a put failed
abbrev pub Sends : {W X E : Type 0} → (W → Written) → Out W → Out W → Result X E → List ℕ → Type 0
Sends written old new result text = MatchResult result (λ _. Took written old new text) (λ _. Lost written old new text)
