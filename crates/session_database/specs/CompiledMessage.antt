-- What a session shows of each message: what compiling it from scratch defines.
use Rattle.std.specs.Prelude.{ℕ, Bool, List, count_by, ◌+◌, ◌≤◌}
use Rattle.dbc_records.specs.Records.{Message}
use Rattle.dbc_records.specs.Databases.{Database}
use Rattle.can_layout.specs.Plans.{Plan, plan_of}
use Rattle.can_layout.specs.Diagrams.{picture_of}
use Rattle.can_layout.specs.Meters.{Meter}
use Rattle.session_log.specs.Touched.{is_among}

-- the plan and the diagram of a message
pub record CompiledMessage : Type 0 where
  pub plan : Plan
  pub picture : List ℕ

abbrev pub compiled_of : Database → Message → CompiledMessage
compiled_of database message = record { plan = plan_of database message; picture = picture_of database message }

-- the message has one of the CAN identifiers
abbrev pub message_touched : List ℕ → Message → Bool
message_touched numbers message = is_among numbers message.head.number

-- how many messages of a database have one of an edit's CAN identifiers, as they are before the edit
abbrev pub messages_touched : List ℕ → Database → ℕ
messages_touched numbers database = count_by (message_touched numbers) database.messages

-- meanwhile at most this many plans and as many diagrams were counted, and at most this many decoded lines; no count fell
pub record Raised (made decoded : ℕ) (before after : Meter) : Type 0 where
  pub no_plan_lost : before.plans ≤ after.plans
  pub no_picture_lost : before.pictures ≤ after.pictures
  pub no_line_lost : before.lines ≤ after.lines
  pub plans : after.plans ≤ before.plans + made
  pub pictures : after.pictures ≤ before.pictures + made
  pub lines : after.lines ≤ before.lines + decoded

-- nothing was made yet
abbrev pub nothing_made : Meter
nothing_made = record { plans = 0; pictures = 0; lines = 0 }
