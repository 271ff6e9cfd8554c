-- Where the first fault of a text is, and the token classes that would have been allowed there.
use Rattle.std.specs.Prelude.{◌≡◌, ℕ, ◌+◌, List, [], ◌∷◌, ◌++◌, Option, Some, None, Result, Ok, Err, if◌then◌else◌, length}
use Rattle.dbc_tokens.specs.declared.fault.Cause.{Cause}
use Rattle.dbc_tokens.specs.declared.fault.Cause.TheVariants as causes
use Rattle.dbc_tokens.specs.declared.fault.ReadFault.{ReadFault}
use Rattle.dbc_tokens.specs.Tokens.{Token, Cut, End, Fault, ◌▸◌, IsGap, IsLongest, BeginsNoGap, line_feeds, HasTokens}
use Rattle.dbc_reader.specs.Pattern.{Class, Seen, Pattern, Left, verdict, may_end, after, fault_in, first_fault, nothing_seen}
use Rattle.dbc_reader.specs.Texts.{HasFirstFault}
use Rattle.dbc_faults.specs.Patterns.{firsts}

-- what is left of a pattern, and what was seen
abbrev pub State : Type 0
State = Pattern × Seen

abbrev pub seen_so : Pattern → Result Seen Cause → Result State Cause
seen_so left (Ok seen) = Ok (left, seen)
seen_so left (Err cause) = Err cause

abbrev pub left_so : Left → Token → Seen → Result State Cause
left_so None t seen = Err causes.Statement
left_so (Some x) t seen = seen_so x.1 (verdict x.0 t seen)

-- what a token leaves, or why it can't be there
unfoldable pub step : State → Token → Result State Cause
step state t = left_so (after state.0 t state.1) t state.1

-- Tokens of a text, one after the other, each where it is allowed: they lead from a line, a text and a state to these after them.
abbrev pub Leads : List Token → ℕ → List ℕ → State → ℕ → List ℕ → State → Type 0
Leads [] line text state at rest now = (at ≡ line) × (rest ≡ text) × (now ≡ state)
Leads (t ∷ tokens) line text state at rest now =
    (gap following : List ℕ) × (next : State) × (text ≡ gap ++ (t.bytes ++ following)) × IsGap gap (t.bytes ++ following)
    × (t.line ≡ line + line_feeds gap) × (t.left ≡ length (t.bytes ++ following)) × IsLongest t.kind t.bytes following
    × (step state t ≡ Ok next) × Leads tokens (t.line + line_feeds t.bytes) following next at rest now

abbrev pub refused : ℕ → Result State Cause → Option ReadFault
refused line (Ok state) = None
refused line (Err cause) = Some (fault_in line cause)

-- the fault at the front of these tokens, if it is there
abbrev pub fault_here : State → Cut → Option ReadFault
fault_here state (End line) = if may_end state.0 then None else Some (fault_in line causes.Statement)
fault_here state (Fault line) = Some (fault_in line causes.Token)
fault_here state (t ▸ cut) = refused t.line (step state t)

-- the bytes of the token at the front, if one is there
abbrev pub front_bytes : Cut → List ℕ
front_bytes (End line) = []
front_bytes (Fault line) = []
front_bytes (t ▸ cut) = t.bytes

-- A location in a text: tokens that are allowed where they are lead to it, and a gap. It has this state, and these tokens follow.
pub record Occurs (pattern : Pattern) (text here : List ℕ) (state : State) (cut : Cut) : Type 0 where
  pub tokens : List Token
  pub line : ℕ
  pub rest : List ℕ
  pub gap : List ℕ
  pub leads : Leads tokens 1 text (pattern, nothing_seen) line rest state
  pub parts : rest ≡ gap ++ here
  pub is_gap : IsGap gap here
  pub no_gap : BeginsNoGap here
  pub follow : HasTokens (line + line_feeds gap) 0 here cut

-- a fault, the bytes before its token, those of the token and those after it, and the token classes that would
-- have been allowed there
pub record Found : Type 0 where
  pub fault : ReadFault
  pub before : List ℕ
  pub token : List ℕ
  pub following : List ℕ
  pub expected : List Class

-- the fault is the one at this location of the text, whose parts these are
pub record IsFoundAt (pattern : Pattern) (text : List ℕ) (found : Found) : Type 0 where
  pub state : State
  pub cut : Cut
  pub parts : text ≡ found.before ++ (found.token ++ found.following)
  pub occurs : Occurs pattern text (found.token ++ found.following) state cut
  pub token_is : found.token ≡ front_bytes cut
  pub fault_is : fault_here state cut ≡ Some found.fault
  pub expected_is : found.expected ≡ firsts state.0

-- where the first fault of a text is, if it has one
abbrev pub IsFaultLocation : Pattern → List ℕ → Option Found → Type 0
IsFaultLocation pattern text None = (cut : Cut) × HasTokens 1 0 text cut × (first_fault pattern nothing_seen cut ≡ None)
IsFaultLocation pattern text (Some found) = HasFirstFault pattern text found.fault × IsFoundAt pattern text found
