-- Readers: what is at the front of some tokens and what remains after it, or the first fault. They are joined by `do`, by a
-- choice and by repetition.
use Rattle.std.specs.Prelude.{◌≡◌, ◌⊎◌, ℕ, zero, suc, Bool, true, false, Option, Some, None, Result, Ok, Err, if◌then◌else◌}
use Rattle.dbc_tokens.specs.declared.fault.Cause.{Cause}
use Rattle.dbc_tokens.specs.declared.fault.Cause.TheVariants as causes
use Rattle.dbc_tokens.specs.declared.fault.ReadFault.{ReadFault}
use Rattle.dbc_reader.specs.declared.stopped.Stopped.{Stopped}
use Rattle.dbc_reader.specs.declared.stopped.Stopped.TheVariants as stops
use Rattle.dbc_tokens.specs.declared.token.Token as tokens
use Rattle.dbc_tokens.specs.Tokens.{Token, Cut, End, Fault, ◌▸◌}
use Rattle.dbc_tokens.specs.Views.{token_of}
use Rattle.dbc_reader.specs.Pattern.{fault_in, memory_fault}

abbrev pub Reader : Type 0 → Type 0
Reader A = Cut → Result (A × Cut) ReadFault

abbrev pub and_then : {A B : Type 0} → Result (A × Cut) ReadFault → (A → Reader B) → Result (B × Cut) ReadFault
and_then (Ok x) f = f x.0 x.1
and_then (Err fault) f = Err fault

infixl 10 ◌>>=◌
abbrev pub ◌>>=◌ : {A B : Type 0} → Reader A → (A → Reader B) → Reader B
(r >>= f) cut = and_then (r cut) f

-- nothing is read, and this is the value
abbrev pub value : {A : Type 0} → A → Reader A
value x cut = Ok (x, cut)

-- ---- one token

-- any token
unfoldable pub token_at : Reader Token
token_at (End line) = Err (fault_in line causes.Statement)
token_at (Fault line) = Err (fault_in line causes.Token)
token_at (t ▸ cut) = Ok (t, cut)

abbrev pub answered : {A : Type 0} → Token → Result A Cause → Reader A
answered t (Ok x) cut = Ok (x, cut)
answered t (Err cause) cut = Err (fault_in t.line cause)

-- a token, by what it represents
abbrev pub one : {A : Type 0} → (Token → Result A Cause) → Reader A
one judge cut = and_then (token_at cut) (λ t. answered t (judge t))

-- the text ends here
unfoldable pub end_at : Reader (Unit {0})
end_at (End line) = Ok (tt, End line)
end_at (Fault line) = Err (fault_in line causes.Token)
end_at (t ▸ cut) = Err (fault_in t.line causes.Statement)

-- ---- choice and repetition

-- a token that passes the test is here
unfoldable pub starts : (Token → Bool) → Cut → Bool
starts test (End line) = false
starts test (Fault line) = false
starts test (t ▸ cut) = test t

-- the first if the tokens pass the test, otherwise the second
abbrev pub choose_by : {A : Type 0} → (Cut → Bool) → Reader A → Reader A → Reader A
choose_by test r s cut = if test cut then r cut else s cut

-- the first if a token that passes the test is here, otherwise the second
abbrev pub choose : {A : Type 0} → (Token → Bool) → Reader A → Reader A → Reader A
choose test r s cut = if starts test cut then r cut else s cut

-- how many tokens there are
abbrev pub size : Cut → ℕ
size (End line) = 0
size (Fault line) = 0
size (t ▸ cut) = suc (size cut)

-- up to n times, while a token that passes the test is there; each turn goes on from what the turns before it made
abbrev pub rounds : {S : Type 0} → ℕ → (Token → Bool) → (S → Reader S) → S → Reader S
rounds zero test r s cut = Ok (s, cut)
rounds (suc n) test r s cut = if starts test cut then and_then (r s cut) (rounds n test r) else Ok (s, cut)

-- as long as a token that passes the test is there
unfoldable pub repeated : {S : Type 0} → (Token → Bool) → (S → Reader S) → S → Reader S
repeated test r s cut = rounds (size cut) test r s cut

-- ---- what functions give

-- reading met this fault; if memory ran out, nothing is stated
abbrev pub Fails : {A : Type 0} → Stopped → Result A ReadFault → Type 0
Fails stops.Memory read = Unit {0}
Fails (stops.Fault fault) read = read ≡ Err fault

-- the token that a function took, and those that it left, are what reading gives
abbrev pub TakesTo : Result tokens.Token Stopped → Cut → Result (Token × Cut) ReadFault → Type 0
TakesTo (Ok t) left read = read ≡ Ok (token_of t, left)
TakesTo (Err stopped) left read = Fails stopped read

-- what a function returned, and the tokens that it left, are what reading gives
abbrev pub GivesTo : {A : Type 0} → Result A Stopped → Cut → Result (A × Cut) ReadFault → Type 0
GivesTo (Ok x) left read = read ≡ Ok (x, left)
GivesTo (Err stopped) left read = Fails stopped read

-- a function gives what is here if a token that passes the test is here, and otherwise takes nothing
abbrev pub MayGive : {A : Type 0} → Result (Option A) Stopped → (Token → Bool) → Reader A → Cut → Cut → Type 0
MayGive (Ok None) test reader left cut = (starts test cut ≡ false) × (left ≡ cut)
MayGive (Ok (Some x)) test reader left cut = (starts test cut ≡ true) × (reader cut ≡ Ok (x, left))
MayGive (Err stopped) test reader left cut = (starts test cut ≡ true) × Fails stopped (reader cut)

-- the same for a function whose value is what it made of one of its arguments
abbrev pub MakesTo : {A X : Type 0} → Result X Stopped → A → Cut → Result (A × Cut) ReadFault → Type 0
MakesTo (Ok u) made left read = read ≡ Ok (made, left)
MakesTo (Err stopped) made left read = Fails stopped read

-- the fault that a stop is for those who read texts
abbrev pub fault_of : Stopped → ReadFault
fault_of stops.Memory = memory_fault
fault_of (stops.Fault fault) = fault

-- a text was read in this way, or memory ran out
abbrev pub IsReading : {A : Type 0} → Result A ReadFault → Result (A × Cut) ReadFault → Type 0
IsReading (Ok x) read = (rest : Cut) × (read ≡ Ok (x, rest))
IsReading (Err fault) read = (fault ≡ memory_fault) ⊎ (read ≡ Err fault)
