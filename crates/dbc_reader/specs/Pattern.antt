-- The first fault of a text: a pattern over classes of tokens, what each token leaves of it, and the rules that a token
-- of a class may break. No text after the token is looked at.
use Rattle.std.specs.Prelude.{ℕ, ◌+◌, Bool, true, false, ◌||◌, ◌&&◌, nat_le, if◌then◌else◌, List, [], ◌∷◌, ◌++◌, length, codes}
use Rattle.std.specs.Prelude.{Option, Some, None, Result, Ok, Err}
use Rattle.std.specs.List.{list_any}
use Rattle.std.specs.Str.{bytes_eq}
use Rattle.dbc_records.specs.Databases.{most_messages}
use Rattle.dbc_records.specs.Records.{most_signals}
use Rattle.dbc_tokens.specs.declared.fault.Cause.{Cause}
use Rattle.dbc_tokens.specs.declared.fault.Cause.TheVariants as causes
use Rattle.dbc_tokens.specs.declared.fault.ReadFault.{ReadFault}
use Rattle.dbc_tokens.specs.Tokens.{Token, Cut, End, Fault, ◌▸◌}
use Rattle.dbc_reader.specs.Classes.{has_word, has_mark, has_name, has_symbol, has_string, has_piece, has_kept_word, has_number}
use Rattle.dbc_reader.specs.Classes.{whole_of, order_of, tag_of}

-- ---- classes of tokens

pub data Class : Type 0 where
  -- this word
  Word : List ℕ → Class
  Mark : ℕ → Class
  Name : Class
  Symbol : Class
  String : Class
  -- a whole number from the least to the greatest
  Whole : ℕ → ℕ → Class
  -- a number that is a decimal, negated if this is true
  Number : Bool → Class
  -- a number with the value 0 or 1
  Order : Class
  -- `M`, `m5`, `m5M`
  Tag : Class
  -- any token but a semicolon
  Piece : Class
  -- a word that begins a statement kept verbatim
  KeptWord : Class
  -- the `BO_` and `SG_` that begin a message and a signal, and the signal's name
  BeginsMessage : Class
  BeginsSignal : Class
  SignalName : Class

-- how many messages have begun, and the names of the signals of the last
pub record Seen : Type 0 where
  pub messages : ℕ
  pub signals : List (List ℕ)

-- a token of a class that has no further rule
abbrev pub plain : Bool → Seen → Result Seen Cause
plain true seen = Ok seen
plain false seen = Err causes.Statement

abbrev pub judged_so : {A : Type 0} → Result A Cause → Seen → Result Seen Cause
judged_so (Ok x) seen = Ok seen
judged_so (Err cause) seen = Err cause

abbrev pub one_message_more : Seen → Result Seen Cause
one_message_more seen = if nat_le most_messages seen.messages then Err causes.MessagesFull else Ok
    (record { messages = seen.messages + 1; signals = [] })

abbrev pub one_signal_more : Seen → Result Seen Cause
one_signal_more seen = if nat_le most_signals (length seen.signals) then Err causes.SignalsFull else Ok seen

abbrev pub one_name_more : List ℕ → Seen → Result Seen Cause
one_name_more name seen =
    if list_any (bytes_eq name) seen.signals then Err causes.RepeatedSignal else Ok (record seen {
      signals = seen.signals ++ name
          ∷ [];
    })

-- What a token does where one of the class is allowed: it isn't of the class (a fault of the statement), it breaks a rule, or this
-- is seen from then on.
abbrev pub verdict : Class → Token → Seen → Result Seen Cause
verdict (Word word) t seen = plain (has_word word t) seen
verdict (Mark mark) t seen = plain (has_mark mark t) seen
verdict Name t seen = plain (has_name t) seen
verdict Symbol t seen = plain (has_symbol t) seen
verdict String t seen = plain (has_string t) seen
verdict (Whole least most) t seen = judged_so (whole_of least most t.bytes) seen
verdict (Number negative) t seen = plain (has_number negative t) seen
verdict Order t seen = judged_so (order_of t.bytes) seen
verdict Tag t seen = judged_so (tag_of t.bytes) seen
verdict Piece t seen = plain (has_piece t) seen
verdict KeptWord t seen = plain (has_kept_word t) seen
verdict BeginsMessage t seen = if has_word (codes "BO_") t then one_message_more seen else Err causes.Statement
verdict BeginsSignal t seen = if has_word (codes "SG_") t then one_signal_more seen else Err causes.Statement
verdict SignalName t seen = if has_name t then one_name_more t.bytes seen else Err causes.Statement

abbrev pub is_of_class : Result Seen Cause → Bool
is_of_class (Ok seen) = true
is_of_class (Err causes.Statement) = false
is_of_class (Err cause) = true

-- the token is one of the class, though it may break a rule
abbrev pub has : Class → Token → Seen → Bool
has c t seen = is_of_class (verdict c t seen)

-- ---- patterns

infixr 20 ◌⇒◌
pub data Pattern : Type 0 where
  -- nothing
  Done : Pattern
  -- a token of the class, and then
  ◌⇒◌ : Class → Pattern → Pattern
  -- the first or the second, and then
  Either : Pattern → Pattern → Pattern → Pattern
  -- any number of times, and then
  Repeat : Pattern → Pattern → Pattern

infixr 15 ◌then◌
abbrev pub ◌then◌ : Pattern → Pattern → Pattern
Done then q = q
(c ⇒ p) then q = c ⇒ (p then q)
(Either a b p) then q = Either a b (p then q)
(Repeat a p) then q = Repeat a (p then q)

-- the text may end here
abbrev pub may_end : Pattern → Bool
may_end Done = true
may_end (c ⇒ p) = false
may_end (Either a b p) = (may_end a || may_end b) && may_end p
may_end (Repeat a p) = may_end p

-- the class that takes a token, and the pattern that it leaves
abbrev pub Left : Type 0
Left = Option (Class × Pattern)

abbrev pub first_of : Left → Left → Left
first_of None y = y
first_of (Some x) y = Some x

abbrev pub left_then : Left → Pattern → Left
left_then None q = None
left_then (Some x) q = Some (x.0, x.1 then q)

-- what a token leaves of a pattern, or nothing
abbrev pub after : Pattern → Token → Seen → Left
after Done t seen = None
after (c ⇒ p) t seen = if has c t seen then Some (c, p) else None
after (Either a b p) t seen =
    first_of (left_then (after a t seen) p)
    (first_of (left_then (after b t seen) p) (if may_end a || may_end b then after p t seen else None))
after (Repeat a p) t seen = first_of (left_then (after a t seen) (Repeat a p)) (after p t seen)

-- ---- the first fault

abbrev pub fault_in : ℕ → Cause → ReadFault
fault_in line cause = record { line = line; cause = cause }

-- running out of memory, which is a fault of no line
abbrev pub memory_fault : ReadFault
memory_fault = fault_in 0 causes.Memory

abbrev pub ruled : ℕ → Result Seen Cause → (Seen → Option ReadFault) → Option ReadFault
ruled line (Ok seen) go = go seen
ruled line (Err cause) go = Some (fault_in line cause)

abbrev pub judged : Left → Token → Seen → (Pattern → Seen → Option ReadFault) → Option ReadFault
judged None t seen go = Some (fault_in t.line causes.Statement)
judged (Some x) t seen go = ruled t.line (verdict x.0 t seen) (go x.1)

-- the first fault of these tokens against the pattern, if there is one
unfoldable pub first_fault : Pattern → Seen → Cut → Option ReadFault
first_fault p seen (End line) = if may_end p then None else Some (fault_in line causes.Statement)
first_fault p seen (Fault line) = Some (fault_in line causes.Token)
first_fault p seen (t ▸ cut) = judged (after p t seen) t seen (λ q seen. first_fault q seen cut)

abbrev pub nothing_seen : Seen
nothing_seen = record { messages = 0; signals = [] }
