-- What contracts see of classes, patterns and what was seen: those of the first fault. And which classes a pattern begins with.
use Rattle.std.specs.Prelude.{◌≡◌, ℕ, Bool, true, false, ◌||◌, List, [], ◌∷◌, ◌++◌, map, reverse, codes}
use Rattle.std.specs.Prelude.{Option, Some, None, Result, Ok, Err, if◌then◌else◌}
use Rattle.std.specs.Borrow.{Bor}
use Rattle.dbc_tokens.specs.declared.fault.Cause.{Cause}
use Rattle.dbc_tokens.specs.declared.fault.Cause.TheVariants as causes
use Rattle.dbc_reader.specs.Pattern.{Class, Word, Mark, Name, Symbol, String, Whole, Number, Order, Tag, Piece, KeptWord}
use Rattle.dbc_reader.specs.Pattern.{BeginsMessage, BeginsSignal, SignalName, Seen, Pattern, Done, ◌⇒◌, Either, Repeat, ◌then◌}
use Rattle.dbc_reader.specs.Pattern.{may_end}
use Rattle.dbc_reader.specs.Grammar as grammar
use Rattle.dbc_faults.specs.declared.class.Class.{Class as ClassOfCode}
use Rattle.dbc_faults.specs.declared.class.Class.TheVariants as classes
use Rattle.dbc_faults.specs.declared.grammar.Beginning.{Beginning}
use Rattle.dbc_faults.specs.declared.grammar.Beginning.TheVariants as beginnings
use Rattle.dbc_faults.specs.declared.keyword.Keyword.{Keyword}
use Rattle.dbc_faults.specs.declared.keyword.Keyword.TheVariants as keywords
use Rattle.dbc_faults.specs.declared.pattern.Pattern.{Pattern as PatternOfCode}
use Rattle.dbc_faults.specs.declared.pattern.Pattern.TheVariants as patterns
use Rattle.dbc_faults.specs.declared.seen.Seen.{Seen as SeenOfCode}

-- the word as it is in a text
abbrev pub bytes_of : Keyword → List ℕ
bytes_of keywords.Version = codes "VERSION"
bytes_of keywords.Symbols = codes "NS_"
bytes_of keywords.BitTiming = codes "BS_"
bytes_of keywords.Nodes = codes "BU_"
bytes_of keywords.Message = codes "BO_"
bytes_of keywords.Signal = codes "SG_"
bytes_of keywords.Variable = codes "EV_"
bytes_of keywords.Table = codes "VAL_TABLE_"
bytes_of keywords.Values = codes "VAL_"
bytes_of keywords.Float = codes "SIG_VALTYPE_"
bytes_of keywords.Mux = codes "SG_MUL_VAL_"
bytes_of keywords.Comment = codes "CM_"
bytes_of keywords.Definition = codes "BA_DEF_"
bytes_of keywords.Default = codes "BA_DEF_DEF_"
bytes_of keywords.Attribute = codes "BA_"
bytes_of keywords.IntForm = codes "INT"
bytes_of keywords.HexForm = codes "HEX"
bytes_of keywords.FloatForm = codes "FLOAT"
bytes_of keywords.StringForm = codes "STRING"
bytes_of keywords.EnumForm = codes "ENUM"

abbrev pub class_of : ClassOfCode → Class
class_of (classes.Word word) = Word (bytes_of word)
class_of (classes.Mark mark) = Mark mark
class_of classes.Name = Name
class_of classes.Symbol = Symbol
class_of classes.String = String
class_of (classes.Whole least most) = Whole least most
class_of (classes.Number negative) = Number negative
class_of classes.Order = Order
class_of classes.Tag = Tag
class_of classes.Piece = Piece
class_of classes.KeptWord = KeptWord
class_of classes.BeginsMessage = BeginsMessage
class_of classes.BeginsSignal = BeginsSignal
class_of classes.SignalName = SignalName

abbrev pub pattern_of : PatternOfCode → Pattern
pattern_of patterns.Done = Done
pattern_of (patterns.Then' class p next) = class_of class ⇒ pattern_of next
pattern_of (patterns.Either' p first q second r next) = Either (pattern_of first) (pattern_of second) (pattern_of next)
pattern_of (patterns.Repeat' p each q next) = Repeat (pattern_of each) (pattern_of next)

-- patterns one after the other
abbrev pub joined : List Pattern → Pattern
joined [] = Done
joined (p ∷ others) = p then joined others

-- these patterns
abbrev pub patterns_of : List (Bor PatternOfCode) → List Pattern
patterns_of left = map (λ pattern. pattern_of pattern.now) left

-- these patterns one after the other, the last at the front
abbrev pub stacked : List (Bor PatternOfCode) → Pattern
stacked left = joined (reverse (patterns_of left))

abbrev pub seen_of : SeenOfCode → Seen
seen_of seen = record { messages = seen.messages; signals = map (λ name. name.now) seen.signals.items }

-- a rejection of what passes no test
abbrev pub refusal_of : Bool → Option Cause
refusal_of true = None
refusal_of false = Some causes.Statement

-- why something isn't taken
abbrev pub cause_of : {A : Type 0} → Result A Cause → Option Cause
cause_of (Ok x) = None
cause_of (Err cause) = Some cause

-- nothing is reported if something is taken, and this is so now; otherwise the cause is reported, and all is as before
abbrev pub Answers : {A : Type 0} → Result A Cause → Option Cause → A → A → Type 0
Answers judged None before now = judged ≡ Ok now
Answers judged (Some cause) before now = (judged ≡ Err cause) × (now ≡ before)

-- the classes of tokens that may come at the front
abbrev pub firsts : Pattern → List Class
firsts Done = []
firsts (c ⇒ p) = c ∷ []
firsts (Either a b p) = firsts a ++ firsts b ++ (if may_end a || may_end b then firsts p else [])
firsts (Repeat a p) = firsts a ++ firsts p

-- classes one after the other, and then
abbrev pub chain : List Class → Pattern → Pattern
chain [] next = next
chain (c ∷ others) next = c ⇒ chain others next

-- a whole text, or one that goes on with signals of a message
abbrev pub pattern_from : Beginning → Pattern
pattern_from beginnings.Text = grammar.text
pattern_from beginnings.Signals = Repeat grammar.signal grammar.text
