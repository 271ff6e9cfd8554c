-- What is proved of tokens and of texts: they spell a database exactly when they have no fault, and then just one.
use Rattle.std.specs.Prelude.{◌≡◌, ◌≢◌, ◌↔◌, ◌⊎◌, ℕ, ◌+◌, ◌≤◌, List, None}
use Rattle.dbc_records.specs.Databases.{Database}
use Rattle.dbc_tokens.specs.declared.fault.Cause.TheVariants as causes
use Rattle.dbc_tokens.specs.declared.fault.ReadFault.{ReadFault}
use Rattle.dbc_reader.specs.declared.statement.Statement.{Statement}
use Rattle.dbc_tokens.specs.Tokens.{Token, Cut, End, line_feeds}
use Rattle.dbc_reader.specs.Forms.{◌▸▸◌}
use Rattle.dbc_reader.specs.Spelling.{Spells, SpellsStatement}
use Rattle.dbc_reader.specs.Pattern.{Pattern, first_fault, nothing_seen}
use Rattle.dbc_reader.specs.Grammar as grammar
use Rattle.dbc_reader.specs.Texts.{HasDatabase, HasStatement, HasFirstFault}

-- the tokens run to the end of the text, and spell a database
abbrev pub SpellDatabase : Cut → Type 0
SpellDatabase cut = (tokens : List Token) × (line : ℕ) × (database : Database) × (cut ≡ (tokens ▸▸ End line))
    × Spells tokens database

abbrev pub SpellStatement : Cut → Type 0
SpellStatement cut = (tokens : List Token) × (line : ℕ) × (statement : Statement) × (cut ≡ (tokens ▸▸ End line))
    × SpellsStatement tokens statement

abbrev pub FaultOrDatabase : Type 0
FaultOrDatabase = (cut : Cut) → (first_fault grammar.text nothing_seen cut ≡ None) ↔ SpellDatabase cut

abbrev pub FaultOrStatement : Type 0
FaultOrStatement = (cut : Cut) → (first_fault grammar.one_statement nothing_seen cut ≡ None) ↔ SpellStatement cut

abbrev pub OneDatabase : Type 0
OneDatabase = (tokens : List Token) (a b : Database) → Spells tokens a → Spells tokens b → a ≡ b

abbrev pub OneStatement : Type 0
OneStatement = (tokens : List Token) (a b : Statement) → SpellsStatement tokens a → SpellsStatement tokens b → a ≡ b

-- ---- the same for texts

-- there is such a value, and no other
abbrev pub ExactlyOne : {A : Type 0} → (A → Type 0) → Type 0
ExactlyOne {A} IsSuch = (a : A) × IsSuch a × ((other : A) → IsSuch other → other ≡ a)

-- there is no such value
abbrev pub NoSuch : {A : Type 0} → (A → Type 0) → Type 0
NoSuch {A} IsSuch = (a : A) → IsSuch a → ⊥

-- a text has one database and no first fault, or one first fault and no database
abbrev pub OneReading : Type 0
OneReading = (text : List ℕ) → (ExactlyOne (HasDatabase text) × NoSuch (HasFirstFault grammar.text text))
    ⊎ (ExactlyOne (HasFirstFault grammar.text text) × NoSuch (HasDatabase text))

-- a text is one statement and has no first fault as such, or has one first fault and is none
abbrev pub OneReadingAlone : Type 0
OneReadingAlone =
    (text : List ℕ) → (ExactlyOne (HasStatement text) × NoSuch (HasFirstFault grammar.one_statement text))
    ⊎ (ExactlyOne (HasFirstFault grammar.one_statement text) × NoSuch (HasStatement text))

-- a first fault names a line of the text, and isn't that memory ran out
abbrev pub FaultsAreOfTexts : Type 0
FaultsAreOfTexts = (pattern : Pattern) (text : List ℕ) (fault : ReadFault) → HasFirstFault pattern text fault → (1 ≤ fault.line)
    × (fault.line ≤ 1 + line_feeds text) × (fault.cause ≢ causes.Memory)
