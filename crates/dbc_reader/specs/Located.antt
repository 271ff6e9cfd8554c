-- The database of a text, and where its statements begin.
use Rattle.std.specs.Prelude.{◌≡◌, ◌⊎◌, ℕ, List, ◌++◌, map, Result, Ok, Err}
use Rattle.dbc_records.specs.Databases.{Database}
use Rattle.dbc_tokens.specs.declared.fault.ReadFault.{ReadFault}
use Rattle.dbc_tokens.specs.Tokens.{Token, End, HasTokens}
use Rattle.dbc_reader.specs.declared.start.Starts.{Starts}
use Rattle.dbc_reader.specs.Forms.{Spelled, ◌▸▸◌}
use Rattle.dbc_reader.specs.Grammar as grammar
use Rattle.dbc_reader.specs.Pattern.{memory_fault}
use Rattle.dbc_reader.specs.Spelling.{Spells, version_form}
use Rattle.dbc_reader.specs.Starts.{Located, AreLocated, gather_starts}
use Rattle.dbc_reader.specs.Texts.{HasFirstFault}

-- The tokens spell the database. After those of the version they are the tokens of the very statements from which the database is
-- gathered, and the starts of each kind are, in the same order, where the first tokens of these statements are.
pub record SpellsFrom (tokens : List Token) (database : Database) (starts : Starts) : Type 0 where
  pub spells : Spells tokens database
  pub version : List Token
  pub rest : List Token
  pub parts : tokens ≡ version ++ rest
  pub spelled : Spelled (version_form spells.version) version
  pub located : List Located
  pub statements : map (λ it. it.statement) located ≡ spells.statements
  pub begin : AreLocated located rest
  pub gathered : starts ≡ gather_starts located

-- the text is cut into tokens to its end, and they spell the database, with statements that begin there
abbrev pub HasLocatedDatabase : List ℕ → Database → Starts → Type 0
HasLocatedDatabase text database starts =
    (tokens : List Token) × (line : ℕ) × HasTokens 1 0 text (tokens ▸▸ End line) × SpellsFrom tokens database starts

-- the database of the text and where its statements begin, or the text's first fault; or memory ran out
abbrev pub IsReadWithStarts : List ℕ → Result (Database × Starts) ReadFault → Type 0
IsReadWithStarts text (Ok x) = HasLocatedDatabase text x.0 x.1
IsReadWithStarts text (Err fault) = (fault ≡ memory_fault) ⊎ HasFirstFault grammar.text text fault
