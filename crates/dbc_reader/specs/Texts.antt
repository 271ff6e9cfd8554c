-- What a text spells: the database, or the one statement, that its tokens spell, or else its first fault.
use Rattle.std.specs.Prelude.{◌≡◌, ◌⊎◌, ℕ, List, Some, Result, Ok, Err}
use Rattle.dbc_records.specs.Databases.{Database}
use Rattle.dbc_tokens.specs.declared.fault.ReadFault.{ReadFault}
use Rattle.dbc_reader.specs.declared.statement.Statement.{Statement}
use Rattle.dbc_tokens.specs.Tokens.{Token, Cut, End, HasTokens}
use Rattle.dbc_reader.specs.Forms.{◌▸▸◌}
use Rattle.dbc_reader.specs.Spelling.{Spells, SpellsStatement}
use Rattle.dbc_reader.specs.Pattern.{Pattern, first_fault, nothing_seen, memory_fault}
use Rattle.dbc_reader.specs.Grammar as grammar

-- the text is cut into tokens to its end, and they spell the database
abbrev pub HasDatabase : List ℕ → Database → Type 0
HasDatabase text database = (tokens : List Token) × (line : ℕ) × HasTokens 1 0 text (tokens ▸▸ End line) × Spells tokens database

abbrev pub HasStatement : List ℕ → Statement → Type 0
HasStatement text statement = (tokens : List Token) × (line : ℕ) × HasTokens 1 0 text (tokens ▸▸ End line)
    × SpellsStatement tokens statement

-- this is the first fault of the text's tokens against the pattern
abbrev pub HasFirstFault : Pattern → List ℕ → ReadFault → Type 0
HasFirstFault pattern text fault = (cut : Cut) × HasTokens 1 0 text cut × (first_fault pattern nothing_seen cut ≡ Some fault)

-- the database of the text, or its first fault; or memory ran out
abbrev pub IsRead : List ℕ → Result Database ReadFault → Type 0
IsRead text (Ok database) = HasDatabase text database
IsRead text (Err fault) = (fault ≡ memory_fault) ⊎ HasFirstFault grammar.text text fault

-- the one statement of the text, or its first fault; or memory ran out
abbrev pub IsReadAlone : List ℕ → Result Statement ReadFault → Type 0
IsReadAlone text (Ok statement) = HasStatement text statement
IsReadAlone text (Err fault) = (fault ≡ memory_fault) ⊎ HasFirstFault grammar.one_statement text fault
