-- What the whole of a database has on a CAN identifier, a name or a node: lists of keys in the order of the database.
use Rattle.std.specs.Prelude.{◌≡◌, ◌||◌, ℕ, Bool, List, [], ◌∷◌, Option, Some, None, map, codes}
use Rattle.std.specs.List.{flat_map}
use Rattle.std.specs.List.Sorted.{IsPermutation}
use Rattle.std.specs.Str.{bytes_eq}
use Rattle.dbc_records.specs.Records.{Message, ValueRow}
use Rattle.dbc_records.specs.Databases.{Database}
use Rattle.can_entries.specs.Groups.{group_of}
use Rattle.can_references.specs.Finding.{occurs_in}

-- the CAN identifiers and the names of the messages
abbrev pub numbers_of : Database → List ℕ
numbers_of database = map (λ message. message.head.number) database.messages

abbrev pub names_of : Database → List (List ℕ)
names_of database = map (λ message. message.head.name) database.messages

abbrev pub perhaps : Option ℕ → List ℕ
perhaps None = []
perhaps (Some group) = group ∷ []

-- the parameter groups of the J1939 messages
abbrev pub groups_of : Database → List ℕ
groups_of database = flat_map (λ message. perhaps (group_of message.head.number database)) database.messages

-- the signals, each by the CAN identifier of its message and its name
abbrev pub signals_in : Message → List (ℕ × List ℕ)
signals_in message = map (λ signal. (message.head.number, signal.name)) message.signals

abbrev pub signals_of : Database → List (ℕ × List ℕ)
signals_of database = flat_map signals_in database.messages

-- the names of the attribute definitions
abbrev pub defined_in : Database → List (List ℕ)
defined_in database = map (λ definition. definition.name) database.definitions

-- ---- nodes

-- the name that represents no node
abbrev pub no_node : List ℕ
no_node = codes "Vector__XXX"

-- a node of the list of nodes, or none
abbrev pub is_known_node : Database → List ℕ → Bool
is_known_node database name = occurs_in bytes_eq name database.nodes || bytes_eq name no_node

-- ---- what is found by keys

-- these are all keys of a database, each kind in any order, and all `VAL_` entries
pub record AreCrossReferences (database : Database) (numbers : List ℕ) (names : List (List ℕ)) (groups : List ℕ)
    (signals : List (ℕ × List ℕ)) (nodes defined : List (List ℕ)) (many : List ValueRow) : Type 0 where
  pub all_numbers : IsPermutation (numbers_of database) numbers
  pub all_names : IsPermutation (names_of database) names
  pub all_groups : IsPermutation (groups_of database) groups
  pub all_signals : IsPermutation (signals_of database) signals
  pub all_nodes : IsPermutation database.nodes nodes
  pub all_defined : IsPermutation (defined_in database) defined
  pub all_values : many ≡ database.values
