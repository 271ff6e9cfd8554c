-- The comment and the attributes of a message or a signal. Source: the DBC file format, "Comment Definitions" and "User Defined
-- Attribute Definitions". That the first of several comments counts is the profile of candesk.
use Rattle.std.specs.Prelude.{◌≡◌, ◌==◌, ◌&&◌, ℕ, Bool, false, List, [], Option, Some, None, filter}
use Rattle.std.specs.BTreeMap.{BTreeMap, get}
use Rattle.std.specs.Option.{option_map_or}
use Rattle.std.specs.Ordering.{nat_cmp}
use Rattle.std.specs.List.{find}
use Rattle.std.specs.Str.{bytes_eq}
use Rattle.dbc_records.specs.Comments.{Comment, is_for_message}
use Rattle.dbc_records.specs.Attributes.{AttrRow}
use Rattle.dbc_records.specs.Databases.{Database}
use Rattle.dbc_records.specs.declared.target.Target.{Target}
use Rattle.dbc_records.specs.declared.target.Target.TheVariants as targets

-- a message by its CAN identifier, or a signal of it by its name
pub record Subject : Type 0 where
  pub number : ℕ
  pub signal : Option (List ℕ)

abbrev pub is_for_signal : ℕ → List ℕ → Target → Bool
is_for_signal number name targets.Whole = false
is_for_signal number name (targets.Node node) = false
is_for_signal number name (targets.Message other) = false
is_for_signal number name (targets.Signal other signal) = other == number && bytes_eq signal name

abbrev pub is_for_named : ℕ → Option (List ℕ) → Target → Bool
is_for_named number None target = is_for_message number target
is_for_named number (Some name) target = is_for_signal number name target

-- whether a statement is about it
abbrev pub is_for : Subject → Target → Bool
is_for subject target = is_for_named subject.number subject.signal target

-- the first comment
abbrev pub comment_of : Database → Subject → Option Comment
comment_of database subject = find (λ comment. is_for subject comment.target) database.comments

-- the attributes, in order
abbrev pub attributes_of : Database → Subject → List AttrRow
attributes_of database subject = filter (λ row. is_for subject row.target) database.attributes

-- ---- by CAN identifiers

-- whether a statement is about the message of a CAN identifier or a signal of it
abbrev pub is_at : ℕ → Target → Bool
is_at number targets.Whole = false
is_at number (targets.Node node) = false
is_at number (targets.Message other) = other == number
is_at number (targets.Signal other signal) = other == number

-- what is kept for a CAN identifier
abbrev pub kept_at : {A V : Type 0} → (V → List A) → BTreeMap ℕ V → ℕ → List A
kept_at items_of by_number number = option_map_or items_of (get nat_cmp by_number number) []

-- for each CAN identifier there are the entries about the message of that CAN identifier or a signal of it, in order
abbrev pub IsByNumber : {A V : Type 0} → (V → List A) → (A → Target) → BTreeMap ℕ V → List A → Type 0
IsByNumber items_of target_of by_number rows =
    (number : ℕ) → kept_at items_of by_number number ≡ filter (λ row. is_at number (target_of row)) rows
