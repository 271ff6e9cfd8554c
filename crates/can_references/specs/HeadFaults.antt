-- The diagnostics of a message by its CAN identifier, its name and its nodes, given the whole database. Source: the DBC
-- file format, "Message Definitions", "Node Definitions"; SAE J1939-21, "Parameter Group Numbers". What is reported is
-- the profile of candesk.
use Rattle.std.specs.Prelude.{◌==◌, ◌&&◌, ℕ, Bool, not, List, [], ◌++◌, Option, Some, None}
use Rattle.std.specs.List.{flat_map}
use Rattle.std.specs.Str.{bytes_eq}
use Rattle.dbc_records.specs.Records.{Head, Signal, Message}
use Rattle.dbc_records.specs.Databases.{Database}
use Rattle.can_entries.specs.Groups.{is_bad_number, pseudo_number, group_of}
use Rattle.can_diagnostics.specs.Diagnostics.{of_message, of_sender, of_receiver}
use Rattle.can_diagnostics.specs.declared.code.Code.TheVariants as codes
use Rattle.can_diagnostics.specs.declared.diagnostic.Diagnostic.{Diagnostic}
use Rattle.can_references.specs.Finding.{where_true, is_shared}
use Rattle.can_references.specs.CrossReferences.{numbers_of, names_of, groups_of, is_known_node}

-- the message that holds signals of no message
abbrev pub is_pseudo : Head → Bool
is_pseudo head = head.number == pseudo_number

-- ---- the message

-- its CAN identifier is invalid
unfoldable pub bad_identifier : Message → List Diagnostic
bad_identifier m = where_true (is_bad_number m.head.number && not (is_pseudo m.head)) (of_message codes.BadIdentifier m.head)

-- another message has its CAN identifier
unfoldable pub shared_identifier : Database → Message → List Diagnostic
shared_identifier database m = where_true (is_shared (λ a b. a == b) m.head.number (numbers_of database))
    (of_message codes.SharedIdentifier m.head)

-- another message has its name
unfoldable pub shared_name : Database → Message → List Diagnostic
shared_name database m = where_true (is_shared bytes_eq m.head.name (names_of database)) (of_message codes.SharedName m.head)

abbrev pub in_shared_group : Database → Head → Option ℕ → List Diagnostic
in_shared_group database head None = []
in_shared_group database head (Some group) = where_true (is_shared (λ a b. a == b) group (groups_of database))
    (of_message codes.SharedGroup head)

-- it and another are J1939 messages of one parameter group
unfoldable pub shared_group : Database → Message → List Diagnostic
shared_group database m = in_shared_group database m.head (group_of m.head.number database)

-- codes 1 to 4
unfoldable pub head_faults : Database → Message → List Diagnostic
head_faults database m = bad_identifier m ++ (shared_identifier database m ++ (shared_name database m ++ shared_group database m))

-- ---- nodes

abbrev pub unknown_sender : Database → Head → List Diagnostic
unknown_sender database head = where_true (not (is_known_node database head.sender)) (of_sender codes.UnknownNode head)

abbrev pub unknown_receiver : Database → Head → Signal → List ℕ → List Diagnostic
unknown_receiver database head signal node = where_true (not (is_known_node database node)) (of_receiver codes.UnknownNode head
    signal node)

abbrev pub unknown_receivers : Database → Head → Signal → List Diagnostic
unknown_receivers database head signal = flat_map (unknown_receiver database head signal) signal.receivers

-- its sender, or a receiver of a signal, is not in the list of nodes
unfoldable pub unknown_nodes : Database → Message → List Diagnostic
unknown_nodes database m = unknown_sender database m.head ++ flat_map (unknown_receivers database m.head) m.signals
