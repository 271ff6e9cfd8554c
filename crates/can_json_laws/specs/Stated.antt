-- What `decode` writes after ` :: ` for a line, read from the line's object alone. Source: cantools, the single-line form of
-- `decode`; RFC 8259, "Objects". What is written for frames without values is the profile of candesk.
use Rattle.std.specs.Prelude.{ℕ, ◌/◌, List, [], ◌++◌, length, codes, Option, Some, None, if◌then◌else◌}
use Rattle.std.specs.Option.{option_map_or}
use Rattle.std.specs.Result.{result_ok}
use Rattle.std.specs.Str.{bytes_eq}
use Rattle.std.specs.Str.Parse.{digits_value}
use Rattle.hex.specs.Hex.{decode_of}
use Rattle.json.specs.Json.{Json, null, boolean, number, string, array, object, Members, no_members, member}
use Rattle.can_json_texts.specs.Members.{hex_key}
use Rattle.dbc_text_buffer.specs.Shown.{shown}
use Rattle.can_layout.specs.Decoders.{unit_text}
use Rattle.can_decode.specs.DecodedLines.{unknown_text, wrong_size_text}

-- ---- members

-- the value of a key
abbrev pub value_at : List ℕ → Members → Option Json
value_at key no_members = None
value_at key (member k value members) = if bytes_eq key k then Some value else value_at key members

-- the text of a string, or the digits of a number
abbrev pub text_in : Option Json → List ℕ
text_in None = []
text_in (Some null) = []
text_in (Some (boolean b)) = []
text_in (Some (number digits)) = digits
text_in (Some (string text)) = text
text_in (Some (array items)) = []
text_in (Some (object given)) = []

abbrev pub members_in : Option Json → Members
members_in None = no_members
members_in (Some null) = no_members
members_in (Some (boolean b)) = no_members
members_in (Some (number digits)) = no_members
members_in (Some (string text)) = no_members
members_in (Some (array items)) = no_members
members_in (Some (object members)) = members

abbrev pub text_at : List ℕ → Members → List ℕ
text_at key members = text_in (value_at key members)

abbrev pub number_at : List ℕ → Members → ℕ
number_at key members = digits_value 10 (text_at key members)

-- the bytes of these pairs of digits
abbrev pub bytes_of_pairs : List ℕ → List ℕ
bytes_of_pairs pairs = option_map_or (λ (bytes : List ℕ). bytes) (result_ok (decode_of pairs)) []

-- the bytes of a text: those of the pairs that follow it, or the text itself
abbrev pub bytes_by : Option Json → List ℕ → List ℕ
bytes_by None text = text
bytes_by (Some pairs) text = bytes_of_pairs (text_in (Some pairs))

abbrev pub bytes_at : List ℕ → Members → List ℕ
bytes_at key members = bytes_by (value_at (hex_key key) members) (text_at key members)

-- ---- signals

-- a value and its unit
abbrev pub value_by : Members → List ℕ
value_by given = text_at (codes "value") given ++ unit_text (bytes_at (codes "unit") given)

-- a value description, or a value and its unit
abbrev pub described_by : Option Json → Members → List ℕ
described_by None given = value_by given
described_by (Some name) given = shown (bytes_at (codes "name") given)

-- `20.5 km/h`, `Enabled` or `?float`
abbrev pub reading_by : Option Json → Members → List ℕ
reading_by None given = described_by (value_at (codes "name") given) given
reading_by (Some cause) given = codes "?" ++ text_in (Some cause)

-- `Speed: 20.5 km/h`
abbrev pub signal_by : List ℕ → Json → List ℕ
signal_by name given =
    name ++ (codes ": " ++ reading_by (value_at (codes "refused") (members_in (Some given))) (members_in (Some given)))

abbrev pub further_by : Members → List ℕ
further_by no_members = []
further_by (member name given members) = (codes ", " ++ signal_by name given) ++ further_by members

-- `Speed: 20.5 km/h, Brake: 3`
abbrev pub signals_by : Members → List ℕ
signals_by no_members = []
signals_by (member name given members) = signal_by name given ++ further_by members

-- ---- messages

abbrev pub destination_by : Option Json → List ℕ
destination_by None = []
destination_by (Some destination) = codes " d" ++ text_in (Some destination)

-- `[p6 s49]`
abbrev pub fields_by : Members → List ℕ
fields_by fields =
    codes "[p" ++ (text_at (codes "priority") fields
    ++ (codes " s" ++ (text_at (codes "source") fields
    ++ (destination_by (value_at (codes "destination") fields) ++ codes "]"))))

abbrev pub group_by : Option Json → List ℕ
group_by None = []
group_by (Some group) = fields_by (members_in (Some group))

-- `CCVS[p6 s49](Speed: 20.5 km/h)`
abbrev pub message_by : Members → List ℕ
message_by line =
    text_at (codes "message") line
    ++ (group_by (value_at (codes "j1939") line)
    ++ (codes "(" ++ (signals_by (members_in (value_at (codes "signals") line)) ++ codes ")")))

-- ---- frames

-- why a frame isn't decoded
abbrev pub cause_by : List ℕ → Members → List ℕ
cause_by cause line =
    if bytes_eq cause (codes "error frame") then codes "Error frame"
    else if bytes_eq cause (codes "remote frame") then codes "Remote frame"
    else if bytes_eq cause (codes "unknown id") then unknown_text (number_at (codes "id") line)
    else wrong_size_text (length (text_at (codes "data") line) / 2) (number_at (codes "size") line)

abbrev pub frame_by : Option Json → Members → List ℕ
frame_by None line = message_by line
frame_by (Some cause) line = cause_by (text_in (Some cause)) line

-- the decoded frame of a line
unfoldable pub stated_by : Members → List ℕ
stated_by line = frame_by (value_at (codes "not_decoded") line) line
