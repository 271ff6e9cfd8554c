-- What `decode` writes of a frame follows from the object of its line.
use Rattle.std.proofs.Common.{◌≡◌, ℕ, ◌/◌, ◌<◌, ◌^◌, Bool, true, false, List, [], ◌∷◌, ◌++◌, length, Option, Some, None}
use Rattle.std.proofs.Common.{if◌then◌else◌, refl, sym, ap, ap₂, ◌∙◌, subst, arith, codes, decimal}
use Rattle.std.specs.Prelude.{nat_le}
use Rattle.std.specs.List.{AllByRecursion, list_any}
use Rattle.std.specs.Str.{bytes_eq}
use Rattle.std.specs.Str.Parse.{digits_value}
use Rattle.std.proofs.lemmas.Bool.{leb-true}
use Rattle.std.proofs.lemmas.Fmt.{decimal_is_IsNumeral}
use Rattle.hex.specs.Hex.{encode_upper, upper_digits}
use Rattle.hex.proofs.HexLemmas.{length-encode_with}
use Rattle.json.specs.Json.{Json, string, number, Members}
use Rattle.can_json_texts.specs.Members.{Member, members_of, object_of, text_members}
use Rattle.dbc_records.specs.Records.{Message, IsMessage}
use Rattle.dbc_records.specs.Databases.{Database, IsDatabase}
use Rattle.can_entries.specs.Groups.{priority_of, source_of, specific_of, format_of}
use Rattle.can_layout.specs.Plans.{plan_in, plan_of}
use Rattle.can_frames.specs.Frames.{Frame, is_data, is_data_kind, body_of}
use Rattle.can_frames.specs.declared.frame.Kind.{Kind}
use Rattle.can_frames.specs.declared.frame.Kind.TheVariants.{Classic, Fd, Remote, Error}
use Rattle.can_decode.specs.declared.short.Short.{Short}
use Rattle.can_decode.specs.DecodedLines.{Bus, Target, target_of, chosen_target, is_refused, group_text, bracket_text}
use Rattle.can_decode.specs.DecodedLines.{message_text, wrong_size_text, unknown_text, data_text, text_of_kind, frame_text}
use Rattle.can_decode.specs.DecodedLines.{signals_text, shown_rows}
use Rattle.can_json_lines.specs.Signals.{signal_members}
use Rattle.can_json_lines.specs.Lines.{frame_members, group_members, j1939_members, message_members}
use Rattle.can_json_lines.specs.Lines.{wrong_size_members, data_stated, stated_members, rest_members, interface_of, rest_of}
use Rattle.can_json_lines.specs.Lines.{time_of, known_members, members_by, line_members}
use Rattle.can_json_laws.specs.LineLaws.{ShowsBytes, ReportsNoLess}
use Rattle.can_json_laws.specs.Stated.{value_at, text_in, members_in, text_at, number_at, destination_by, fields_by, group_by}
use Rattle.can_json_laws.specs.Stated.{signals_by, cause_by, frame_by, stated_by}
use Rattle.can_json_laws.proofs.Among.{none_among, keys_of}
use Rattle.can_json_laws.proofs.Sound.{texts_among}
use Rattle.can_json_laws.proofs.Looked.{passed, absent}
use Rattle.can_json_laws.proofs.Stamps.{LinesAreGiven}
use Rattle.can_json_laws.proofs.Targets.{IsKnown, known, all_at, identifier_fits}
use Rattle.can_json_laws.proofs.Parsed.{interface_keys, frame_keys, rest_keys, frame_among}
use Rattle.can_json_laws.proofs.Parsed.{rest_among}
use Rattle.can_json_laws.proofs.StatedSignals.{signals_stated}

-- the members of a line whose frame has this text
abbrev saying : List ℕ → Frame → List Member → List Member
saying body frame stated =
    (codes "time", number (time_of body))
    ∷ (text_members (codes "interface") (interface_of body) ++ (frame_members frame ++ (stated ++ rest_members (rest_of body))))

-- ---- what is before the decoded frame

-- the key is none of those in front
record IsStated (key : List ℕ) : Type 0 where
  time : bytes_eq key (codes "time") ≡ false
  interface : list_any (bytes_eq key) interface_keys ≡ false
  frame : list_any (bytes_eq key) frame_keys ≡ false

at_stated : (key body : List ℕ) (frame : Frame) (stated : List Member) → IsStated key
    → value_at key (members_of (saying body frame stated)) ≡ value_at key (members_of (stated ++ rest_members (rest_of body)))
at_stated key body frame stated is =
    let came = text_members (codes "interface") (interface_of body) in
    let rest = stated ++ rest_members (rest_of body) in
    ap (λ (b : Bool). if b then Some (number (time_of body)) else value_at key (members_of (came ++ (frame_members frame ++ rest))))
    is.time
    ∙ passed key came (frame_members frame ++ rest)
    (none_among key (keys_of came) interface_keys (texts_among (codes "interface") (interface_of body)) is.interface)
    ∙ passed key (frame_members frame) rest
    (none_among key (keys_of (frame_members frame)) frame_keys (frame_among frame) is.frame)

-- the members of the frame itself
at_frame : (key body : List ℕ) (frame : Frame) (stated : List Member) → bytes_eq key (codes "time") ≡ false
    → list_any (bytes_eq key) interface_keys ≡ false
    → value_at key (members_of (saying body frame stated))
    ≡ value_at key (members_of (frame_members frame ++ (stated ++ rest_members (rest_of body))))
at_frame key body frame stated time interface =
    let came = text_members (codes "interface") (interface_of body) in
    let after = frame_members frame ++ (stated ++ rest_members (rest_of body)) in
    ap (λ (b : Bool). if b then Some (number (time_of body)) else value_at key (members_of (came ++ after))) time
    ∙ passed key came after
    (none_among key (keys_of came) interface_keys (texts_among (codes "interface") (interface_of body)) interface)

-- ---- numbers and data

value_is : (n : ℕ) → n < 2 ^ 64 → digits_value 10 (decimal n) ≡ n
value_is n fits = (decimal_is_IsNumeral n fits).1

identifier_stated : (body : List ℕ) (frame : Frame) (stated : List Member) → frame.identifier < 2 ^ 29
    → number_at (codes "id") (members_of (saying body frame stated)) ≡ frame.identifier
identifier_stated body frame stated fits =
    ap (λ (value : Option Json). digits_value 10 (text_in value)) (at_frame (codes "id") body frame stated refl refl)
    ∙ value_is frame.identifier (omega (arith, fits))

data_stated_by : (bytes : List ℕ) (test : Bool) (after : List Member) → test ≡ true
    → text_in (value_at (codes "data")
    (members_of ((if test then (codes "data", string (encode_upper bytes)) ∷ [] else []) ++ after))) ≡ encode_upper bytes
data_stated_by bytes true after is = refl
data_stated_by bytes false after is = absurd (let no : false ≡ true = is in cc)

count_stated : (body : List ℕ) (frame : Frame) (stated : List Member) → is_data frame ≡ true
    → length (text_at (codes "data") (members_of (saying body frame stated))) / 2 ≡ length frame.bytes
count_stated body frame stated is =
    let digits : text_at (codes "data") (members_of (saying body frame stated)) ≡ encode_upper frame.bytes =
    ap text_in (at_frame (codes "data") body frame stated refl refl)
    ∙ data_stated_by frame.bytes (is_data frame) (stated ++ rest_members (rest_of body)) is in
    ap (λ (text : List ℕ). length text / 2) digits
    ∙ ap (λ (n : ℕ). n / 2) (length-encode_with upper_digits frame.bytes) ∙ omega arith

-- ---- J1939

destination_stated : (identifier : ℕ) (test : Bool)
    → destination_by (value_at (codes "destination")
    (members_of (if test then [] else (codes "destination", number (decimal (specific_of identifier))) ∷ [])))
    ≡ (if test then [] else codes " d" ++ decimal (specific_of identifier))
destination_stated identifier true = refl
destination_stated identifier false = refl

fields_stated : (identifier : ℕ) → fields_by (members_of (group_members identifier)) ≡ group_text identifier
unfolding group_text
fields_stated identifier =
    ap (λ (text : List ℕ). codes "[p" ++ (decimal (priority_of identifier)
    ++ (codes " s" ++ (decimal (source_of identifier) ++ (text ++ codes "]")))))
    (destination_stated identifier (nat_le 240 (format_of identifier)))

-- the fields of a J1939 message, and the rest of its text
group_stated : (identifier : ℕ) (group : Bool) (values rest : List Member)
    → AllByRecursion (λ key. bytes_eq (codes "j1939") key ≡ false) (keys_of (values ++ rest))
    → group_by (value_at (codes "j1939") (members_of ((j1939_members identifier group ++ values) ++ rest)))
    ≡ bracket_text identifier group
group_stated identifier true values rest others = fields_stated identifier
group_stated identifier false values rest others = ap group_by (absent (codes "j1939") (values ++ rest) others)

past_group : (key : List ℕ) (identifier : ℕ) (group : Bool) (values rest : List Member) → bytes_eq key (codes "j1939") ≡ false
    → value_at key (members_of ((j1939_members identifier group ++ values) ++ rest)) ≡ value_at key (members_of (values ++ rest))
past_group key identifier true values rest is =
    ap (λ (b : Bool). if b then Some (object_of (group_members identifier)) else value_at key (members_of (values ++ rest))) is
past_group key identifier false values rest is = refl

-- ---- messages

abbrev values_of : Frame → Target → Bool → List Member
values_of frame target short =
    if short then wrong_size_members target.plan.size
    else (codes "signals", object_of (signal_members frame.bytes target.plan)) ∷ []

abbrev message_line : List ℕ → Frame → Target → Bool → Members
message_line body frame target short = members_of (saying body frame (message_members frame target ++ values_of frame target short))

-- a key that is neither in front nor of the message itself
in_values : (key body : List ℕ) (frame : Frame) (target : Target) (short : Bool) → IsStated key
    → bytes_eq key (codes "message") ≡ false → bytes_eq key (codes "number") ≡ false → bytes_eq key (codes "j1939") ≡ false
    → value_at key (message_line body frame target short)
    ≡ value_at key (members_of (values_of frame target short ++ rest_members (rest_of body)))
in_values key body frame target short is named numbered grouped =
    let values = values_of frame target short in
    let rest = rest_members (rest_of body) in
    let after = (j1939_members frame.identifier target.group ++ values) ++ rest in
    at_stated key body frame (message_members frame target ++ values) is
    ∙ ap (λ (b : Bool). if b then Some (string target.message.head.name)
    else if bytes_eq key (codes "number") then Some (number (decimal target.message.head.number))
    else value_at key (members_of after)) named
    ∙ ap (λ (b : Bool). if b then Some (number (decimal target.message.head.number)) else value_at key (members_of after)) numbered
    ∙ past_group key frame.identifier target.group values rest grouped

is_stated : (key : List ℕ) → bytes_eq key (codes "time") ≡ false → list_any (bytes_eq key) interface_keys ≡ false
    → list_any (bytes_eq key) frame_keys ≡ false → IsStated key
is_stated key time interface frame = record { time = time; interface = interface; frame = frame }

-- what isn't decoded because of its length
size_stated : (body : List ℕ) (frame : Frame) (target : Target) → is_data frame ≡ true → target.plan.size < 2 ^ 64
    → stated_by (message_line body frame target true) ≡ wrong_size_text (length frame.bytes) target.plan.size
unfolding stated_by
size_stated body frame target is fits =
    let line = message_line body frame target true in
    let stated = message_members frame target ++ values_of frame target true in
    ap (λ (cause : Option Json). frame_by cause line)
    (in_values (codes "not_decoded") body frame target true (is_stated (codes "not_decoded") refl refl refl) refl refl refl)
    ∙ ap₂ (λ (there wanted : ℕ). wrong_size_text there wanted) (count_stated body frame stated is)
    (ap (λ (value : Option Json). digits_value 10 (text_in value))
    (in_values (codes "size") body frame target true (is_stated (codes "size") refl refl refl) refl refl refl)
    ∙ value_is target.plan.size fits)

-- the signals of a message
message_stated : (body : List ℕ) (frame : Frame) (target : Target)
    → signals_by (members_of (signal_members frame.bytes target.plan))
    ≡ signals_text frame.bytes (shown_rows frame.bytes target.plan target.plan.rows)
    → stated_by (message_line body frame target false) ≡ message_text frame target
unfolding stated_by message_text
message_stated body frame target signals =
    let line = message_line body frame target false in
    let values = values_of frame target false in
    let stated = message_members frame target ++ values in
    let rest = rest_members (rest_of body) in
    let all = signals_text frame.bytes (shown_rows frame.bytes target.plan target.plan.rows) in
    let name : text_at (codes "message") line ≡ target.message.head.name =
    ap text_in (at_stated (codes "message") body frame stated (is_stated (codes "message") refl refl refl)) in
    let group : group_by (value_at (codes "j1939") line) ≡ bracket_text frame.identifier target.group =
    ap group_by (at_stated (codes "j1939") body frame stated (is_stated (codes "j1939") refl refl refl))
    ∙ group_stated frame.identifier target.group values rest
    (refl, none_among (codes "j1939") (keys_of rest) rest_keys (rest_among (rest_of body)) refl) in
    let shown : signals_by (members_in (value_at (codes "signals") line)) ≡ all =
    ap (λ (value : Option Json). signals_by (members_in value))
    (in_values (codes "signals") body frame target false (is_stated (codes "signals") refl refl refl) refl refl refl) ∙ signals in
    ap (λ (cause : Option Json). frame_by cause line)
    (in_values (codes "not_decoded") body frame target false (is_stated (codes "not_decoded") refl refl refl) refl refl refl
    ∙ absent (codes "not_decoded") rest
    (none_among (codes "not_decoded") (keys_of rest) rest_keys (rest_among (rest_of body)) refl))
    ∙ ap (λ (text : List ℕ). text ++ (group_by (value_at (codes "j1939") line) ++ (codes "("
    ++ (signals_by (members_in (value_at (codes "signals") line)) ++ codes ")")))) name
    ∙ ap (λ (text : List ℕ). target.message.head.name ++ (text ++ (codes "("
    ++ (signals_by (members_in (value_at (codes "signals") line)) ++ codes ")")))) group
    ∙ ap (λ (text : List ℕ). target.message.head.name ++ (bracket_text frame.identifier target.group ++ (codes "("
    ++ (text ++ codes ")")))) shown

either_stated : (body : List ℕ) (frame : Frame) (target : Target) (short : Bool) → is_data frame ≡ true → target.plan.size < 2 ^ 64
    → signals_by (members_of (signal_members frame.bytes target.plan))
    ≡ signals_text frame.bytes (shown_rows frame.bytes target.plan target.plan.rows)
    → stated_by (message_line body frame target short)
    ≡ (if short then wrong_size_text (length frame.bytes) target.plan.size else message_text frame target)
either_stated body frame target true is fits signals = size_stated body frame target is fits
either_stated body frame target false is fits signals = message_stated body frame target signals

size_fits : (database : Database) (message : Message) → IsMessage message → (plan_of database message).size < 2 ^ 64
unfolding plan_in
size_fits database message is = omega (arith, leb-true message.head.size 1785 is.head.size)

target_stated : (body : List ℕ) (short : Short) (database : Database) (frame : Frame) (target : Target) → IsDatabase database
    → ShowsBytes database → IsKnown short database target → is_data frame ≡ true
    → stated_by (members_of (saying body frame (data_stated frame (Some target)))) ≡ data_text frame (Some target)
target_stated body short database frame target is shows known carries =
    let message : IsMessage known.message = all_at IsMessage database.messages known.at known.message is.messages known.there in
    subst (λ (it : Target). stated_by (members_of (saying body frame (data_stated frame (Some it)))) ≡ data_text frame (Some it))
    (sym known.is)
    (either_stated body frame (target_of short database known.message)
    (is_refused short (length frame.bytes) (plan_of database known.message).size) carries (size_fits database known.message message)
    (signals_stated frame.bytes database known.message known.at shows known.there))

-- ---- frames

unknown_stated : (body : List ℕ) (frame : Frame) → frame.identifier < 2 ^ 29
    → stated_by (members_of (saying body frame (data_stated frame None))) ≡ unknown_text frame.identifier
unfolding stated_by
unknown_stated body frame fits =
    let stated = data_stated frame None in
    ap (λ (cause : Option Json). frame_by cause (members_of (saying body frame stated)))
    (at_stated (codes "not_decoded") body frame stated (is_stated (codes "not_decoded") refl refl refl))
    ∙ ap unknown_text (identifier_stated body frame stated fits)

data_frame_stated : (body : List ℕ) (short : Short) (database : Database) (frame : Frame) (target : Option Target)
    → IsDatabase database → ShowsBytes database → frame.identifier < 2 ^ 29 → is_data frame ≡ true
    → chosen_target short database frame ≡ target
    → stated_by (members_of (saying body frame (data_stated frame target))) ≡ data_text frame target
data_frame_stated body short database frame None is shows fits carries found = unknown_stated body frame fits
data_frame_stated body short database frame (Some target) is shows fits carries found =
    target_stated body short database frame target is shows (known short database frame target found) carries

plain_stated : (body : List ℕ) (frame : Frame) (cause text : List ℕ) → cause_by cause
    (members_of (saying body frame ((codes "not_decoded", string cause) ∷ []))) ≡ text
    → stated_by (members_of (saying body frame ((codes "not_decoded", string cause) ∷ []))) ≡ text
unfolding stated_by
plain_stated body frame cause text is =
    let stated = (codes "not_decoded", string cause) ∷ [] in
    ap (λ (found : Option Json). frame_by found (members_of (saying body frame stated)))
    (at_stated (codes "not_decoded") body frame stated (is_stated (codes "not_decoded") refl refl refl)) ∙ is

kind_stated : (body : List ℕ) (short : Short) (database : Database) (frame : Frame) (kind : Kind)
    → IsDatabase database → ShowsBytes database → frame.identifier < 2 ^ 29 → frame.kind ≡ kind
    → stated_by (members_of (saying body frame (stated_members kind frame (chosen_target short database frame))))
    ≡ text_of_kind kind frame (chosen_target short database frame)
kind_stated body short database frame Error is shows fits same =
    plain_stated body frame (codes "error frame") (codes "Error frame") refl
kind_stated body short database frame Remote is shows fits same =
    plain_stated body frame (codes "remote frame") (codes "Remote frame") refl
kind_stated body short database frame Classic is shows fits same =
    data_frame_stated body short database frame (chosen_target short database frame) is shows fits (ap is_data_kind same) refl
kind_stated body short database frame Fd is shows fits same =
    data_frame_stated body short database frame (chosen_target short database frame) is shows fits (ap is_data_kind same) refl

frame_stated : (body : List ℕ) (bus : Bus) (frame : Frame) → IsDatabase bus.database → ShowsBytes bus.database
    → frame.identifier < 2 ^ 29
    → stated_by (members_of (known_members body frame (chosen_target bus.short bus.database frame)))
    ≡ frame_text bus.short bus.database frame
unfolding known_members
frame_stated body bus frame is shows fits = kind_stated body bus.short bus.database frame frame.kind is shows fits refl

pub reports_no_less : LinesAreGiven → ReportsNoLess
unfolding line_members
reports_no_less given bus line frame is shows found =
    ap (λ (it : Option Frame). stated_by (members_of (members_by bus (body_of line) it))) found
    ∙ frame_stated (body_of line) bus frame is shows (identifier_fits given (body_of line) frame found)
