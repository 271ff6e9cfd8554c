-- The object of a line reads back from its text, and no key occurs twice.
use Rattle.std.proofs.Common.{◌≡◌, ℕ, ◌+◌, ◌*◌, ◌/◌, ◌%◌, ◌<◌, ◌^◌, suc, Bool, true, false, inl, inr, List, [], ◌∷◌, ◌++◌}
use Rattle.std.proofs.Common.{length, Option, Some, None}
use Rattle.std.proofs.Common.{if◌then◌else◌, refl, sym, subst, arith, codes, decimal}
use Rattle.std.specs.Prelude.{nat_le}
use Rattle.std.proofs.lemmas.Bool.{leb-true}
use Rattle.hex.specs.Hex.{encode_upper}
use Rattle.json.specs.Json.{Json, string, number}
use Rattle.json.proofs.Printed.Trees.{document-print}
use Rattle.json.proofs.Printed.Decimals.{IsNumber-decimal}
use Rattle.can_json_texts.specs.Members.{object_of, text_members, hex_key}
use Rattle.dbc_records.specs.Records.{IsMessage}
use Rattle.dbc_records.specs.Databases.{Database, IsDatabase}
use Rattle.can_entries.specs.Groups.{group_number_of, priority_of, source_of, specific_of, format_of}
use Rattle.can_layout.specs.Plans.{plan_in}
use Rattle.can_frames.specs.Frames.{Frame, is_data, body_of, frame_of}
use Rattle.can_frames.specs.declared.frame.Kind.{Kind}
use Rattle.can_frames.specs.declared.frame.Kind.TheVariants.{Classic, Fd, Remote, Error}
use Rattle.can_decode.specs.declared.short.Short.{Short}
use Rattle.can_decode.specs.DecodedLines.{Bus, Target, target_of, chosen_target, is_refused}
use Rattle.can_json_lines.specs.Signals.{signal_members}
use Rattle.can_json_lines.specs.Lines.{kind_word, data_members, frame_members, group_members, j1939_members}
use Rattle.can_json_lines.specs.Lines.{message_members, wrong_size_members, values_members, data_stated, stated_members}
use Rattle.can_json_lines.specs.Lines.{rest_members}
use Rattle.can_json_lines.specs.Lines.{interface_of, rest_of, time_of, known_members, members_by, line_members, line_json}
use Rattle.can_json_laws.specs.LineLaws.{ParsesBack, KeysAreUnique}
use Rattle.can_json_laws.proofs.Among.{Among, distinct_names, distinct_among, keys_of, both_among}
use Rattle.can_json_laws.proofs.Sound.{IsSound, AreSound, sound_append, string_sound, number_sound, boolean_sound, object_sound}
use Rattle.can_json_laws.proofs.Sound.{texts_sound, texts_among}
use Rattle.can_json_laws.proofs.Stamps.{LinesAreGiven, time_number}
use Rattle.can_json_laws.proofs.Targets.{IsKnown, known, all_at, identifier_fits}
use Rattle.can_json_laws.proofs.Readings.{signals_sound}

-- a value that is nested to as many levels as are allowed, and one more
one_more : (levels : ℕ) (value : Json) → IsSound levels value → IsSound (suc levels) value
one_more levels value sound = (sound.0, (sound.1.0, omega (arith, sound.1.1)))

-- ---- keys

abbrev pub interface_keys : List (List ℕ)
interface_keys = codes "interface" ∷ hex_key (codes "interface") ∷ []

abbrev pub frame_keys : List (List ℕ)
frame_keys = codes "id" ∷ codes "extended" ∷ codes "kind" ∷ codes "data" ∷ []

abbrev pub head_keys : List (List ℕ)
head_keys = codes "message" ∷ codes "number" ∷ codes "j1939" ∷ []

abbrev pub value_keys : List (List ℕ)
value_keys = codes "signals" ∷ codes "not_decoded" ∷ codes "size" ∷ []

abbrev pub stated_keys : List (List ℕ)
stated_keys = head_keys ++ value_keys

abbrev pub rest_keys : List (List ℕ)
rest_keys = codes "rest" ∷ hex_key (codes "rest") ∷ []

abbrev all_keys : List (List ℕ)
all_keys = (codes "time" ∷ []) ++ (interface_keys ++ (frame_keys ++ (stated_keys ++ rest_keys)))

-- ---- frames

data_by : (bytes : List ℕ) (test : Bool) → AreSound 2 (if test then (codes "data", string (encode_upper bytes)) ∷ [] else [])
data_by bytes true = (string_sound 2 (encode_upper bytes), tt)
data_by bytes false = tt

data_among_by : (bytes : List ℕ) (test : Bool)
    → Among (keys_of (if test then (codes "data", string (encode_upper bytes)) ∷ [] else [])) (codes "data" ∷ [])
data_among_by bytes true = inl (refl, tt)
data_among_by bytes false = tt

frame_sound : (frame : Frame) → frame.identifier < 2 ^ 29 → AreSound 2 (frame_members frame)
frame_sound frame fits = (
  number_sound 2 (decimal frame.identifier) (IsNumber-decimal frame.identifier (omega (arith, fits))),
  (boolean_sound 2 frame.extended, (string_sound 2 (kind_word frame.kind), data_by frame.bytes (is_data frame))),
)

pub data_among : (frame : Frame) → Among (keys_of (data_members frame)) (codes "data" ∷ [])
data_among frame = data_among_by frame.bytes (is_data frame)

pub frame_among : (frame : Frame) → Among (keys_of (frame_members frame)) frame_keys
frame_among frame = inl (refl, inl (refl, inl (refl, data_among frame)))

-- ---- J1939

small_number : (n : ℕ) → n < 2 ^ 64 → (levels : ℕ) → IsSound levels (number (decimal n))
small_number n fits levels = number_sound levels (decimal n) (IsNumber-decimal n fits)

destination_by : (identifier : ℕ) (test : Bool)
    → AreSound 0 (if test then [] else (codes "destination", number (decimal (specific_of identifier))) ∷ [])
destination_by identifier true = tt
destination_by identifier false = (small_number (specific_of identifier) (omega arith) 0, tt)

destination_among : (identifier : ℕ) (test : Bool)
    → Among (keys_of (if test then [] else (codes "destination", number (decimal (specific_of identifier))) ∷ []))
    (codes "destination" ∷ [])
destination_among identifier true = tt
destination_among identifier false = inl (refl, tt)

specific_below : (identifier : ℕ) (test : Bool)
    → identifier / 2 ^ 25 % 2 * 2 ^ 17 + identifier / 2 ^ 24 % 2 * 2 ^ 16 + identifier / 2 ^ 16 % 256 * 2 ^ 8
    + (if test then identifier / 2 ^ 8 % 256 else 0) < 2 ^ 64
specific_below identifier true = omega arith
specific_below identifier false = omega arith

group_below : (identifier : ℕ) → group_number_of identifier < 2 ^ 64
unfolding group_number_of
group_below identifier = specific_below identifier (nat_le 240 (format_of identifier))

abbrev group_keys : List (List ℕ)
group_keys = codes "pgn" ∷ codes "priority" ∷ codes "source" ∷ codes "destination" ∷ []

group_sound : (identifier : ℕ) → IsSound 1 (object_of (group_members identifier))
group_sound identifier =
    object_sound 0 (group_members identifier) (
      small_number (group_number_of identifier) (group_below identifier) 0,
      (
        small_number (priority_of identifier) (omega arith) 0,
        (
          small_number (source_of identifier) (omega arith) 0,
          destination_by identifier (nat_le 240 (format_of identifier)),
        ),
      ),
    )
    (distinct_among (keys_of (group_members identifier)) group_keys
    (inl (refl, inl (refl, inl (refl, destination_among identifier (nat_le 240 (format_of identifier))))))
    (distinct_names group_keys refl))

j1939_sound : (identifier : ℕ) (group : Bool) → AreSound 2 (j1939_members identifier group)
j1939_sound identifier true = (one_more 1 (object_of (group_members identifier)) (group_sound identifier), tt)
j1939_sound identifier false = tt

j1939_among : (identifier : ℕ) (group : Bool) → Among (keys_of (j1939_members identifier group)) (codes "j1939" ∷ [])
j1939_among identifier true = inl (refl, tt)
j1939_among identifier false = tt

-- ---- messages

pub head_among : (frame : Frame) (target : Target) → Among (keys_of (message_members frame target)) head_keys
head_among frame target = inl (refl, inl (refl, j1939_among frame.identifier target.group))

head_sound : (frame : Frame) (target : Target) → target.message.head.number < 2 ^ 32 → AreSound 2 (message_members frame target)
head_sound frame target fits = (
  string_sound 2 target.message.head.name,
  (
    small_number target.message.head.number (omega (arith, fits)) 2,
    j1939_sound frame.identifier target.group,
  ),
)

values_by : (frame : Frame) (target : Target) (test : Bool) → target.plan.size < 2 ^ 64
    → IsSound 2 (object_of (signal_members frame.bytes target.plan))
    → AreSound 2 (if test then wrong_size_members target.plan.size
    else (codes "signals", object_of (signal_members frame.bytes target.plan)) ∷ [])
values_by frame target true fits sound = (string_sound 2 (codes "wrong size"), (small_number target.plan.size fits 2, tt))
values_by frame target false fits sound = (sound, tt)

pub values_among_by : (frame : Frame) (target : Target) (test : Bool)
    → Among (keys_of (if test then wrong_size_members target.plan.size
    else (codes "signals", object_of (signal_members frame.bytes target.plan)) ∷ [])) value_keys
values_among_by frame target true = inr (inl (refl, inl (refl, tt)))
values_among_by frame target false = inl (refl, tt)

-- a target that is a message of the database
target_sound : (short : Short) (database : Database) (frame : Frame) (target : Target) → IsDatabase database
    → IsKnown short database target → AreSound 2 (data_stated frame (Some target))
unfolding plan_in
target_sound short database frame target is known =
    let message : IsMessage known.message = all_at IsMessage database.messages known.at known.message is.messages known.there in
    subst (λ (it : Target). AreSound 2 (data_stated frame (Some it))) (sym known.is) (
    sound_append 2 (message_members frame (target_of short database known.message))
    (values_members frame (target_of short database known.message))
    (head_sound frame (target_of short database known.message) message.head.number)
    (values_by frame (target_of short database known.message)
    (is_refused short (length frame.bytes) known.message.head.size)
    (omega (arith, leb-true known.message.head.size 1785 message.head.size))
    (signals_sound frame.bytes database known.message message))
    )

data_sound : (short : Short) (database : Database) (frame : Frame) (target : Option Target) → IsDatabase database
    → chosen_target short database frame ≡ target → AreSound 2 (data_stated frame target)
data_sound short database frame None is found = (string_sound 2 (codes "unknown id"), tt)
data_sound short database frame (Some target) is found =
    target_sound short database frame target is (known short database frame target found)

stated_sound : (short : Short) (database : Database) (kind : Kind) (frame : Frame) (target : Option Target) → IsDatabase database
    → chosen_target short database frame ≡ target → AreSound 2 (stated_members kind frame target)
stated_sound short database Error frame target is found = (string_sound 2 (codes "error frame"), tt)
stated_sound short database Remote frame target is found = (string_sound 2 (codes "remote frame"), tt)
stated_sound short database Classic frame target is found = data_sound short database frame target is found
stated_sound short database Fd frame target is found = data_sound short database frame target is found

cause_among : (cause : List ℕ) → Among (keys_of ((codes "not_decoded", string cause) ∷ [])) stated_keys
cause_among cause = inr (inr (inr (inr (inl (refl, tt)))))

data_stated_among : (frame : Frame) (target : Option Target) → Among (keys_of (data_stated frame target)) stated_keys
data_stated_among frame None = cause_among (codes "unknown id")
data_stated_among frame (Some target) =
    both_among (message_members frame target) (values_members frame target) head_keys value_keys (head_among frame target)
    (values_among_by frame target (is_refused target.short (length frame.bytes) target.plan.size))

stated_among : (kind : Kind) (frame : Frame) (target : Option Target) → Among (keys_of (stated_members kind frame target))
    stated_keys
stated_among Error frame target = cause_among (codes "error frame")
stated_among Remote frame target = cause_among (codes "remote frame")
stated_among Classic frame target = data_stated_among frame target
stated_among Fd frame target = data_stated_among frame target

-- ---- lines

rest_sound : (rest : List ℕ) → AreSound 2 (rest_members rest)
rest_sound [] = tt
rest_sound (b ∷ rest) = texts_sound 2 (codes "rest") (b ∷ rest)

pub rest_among : (rest : List ℕ) → Among (keys_of (rest_members rest)) rest_keys
rest_among [] = tt
rest_among (b ∷ rest) = texts_among (codes "rest") (b ∷ rest)

known_sound : LinesAreGiven → (bus : Bus) (body : List ℕ) (frame : Frame) → IsDatabase bus.database → frame_of body ≡ Some frame
    → IsSound 3 (object_of (known_members body frame (chosen_target bus.short bus.database frame)))
unfolding known_members
known_sound given bus body frame is found =
    let target = chosen_target bus.short bus.database frame in
    let came = text_members (codes "interface") (interface_of body) in
    let stated = stated_members frame.kind frame target in
    let rest = rest_members (rest_of body) in
    object_sound 2 ((codes "time", number (time_of body)) ∷ (came ++ (frame_members frame ++ (stated ++ rest)))) (
      number_sound 2 (time_of body) (time_number given body frame found),
      sound_append 2 came (frame_members frame ++ (stated ++ rest)) (texts_sound 2 (codes "interface") (interface_of body))
          (sound_append 2 (frame_members frame) (stated ++ rest) (frame_sound frame (identifier_fits given body frame found))
          (sound_append 2 stated rest (stated_sound bus.short bus.database frame.kind frame target is refl)
          (rest_sound (rest_of body)))),
    )
    (distinct_among (keys_of ((codes "time", number (time_of body)) ∷ (came ++ (frame_members frame ++ (stated ++ rest))))) all_keys
    (inl (
      refl,
      both_among came (frame_members frame ++ (stated ++ rest)) interface_keys (frame_keys ++ (stated_keys ++ rest_keys))
          (texts_among (codes "interface") (interface_of body))
          (both_among (frame_members frame) (stated ++ rest) frame_keys (stated_keys ++ rest_keys) (frame_among frame)
          (both_among stated rest stated_keys rest_keys (stated_among frame.kind frame target) (rest_among (rest_of body)))),
    ))
    (distinct_names all_keys refl))

line_sound_by : LinesAreGiven → (bus : Bus) (body : List ℕ) (frame : Option Frame) → IsDatabase bus.database → frame_of body ≡ frame
    → IsSound 3 (object_of (members_by bus body frame))
line_sound_by given bus body None is found =
    one_more 2 (object_of (text_members (codes "line") body)) (one_more 1 (object_of (text_members (codes "line") body))
    (object_sound 0 (text_members (codes "line") body) (texts_sound 0 (codes "line") body)
    (distinct_among (keys_of (text_members (codes "line") body)) (codes "line" ∷ hex_key (codes "line") ∷ [])
    (texts_among (codes "line") body) (distinct_names (codes "line" ∷ hex_key (codes "line") ∷ []) refl))))
line_sound_by given bus body (Some frame) is found = known_sound given bus body frame is found

pub line_sound : LinesAreGiven → (bus : Bus) (line : List ℕ) → IsDatabase bus.database → IsSound 3 (line_json bus line)
unfolding line_members
line_sound given bus line is = line_sound_by given bus (body_of line) (frame_of (body_of line)) is refl

pub parses_back : LinesAreGiven → ParsesBack
parses_back given bus line is =
    let sound = line_sound given bus line is in document-print (line_json bus line) sound.0 (omega (arith, sound.1.1))

pub keys_are_unique : LinesAreGiven → KeysAreUnique
keys_are_unique given bus line is = (line_sound given bus line is).1.0
