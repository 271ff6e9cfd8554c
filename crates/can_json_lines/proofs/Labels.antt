-- Texts that are prepared with plans.
use Rattle.std.proofs.Common.{◌≡◌, ℕ, Bool, true, false, if◌then◌else◌, map, List, [], ◌∷◌, ◌++◌, refl, sym, ap, ◌∙◌, append_assoc}
use Rattle.std.proofs.Common.{append-nil}
use Rattle.std.specs.Prelude.{codes}
use Rattle.json.specs.Json.{string, number}
use Rattle.std.specs.List.{flat_map}
use Rattle.json.specs.Print.{quoted}
use Rattle.can_json_texts.specs.Members.{Member, Key, keyed, member_text, further_member, further_members, members_text}
use Rattle.can_json_texts.specs.Members.{object_text}
use Rattle.can_json_texts.specs.Members.{object_of, json_text}
use Rattle.can_json_texts.proofs.Objects.{objects_are_printed, number_printed}
use Rattle.can_bits.specs.Bits.{raw_value}
use Rattle.can_layout.specs.Decoders.{first_entry}
use Rattle.can_layout.specs.Plans.{Plan}
use Rattle.can_layout.specs.declared.row.Row.{Row}
use Rattle.can_layout.specs.declared.row.Reading.{Reading}
use Rattle.can_layout.specs.declared.row.Reading.TheVariants.{Refused, Read}
use Rattle.can_decode.specs.DecodedLines.{listed, shown_rows}
use Rattle.can_json_lines.specs.Signals.{value_text, given_members, reading_members, signal_member, signal_members}
use Rattle.can_json_lines.specs.inner.Prepared.{value_label, row_label, next_label, after_label}
use Rattle.can_json_lines.proofs.Pushing.{pushed_then}

-- an object of one member
one_object : (one : Member) → 123 ∷ (member_text one ++ codes "}") ≡ object_text (one ∷ [])
one_object one = ap (λ (text : List ℕ). 123 ∷ (text ++ codes "}")) (sym (append-nil (member_text one)))

pub refused_object : (old mid new word : List ℕ) → new ≡ mid ++ 125 ∷ []
    → mid ≡ old ++ keyed (record { mark = 123; name = codes "refused" }) (string word)
    → new ≡ old ++ object_text ((codes "refused", string word) ∷ [])
refused_object old mid new word last begun =
    pushed_then old mid new (keyed (record { mark = 123; name = codes "refused" }) (string word)) (125 ∷ []) last begun
    ∙ ap (λ (text : List ℕ). old ++ text) (one_object (codes "refused", string word))

-- two members after others
pub two_further : (old mid new : List ℕ) (first second : Member) → new ≡ mid ++ further_member second → mid ≡ old
    ++ further_member first
    → new ≡ old ++ further_members (first ∷ second ∷ [])
two_further old mid new first second last begun =
    pushed_then old mid new (further_member first) (further_member second) last begun
    ∙ ap (λ (text : List ℕ). old ++ (further_member first ++ text)) (sym (append-nil (further_member second)))

-- ---- signals

-- the label of a signal, and what follows it
signal_text : (name bytes : List ℕ) (reading : Reading)
    → (quoted name ++ (codes ":" ++ value_label reading)) ++ after_label bytes reading
    ≡ quoted name ++ (codes ":" ++ json_text (object_of (reading_members bytes reading)))
signal_text name bytes (Refused cause) =
    append-nil (quoted name ++ (codes ":" ++ value_label (Refused cause)))
    ∙ ap (λ (text : List ℕ). quoted name ++ (codes ":" ++ text)) (sym (objects_are_printed (reading_members bytes (Refused cause))))
signal_text name bytes (Read decoder) =
    let raw = raw_value bytes decoder.signed decoder.bits in
    let value = value_text decoder raw in
    let given = further_members (given_members decoder (first_entry raw decoder.entries)) in
    let key = quoted (codes "value") in
    append_assoc (quoted name) (codes ":" ++ value_label (Read decoder)) (value ++ (given ++ codes "}"))
    ∙ ap (λ (text : List ℕ). quoted name ++ (codes ":" ++ (codes "{" ++ text)))
    (append_assoc key (codes ":") (value ++ (given ++ codes "}"))
    ∙ ap (λ (text : List ℕ). key ++ (codes ":" ++ text)) (sym (append_assoc value given (codes "}")))
    ∙ sym (append_assoc key (codes ":" ++ (value ++ given)) (codes "}"))
    ∙ ap (λ (text : List ℕ). text ++ codes "}")
    (sym (append_assoc key (codes ":" ++ value) given)
    ∙ ap (λ (text : List ℕ). (key ++ (codes ":" ++ text)) ++ given) (sym (number_printed value))))
    ∙ ap (λ (text : List ℕ). quoted name ++ (codes ":" ++ text)) (sym (objects_are_printed (reading_members bytes (Read decoder))))

signal_pushed : (old mid new bytes : List ℕ) (row : Row) → new ≡ mid ++ after_label bytes row.reading → mid ≡ old
    ++ row_label row
    → new ≡ old ++ member_text (signal_member bytes row)
signal_pushed old mid new bytes row last begun =
    pushed_then old mid new (row_label row) (after_label bytes row.reading) last begun
    ∙ ap (λ (text : List ℕ). old ++ text) (signal_text row.name bytes row.reading)

-- a signal, after others or not
pub next_pushed : (some : Bool) (old mid new bytes : List ℕ) (row : Row) → new ≡ mid ++ after_label bytes row.reading
    → mid ≡ old ++ (if some then next_label row else row_label row)
    → new ≡ old ++ (if some then further_member (signal_member bytes row) else member_text (signal_member bytes row))
next_pushed true old mid new bytes row last begun =
    pushed_then old mid new (next_label row) (after_label bytes row.reading) last begun
    ∙ ap (λ (text : List ℕ). old ++ (44 ∷ text)) (signal_text row.name bytes row.reading)
next_pushed false old mid new bytes row last begun = signal_pushed old mid new bytes row last begun

-- the signals that are shown, as members
listed_members : (bytes : List ℕ) (rows : List Row)
    → listed (λ row. member_text (signal_member bytes row)) (λ row. further_member (signal_member bytes row)) rows
    ≡ members_text (map (signal_member bytes) rows)
listed_members bytes [] = refl
listed_members bytes (row ∷ rows) =
    ap (λ (text : List ℕ). member_text (signal_member bytes row) ++ text) (further_listed rows)
  where
    further_listed : (rows : List Row) → flat_map (λ row. further_member (signal_member bytes row)) rows
        ≡ further_members (map (signal_member bytes) rows)
    further_listed [] = refl
    further_listed (row ∷ rows) = ap (λ (text : List ℕ). further_member (signal_member bytes row) ++ text) (further_listed rows)

pub signals_pushed : (old first second new bytes : List ℕ) (plan : Plan) → new ≡ second ++ 125 ∷ []
    → second ≡ first ++ listed (λ row. member_text (signal_member bytes row)) (λ row. further_member (signal_member bytes row))
    (shown_rows bytes plan plan.rows)
    → first ≡ old ++ 123 ∷ [] → new ≡ old ++ object_text (signal_members bytes plan)
signals_pushed old first second new bytes plan last middle begun =
    let shown = listed (λ row. member_text (signal_member bytes row)) (λ row. further_member (signal_member bytes row))
    (shown_rows bytes plan plan.rows) in
    pushed_then old first new (123 ∷ []) (shown ++ 125 ∷ []) (pushed_then first second new shown (125 ∷ []) last middle) begun
    ∙ ap (λ (text : List ℕ). old ++ (123 ∷ (text ++ 125 ∷ []))) (listed_members bytes (shown_rows bytes plan plan.rows))
