-- What is prepared of the message at an index.
use Rattle.std.proofs.Common.{◌≡◌, ℕ, List, map, Some, None, Option, slice_get, sym, ap, ◌∙◌}
use Rattle.std.specs.Option.{option_map}
use Rattle.std.proofs.lemmas.Option.{slice_get-map}
use Rattle.dbc_records.specs.Records.{Message}
use Rattle.dbc_records.specs.Databases.{Database}
use Rattle.can_layout.specs.Plans.{Plan, plan_of}
use Rattle.can_layout.specs.declared.row.Row.{Row}
use Rattle.can_decode.specs.declared.short.Short.{Short}
use Rattle.can_decode.specs.DecodedLines.{Target, target_of}
use Rattle.can_json_lines.specs.PreparedTexts.{MessageTexts, texts_by, all_texts}

-- the texts of the message at an index
pub texts_at : {A B : Type 0} (head_of : Message → A) (signal_of : Message → Row → B) (database : Database) (index : ℕ)
    (message : Message) (plan : Plan) (texts : MessageTexts A B)
    → Some message ≡ slice_get database.messages index
    → Some plan ≡ option_map (plan_of database) (slice_get database.messages index)
    → texts ≡ texts_by head_of signal_of message plan
    → Some texts ≡ slice_get (all_texts head_of signal_of database) index
texts_at head_of signal_of database index message plan texts found planned is =
    let by = texts_by head_of signal_of in
    let mine : Some plan ≡ Some (plan_of database message) = planned ∙ ap (λ one. option_map (plan_of database) one) (sym found) in
    ap (λ one. Some one) is ∙ ap (λ one. option_map (by message) one) mine
    ∙ ap (λ one. option_map (λ message. by message (plan_of database message)) one) found
    ∙ sym (slice_get-map (λ message. by message (plan_of database message)) database.messages index)

-- the texts at the index of a target are those of its message and plan
pub texts_of_target : {A B : Type 0} (head_of : Message → A) (signal_of : Message → Row → B) (short : Short) (database : Database)
    (index : ℕ) (target : Target) (texts : MessageTexts A B)
    → Some target ≡ option_map (target_of short database) (slice_get database.messages index)
    → Some texts ≡ slice_get (all_texts head_of signal_of database) index
    → texts ≡ texts_by head_of signal_of target.message target.plan
texts_of_target {A} {B} head_of signal_of short database index target texts is found =
    here (slice_get database.messages index) is
    (found ∙ slice_get-map (λ message. texts_by head_of signal_of message (plan_of database message)) database.messages index)
  where
    here : (message : Option Message) → Some target ≡ option_map (target_of short database) message
        → Some texts ≡ option_map (λ message. texts_by head_of signal_of message (plan_of database message)) message
        → texts ≡ texts_by head_of signal_of target.message target.plan
    here None is found = absurd (let no : Some target ≡ None = is in cc)
    here (Some message) is found =
        let same : target ≡ target_of short database message = cc in
        let mine : texts ≡ texts_by head_of signal_of message (plan_of database message) = cc in
        mine ∙ ap (λ (one : Target). texts_by head_of signal_of one.message one.plan) (sym same)
