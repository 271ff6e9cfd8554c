-- The lines of a database, by their indexes.
use Rattle.std.proofs.Common.{◌≡◌, ℕ, zero, suc, ◌+◌, ◌<◌, List, [], ◌∷◌, ◌++◌, Some, None, length, map, slice_get, refl, sym}
use Rattle.std.proofs.Common.{ap, ◌∙◌, arith}
use Rattle.std.specs.Option.{option_map}
use Rattle.std.proofs.lemmas.List.{length-map, length-append}
use Rattle.std.proofs.lemmas.Option.{slice_get-map}
use Rattle.dbc_records.specs.Records.{Message}
use Rattle.dbc_records.specs.Databases.{Database}
use Rattle.can_layout.specs.Plans.{Plan, plan_of}
use Rattle.can_json_dump.specs.Messages.{message_json}
use Rattle.can_json_dump.specs.Dumps.{json_line, rest_json, dump_lines}

pub as_many_lines : (database : Database) → length (dump_lines database) ≡ length database.messages + 1
as_many_lines database =
    length-append (map (λ message. json_line (message_json database message)) database.messages)
    (json_line (rest_json database) ∷ [])
    ∙ ap (λ count. count + 1) (length-map database.messages (λ message. json_line (message_json database message)))

front_at : {A : Type 0} (xs ys : List A) (index : ℕ) → index < length xs → slice_get (xs ++ ys) index ≡ slice_get xs index
front_at [] ys index below = absurd (omega (arith, below))
front_at (x ∷ xs) ys zero below = refl
front_at (x ∷ xs) ys (suc index) below = front_at xs ys index (omega (arith, below))

last_at : {A : Type 0} (xs : List A) (last : A) (index : ℕ) → index ≡ length xs → slice_get (xs ++ last ∷ []) index ≡ Some last
last_at [] last zero is = refl
last_at [] last (suc index) is = absurd (omega (arith, is))
last_at (x ∷ xs) last zero is = absurd (omega (arith, is))
last_at (x ∷ xs) last (suc index) is = last_at xs last index (omega (arith, is))

pub plan_is : (database : Database) (index : ℕ) (message : Message) (plan : Plan) → Some message ≡ slice_get database.messages index
    → Some plan ≡ slice_get (map (plan_of database) database.messages) index → plan ≡ plan_of database message
plan_is database index message plan here planned =
    let same : Some plan ≡ Some (plan_of database message) =
    planned ∙ slice_get-map (plan_of database) database.messages index ∙ ap (option_map (plan_of database)) (sym here) in
    cc

pub message_line_at : (database : Database) (index : ℕ) (message : Message) (line : List ℕ)
    → Some message ≡ slice_get database.messages index → index < length database.messages
    → line ≡ json_line (message_json database message) → Some line ≡ slice_get (dump_lines database) index
message_line_at database index message line here below is =
    let of : Message → List ℕ = λ message. json_line (message_json database message) in
    ap (λ line. Some line) is ∙ ap (option_map of) here ∙ sym (slice_get-map of database.messages index)
    ∙ sym (front_at (map of database.messages) (json_line (rest_json database) ∷ []) index
    (omega (arith, below, length-map database.messages of)))

pub rest_line_at : (database : Database) (index : ℕ) (line : List ℕ) → index ≡ length database.messages
    → line ≡ json_line (rest_json database) → Some line ≡ slice_get (dump_lines database) index
rest_line_at database index line is last =
    let of : Message → List ℕ = λ message. json_line (message_json database message) in
    ap (λ line. Some line) last
    ∙ sym (last_at (map of database.messages) (json_line (rest_json database)) index
    (is ∙ sym (length-map database.messages of)))
