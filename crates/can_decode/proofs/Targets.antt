-- What a frame goes to.
use Rattle.std.proofs.Common.{◌≡◌, ℕ, List, map, Some, slice_get, sym, ap, ◌∙◌}
use Rattle.std.specs.Option.{option_map}
use Rattle.std.proofs.lemmas.Option.{slice_get-map}
use Rattle.dbc_records.specs.Records.{Message}
use Rattle.dbc_records.specs.Databases.{Database}
use Rattle.can_entries.specs.Groups.{is_group_number}
use Rattle.can_layout.specs.Plans.{Plan, plan_of}
use Rattle.can_decode.specs.declared.short.Short.{Short}
use Rattle.can_decode.specs.DecodedLines.{target_of}

pub target_is : (short : Short) (database : Database) (plans : List Plan) (index : ℕ) (message : Message) (plan : Plan)
    → plans ≡ map (plan_of database) database.messages → Some message ≡ slice_get database.messages index
    → Some plan ≡ slice_get plans index
    → Some (record { message = message; plan = plan; group = is_group_number message.head.number database; short = short })
    ≡ option_map (target_of short database) (slice_get database.messages index)
target_is short database plans index message plan all found planned =
    let mine : Some plan ≡ Some (plan_of database message) = planned ∙ ap (λ plans. slice_get plans index) all
    ∙ slice_get-map (plan_of database) database.messages index ∙ ap (λ found. option_map (plan_of database) found)
    (sym found) in
    ap (λ found. option_map (λ plan. record {
      message = message;
      plan = plan;
      group = is_group_number message.head.number database;
      short = short;
    }) found) mine
    ∙ ap (λ found. option_map (target_of short database) found) found
